-- The numbers of partitions that were counted by the bounds found are those of the meaning.
use Rattle.std.proofs.Common.{◌≡◌, ◌∙◌, ℕ, zero, suc, ◌+◌, ◌<◌, List, [], ◌∷◌, ◌++◌, Option, Some, None, length, map, take, get_or, All, refl, ap, ap₂, sym, subst, arith}
use Rattle.std.proofs.lemmas.List.{length-take-le, map-append, take_more}
use Rattle.std.proofs.lemmas.List.Elements.{All-contains, All-contains_itself, All-weaker}
use Rattle.std.specs.List.{Contains, slice_get}
use Rattle.std.specs.Option.{unwrap_or}
use Rattle.sc_base.specs.Lists.{at_or}
use Rattle.sc_value.specs.Keys.{KeyData}
use Rattle.sc_lineage.specs.ByNodes.{by_nodes}
use Rattle.sc_lineage.specs.Dependencies.{dependencies_of, parent_of, parents_of}
use Rattle.sc_lineage.specs.Meaning.{bounds_step, known_of, meanings_by, part_count_by, parts_step}
use Rattle.sc_lineage.specs.NodeData.{NodeData, reduce_by_key, group_by_key, sort_by_key, repartition, text_node, parallelize_node, each_node, union_node, coalesce_node, cache_node, shuffle_node, meet_node}
use Rattle.sc_lineage.specs.ScriptData.{WorkData, IsSoundScript}
use Rattle.sc_lineage.specs.declared.streams.Stream.{Stream}
use Rattle.sc_lineage.specs.Views.{node_data_of}
use Rattle.sc_lineage.specs.declared.nodes.Node.{Node}
use Rattle.sc_lineage.proofs.ByNodesLemmas.{by_nodes-push, fold_laws}
use Rattle.sc_lineage.proofs.MeaningLemmas.{part_count-step, parts_by_parents, reads_before}
use Rattle.sc_lineage.proofs.PlaceLemmas.{at_or-map_any, at_or-take, slice_get-at_or}
use Rattle.sc_stagecut.specs.Carrying.{AreRightBounds, CarriedData, HasBounds, is_unbounded}
use Rattle.sc_stagecut.specs.Counting.{counted_step}
use Rattle.sc_stagecut.specs.Reaching.{IsReached, dependencies_among, dependencies_at, followed_from}
use Rattle.sc_lineage.specs.Partitioners.{partitioners_of}
use Rattle.sc_stagecut.specs.declared.reads.Follow.TheVariants as follows
use Rattle.sc_stagecut.proofs.DependencyLemmas.{every, followed_before, same_parents}
use Rattle.sc_stagecut.proofs.MarkLemmas.{reaches-below, reaches-step}

-- one node more
pub counted-more : (bounds : List (Option (List KeyData))) (nodes : List Node) (i count : ℕ)
    (node : Node) (counts more : List ℕ) (found : Option (List KeyData))
    → i < length nodes → node ≡ get_or nodes i node
    → counts ≡ by_nodes (counted_step bounds) (map node_data_of (take i nodes))
    → found ≡ at_or bounds (length counts) None
    → count ≡ parts_step (unwrap_or found []) counts (node_data_of node)
    → more ≡ counts ++ count ∷ []
    → more ≡ by_nodes (counted_step bounds) (map node_data_of (take (i + 1) nodes))
counted-more bounds nodes i count node counts more found within at so_far is counted pushed =
    let step = counted_step bounds in
    let ns = map node_data_of (take i nodes) in
    pushed
    ∙ ap (λ n. counts ++ n ∷ [])
    (counted ∙ ap (λ (b : Option (List KeyData)). parts_step (unwrap_or b []) counts
    (node_data_of node)) is)
    ∙ ap (λ cs. cs ++ step cs (node_data_of node) ∷ []) so_far
    ∙ sym (by_nodes-push step ns (node_data_of node))
    ∙ ap (by_nodes step)
    (sym (ap (map node_data_of)
    (take_more nodes i node within ∙ ap (λ (n : Node). take i nodes ++ n ∷ []) (sym at))
    ∙ map-append node_data_of (take i nodes) (node ∷ [])))

-- bounds matter for sorts alone
same_bounds : (found : List (List Stream)) (bounds : List KeyData) (before : List ℕ)
    (node : NodeData)
    → ((parent n : ℕ) → node ≡ shuffle_node sort_by_key parent n → bounds ≡ bounds_step found node)
    → parts_step bounds before node ≡ parts_step (bounds_step found node) before node
same_bounds found bounds before (text_node name n) same = refl
same_bounds found bounds before (parallelize_node rows n) same = refl
same_bounds found bounds before (each_node kind parent e) same = refl
same_bounds found bounds before (union_node left right) same = refl
same_bounds found bounds before (coalesce_node parent n) same = refl
same_bounds found bounds before (cache_node parent) same = refl
same_bounds found bounds before (shuffle_node (reduce_by_key e) parent n) same = refl
same_bounds found bounds before (shuffle_node group_by_key parent n) same = refl
same_bounds found bounds before (shuffle_node sort_by_key parent n) same =
    ap (λ (bs : List KeyData). length bs + 1) (same parent n refl)
same_bounds found bounds before (shuffle_node repartition parent n) same = refl
same_bounds found bounds before (meet_node kind left right n) same = refl

-- a node's parents are followed
parents_followed : (nodes : List NodeData) (k : ℕ) (node : NodeData)
    → slice_get nodes k ≡ Some node → followed_from follows.Every nodes k ≡ parents_of node
parents_followed nodes k node is =
    ap (map parent_of) (every (dependencies_at nodes k))
    ∙ ap (λ (o : Option NodeData). map parent_of (dependencies_among (partitioners_of nodes) o)) is
    ∙ same_parents (partitioners_of nodes) (dependencies_of node)

module _ (work : WorkData) (carried : CarriedData) (node : ℕ)
    (sound : IsSoundScript work.script) (within : node < length work.script.nodes)
    (has : HasBounds work.script.nodes carried node) (right : AreRightBounds work carried) where
  abbrev nodes : List NodeData
  nodes = work.script.nodes

  abbrev found : List (List Stream)
  found = meanings_by (known_of work) work

  abbrev counts : List ℕ
  counts = by_nodes (counted_step carried.bounds) nodes

  -- the bounds of a sort that is reached are there and right
  bounds_at : (k parent n : ℕ) → IsReached nodes node k
      → slice_get nodes k ≡ Some (shuffle_node sort_by_key parent n)
      → (bounds : Option (List KeyData)) → at_or carried.bounds k None ≡ bounds
      → unwrap_or bounds [] ≡ bounds_step found (shuffle_node sort_by_key parent n)
  bounds_at k parent n reach is (Some bounds) at = right k parent n bounds is at
  bounds_at k parent n reach is None at =
      absurd (has k
      (record { reached = reach; unbounded = ap₂ is_unbounded is at }))

  right_below : (m k : ℕ) → k < m → IsReached nodes node k
      → at_or counts k 0 ≡ part_count_by (known_of work) work k
  right_below zero k below reach = absurd (omega arith)
  right_below (suc m) k below reach =
      let down = reaches-below (followed_from follows.Every nodes) node
      (followed_before work.script sound follows.Every) k reach in
      let at : k < length nodes = omega (arith, down) in
      let one = at_or nodes k (cache_node 0) in
      let is = slice_get-at_or nodes k (cache_node 0) at in
      let step = counted_step carried.bounds in
      let len : length (take k counts) ≡ k =
      length-take-le k counts (omega (arith, (fold_laws step).lengths nodes)) in
      let before = reads_before work.script k one sound is in
      let bounds = unwrap_or (at_or carried.bounds k None) [] in
      let Right : ℕ → Type 0 = λ q. at_or (take k counts) q 0 ≡ at_or (map length found) q 0 in
      let parents_right : All Right (parents_of one) =
      All-weaker (Contains (parents_of one)) Right
      (λ q c.
      let first : q < k = All-contains (λ p. p < k) (parents_of one) q before c in
      let P : List ℕ → Type 0 = λ ps. Contains ps q in
      at_or-take counts k q 0 first
      ∙ right_below m q (omega arith)
      (reaches-step (followed_from follows.Every nodes) node
      (followed_before work.script sound follows.Every) k q reach
      (subst P (sym (parents_followed nodes k one is)) c))
      ∙ sym (at_or-map_any length found q []))
      (parents_of one) (All-contains_itself (parents_of one)) in
      (fold_laws step).steps nodes k one 0 is
      ∙ ap (λ i. parts_step (unwrap_or (at_or carried.bounds i None) []) (take k counts) one) len
      ∙ parts_by_parents bounds (take k counts) (map length found) one parents_right
      ∙ same_bounds found bounds (map length found) one
      (λ parent n sort.
      bounds_at k parent n reach (is ∙ ap Some sort) (at_or carried.bounds k None) refl
      ∙ ap (bounds_step found) (sym sort))
      ∙ sym (part_count-step (known_of work) work k one sound is)

  pub counts_right : (k : ℕ) → IsReached nodes node k
      → at_or counts k 0 ≡ part_count_by (known_of work) work k
  counts_right k reach = right_below (suc k) k (omega arith) reach
