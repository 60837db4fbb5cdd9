-- Both meanings of each node agree, by the nodes before it.
use Rattle.std.proofs.Common.{◌≡◌, ◌∙◌, ℕ, zero, suc, ◌<◌, inl, inr, Bool, true, false, if◌then◌else◌, List, [], Some, length, map, flat_map, refl, ap, sym, arith}
use Rattle.std.proofs.lemmas.List.Elements.{All-from_recursion, recursion_from_All, All-weaker}
use Rattle.std.proofs.lemmas.Option.{slice_get_within}
use Rattle.std.specs.List.{list_any, slice_get, AllByRecursion}
use Rattle.sc_base.specs.Lists.{at_or}
use Rattle.sc_value.specs.Keys.{KeyData}
use Rattle.sc_part.specs.Bounds.{bounds_of}
use Rattle.sc_lineage.specs.declared.streams.Stream.{Stream}
use Rattle.sc_lineage.specs.Dependencies.{parents_of}
use Rattle.sc_lineage.specs.Keyed.{key_of}
use Rattle.sc_lineage.specs.Meaning.{bounds_between, bounds_of_shuffle, bounds_step, known_of, local_streams, meanings, meanings_by, node_streams, part_count, part_count_by, parts_step}
use Rattle.sc_lineage.specs.NodeData.{NodeData, ShufflingData, reduce_by_key, group_by_key, sort_by_key, repartition, text_node, parallelize_node, each_node, union_node, coalesce_node, cache_node, shuffle_node, meet_node}
use Rattle.sc_lineage.specs.ScriptData.{WorkData, IsSoundScript, node_of_action}
use Rattle.sc_lineage.specs.Streams.{raises}
use Rattle.sc_lineage.proofs.MeaningLemmas.{part_count-step, parts_by_parents, reads_before}
use Rattle.sc_lineage.proofs.PlaceLemmas.{at_or-map_any, slice_get-at_or}
use Rattle.sc_lineage.proofs.ShuffleLemmas.{hash_count}
use Rattle.sc_laws.specs.Skips.{Agree, OutcomeLaw, SkipLaw}
use Rattle.sc_laws.specs.SortBounds.{BoundsLaw}
use Rattle.sc_laws.proofs.EachLemmas.{each_both}
use Rattle.sc_laws.proofs.OutcomeLemmas.{outcomes_agree}
use Rattle.sc_laws.proofs.QuietLemmas.{TellCounts, parents_quiet}
use Rattle.sc_laws.proofs.SameLemmas.{node_same}
use Rattle.sc_laws.proofs.StreamLemmas.{AreSilent}

-- the bounds of a sort: none, where a partition raises
between_agree : (sequential local : List Stream) (n : ℕ) → Agree sequential local
    → bounds_between local n ≡ bounds_between sequential n
between_agree sequential local n agree = decided (list_any raises sequential) refl
  where
    decided : (b : Bool) → list_any raises sequential ≡ b
        → bounds_between local n ≡ bounds_between sequential n
    decided true raised =
        let bounds : List Stream → List KeyData =
        λ streams. bounds_of (map key_of (flat_map (λ s. s.rows) streams)) n in
        ap (λ b. if b then [] else bounds local) (agree.raising ∙ raised)
        ∙ sym (ap (λ b. if b then [] else bounds sequential) raised)
    decided false silent =
        ap (λ (streams : List Stream). bounds_between streams n) (agree.same silent)

shuffle_bounds_agree : (kind : ShufflingData) (sequential local : List Stream) (n : ℕ)
    → Agree sequential local
    → bounds_of_shuffle kind local n ≡ bounds_of_shuffle kind sequential n
shuffle_bounds_agree (reduce_by_key e) sequential local n agree = refl
shuffle_bounds_agree group_by_key sequential local n agree = refl
shuffle_bounds_agree sort_by_key sequential local n agree =
    between_agree sequential local n agree
shuffle_bounds_agree repartition sequential local n agree = refl

module _ (work : WorkData) (sound : IsSoundScript work.script) where
  abbrev Agrees : ℕ → Type 0
  Agrees q = Agree (node_streams work q) (local_streams work q)

  bounds_agree : (node : NodeData) → AllByRecursion Agrees (parents_of node)
      → bounds_step (meanings_by (known_of work) work) node ≡ bounds_step (meanings work) node
  bounds_agree (text_node name n) agree = refl
  bounds_agree (parallelize_node rows n) agree = refl
  bounds_agree (each_node kind parent e) agree = refl
  bounds_agree (union_node left right) agree = refl
  bounds_agree (coalesce_node parent n) agree = refl
  bounds_agree (cache_node parent) agree = refl
  bounds_agree (shuffle_node kind parent n) agree =
      shuffle_bounds_agree kind (node_streams work parent) (local_streams work parent) n agree.0
  bounds_agree (meet_node kind left right n) agree = refl

  module _ (k : ℕ) (node : NodeData) (is : slice_get work.script.nodes k ≡ Some node)
      (agree : AllByRecursion Agrees (parents_of node)) where
    -- a node has as many partitions by both
    counts_agree : part_count_by (known_of work) work k ≡ part_count work k
    counts_agree =
        let local = meanings_by (known_of work) work in
        let sequential = meanings work in
        let P : ℕ → Type 0 =
        λ q. at_or (map length local) q 0 ≡ at_or (map length sequential) q 0 in
        part_count-step (known_of work) work k node sound is
        ∙ ap (λ (bounds : List KeyData). parts_step bounds (map length local) node)
        (bounds_agree node agree)
        ∙ parts_by_parents (bounds_step sequential node) (map length local) (map length sequential)
        node
        (All-weaker Agrees P
        (λ q both. at_or-map_any length local q [] ∙ both.counts
        ∙ sym (at_or-map_any length sequential q []))
        (parents_of node) (All-from_recursion Agrees (parents_of node) agree))
        ∙ sym (part_count-step [] work k node sound is)

    -- no partitioner is known in the sequential meaning, and all are in the local one
    none_tells : TellCounts [] work sound
    none_tells q n there is = cc

    all_tell : TellCounts (known_of work) work sound
    all_tell q n there is = hash_count (known_of work) work sound q n there is

    -- where the parents raise nowhere, they have the same streams
    parents_same : AllByRecursion (λ q. AreSilent (node_streams work q)) (parents_of node)
        → AllByRecursion (λ q. local_streams work q ≡ node_streams work q) (parents_of node)
    parents_same silent =
        each_both Agrees (λ q. AreSilent (node_streams work q))
        (λ q. local_streams work q ≡ node_streams work q) (parents_of node)
        (λ q both quiet. both.same quiet) agree silent

    -- where the node raises nowhere by either, it has the same streams
    same_by_sequential : AreSilent (node_streams work k)
        → local_streams work k ≡ node_streams work k
    same_by_sequential silent =
        let quiet = parents_quiet [] work sound none_tells k silent node is in
        node_same work sound k counts_agree node is (inl silent) (parents_same quiet) quiet

    same_by_local : AreSilent (local_streams work k)
        → local_streams work k ≡ node_streams work k
    same_by_local silent =
        let quiet = each_both Agrees (λ q. AreSilent (local_streams work q))
        (λ q. AreSilent (node_streams work q)) (parents_of node)
        (λ q both silence. sym both.raising ∙ silence) agree
        (parents_quiet (known_of work) work sound all_tell k silent node is) in
        node_same work sound k counts_agree node is (inr silent) (parents_same quiet) quiet

    raising_agrees : (b c : Bool) → list_any raises (node_streams work k) ≡ b
        → list_any raises (local_streams work k) ≡ c
        → list_any raises (local_streams work k) ≡ list_any raises (node_streams work k)
    raising_agrees true true first second = second ∙ sym first
    raising_agrees true false first second = ap (list_any raises) (same_by_local second)
    raising_agrees false c first second = ap (list_any raises) (same_by_sequential first)

    node_agrees : Agrees k
    node_agrees = record {
      counts = counts_agree;
      raising = raising_agrees (list_any raises (node_streams work k))
          (list_any raises (local_streams work k)) refl refl;
      same = same_by_sequential;
    }

  agree_below : (fuel k : ℕ) → k < fuel → k < length work.script.nodes → Agrees k
  agree_below zero k below at = absurd (omega arith)
  agree_below (suc fuel) k below at =
      let node = at_or work.script.nodes k (cache_node 0) in
      let is = slice_get-at_or work.script.nodes k (cache_node 0) at in
      let P : ℕ → Type 0 = λ q. q < k in
      node_agrees k node is
      (recursion_from_All Agrees (parents_of node)
      (All-weaker P Agrees (λ q before. agree_below fuel q (omega arith) (omega arith))
      (parents_of node) (reads_before work.script k node sound is)))

pub skips_agree : SkipLaw
skips_agree work node sound at = agree_below work sound (suc node) node (omega arith) at

pub outcomes_are_same : OutcomeLaw
outcomes_are_same work action sound at =
    let node = node_of_action action in
    outcomes_agree action (node_streams work node) (local_streams work node)
    (skips_agree work node sound at)

pub bounds_are_same : BoundsLaw
bounds_are_same work k node sound is =
    let there = slice_get_within work.script.nodes k node is in
    let P : ℕ → Type 0 = λ q. q < k in
    let A : ℕ → Type 0 = λ q. Agree (node_streams work q) (local_streams work q) in
    bounds_agree work sound node
    (recursion_from_All A (parents_of node)
    (All-weaker P A (λ q before. skips_agree work q sound (omega (arith, before, there)))
    (parents_of node) (reads_before work.script k node sound is)))
