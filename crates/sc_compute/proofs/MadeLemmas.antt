-- What was made for the nodes that a node reads, and what its partitions read of it.
use Rattle.std.proofs.Common.{◌≡◌, ◌∙◌, ℕ, ◌<◌, List, Some, IfSome, Option, All, length, ap, sym, subst, arith}
use Rattle.std.proofs.lemmas.List.Elements.{All-weaker}
use Rattle.sc_base.specs.Lists.{at_or}
use Rattle.sc_lineage.specs.Dependencies.{IsNarrow, dependencies_by, parents_of, reads_of}
use Rattle.sc_lineage.specs.Meaning.{known_of, meanings_by}
use Rattle.sc_lineage.specs.NodeData.{NodeData, text_node, parallelize_node, each_node, union_node, coalesce_node, cache_node, shuffle_node, meet_node}
use Rattle.sc_lineage.specs.ScriptData.{WorkData, IsSoundScript, count_step}
use Rattle.sc_lineage.proofs.MeaningLemmas.{parts_of_narrow}
use Rattle.sc_lineage.proofs.ReadLemmas.{counts_by_parents, reads_of-parents}
use Rattle.sc_compute.specs.Reading.{direct_reads}
use Rattle.sc_compute.specs.Stages.{AreRight, AreSides, AtDirectParents, HasMade, IsMadeRight, local_count, made_in, node_at}
use Rattle.sc_compute.specs.declared.stages.Sides.{Sides}
use Rattle.sc_compute.specs.declared.stages.Sides.TheVariants.{Narrow}
use Rattle.sc_compute.specs.declared.stages.ShuffleInputs.{ShuffleInputs}
use Rattle.sc_compute.proofs.StageLemmas.{count_made, made_right}
use Rattle.sc_compute.proofs.DirectLemmas.{count_found, counts_of, direct_narrow, hold_of_read, narrow_parents, parts}

-- a node of which nothing goes through a shuffle is narrow
is_narrow : (work : WorkData) (node : NodeData) (sides : Sides) → AreSides work node sides
    → sides ≡ Narrow → IsNarrow node
is_narrow work node sides are is = kind node (subst (AreSides work node) is are)
  where
    kind : (node : NodeData) → AreSides work node Narrow → IsNarrow node
    kind (text_node name n) are = tt
    kind (parallelize_node rows n) are = tt
    kind (each_node op parent e) are = tt
    kind (union_node left right) are = tt
    kind (coalesce_node parent n) are = tt
    kind (cache_node parent) are = tt
    kind (shuffle_node op parent n) are = absurd are
    kind (meet_node op left right n) are = absurd are

-- A partition of a node for which all was made.
module _ (work : WorkData) (sound : IsSoundScript work.script) (k p : ℕ)
    (known : k < length work.script.nodes) (within : p < local_count work k)
    (stages : ShuffleInputs)
    (right : AreRight work stages) (made : HasMade stages k) where
  abbrev node : NodeData
  node = node_at work k

  abbrev counts : List ℕ
  counts = stages.counts.items

  parents_made : AtDirectParents work (HasMade stages) k
  parents_made = (made_right work stages k right made).1.parents

  -- all was made for the nodes of the places that are read
  pub made_direct : All (λ at. HasMade stages at.node) (direct_reads work k p)
  made_direct =
      hold_of_read (local_count work) p (HasMade stages) (dependencies_by (known_of work) node)
      parents_made

  -- what was made for the node's sides is right
  pub sides_are : (sides : Sides) → made_in stages k ≡ Some sides → AreSides work node sides
  sides_are sides is =
      let P : Option Sides → Type 0 = λ o. IfSome o (IsMadeRight work counts (made_in stages) k) in
      let so : IsMadeRight work counts (made_in stages) k sides = subst P is (right.each k) in
      so.are

  -- a node of which nothing goes through a shuffle
  module _ (sides : Sides) (is : made_in stages k ≡ Some sides) (none : sides ≡ Narrow) where
    pub node_is_narrow : IsNarrow node
    node_is_narrow = is_narrow work node sides (sides_are sides is) none

    parents_counted : All (λ q. at_or counts q 0 ≡ local_count work q) (parents_of node)
    parents_counted =
        All-weaker (HasMade stages) (λ q. at_or counts q 0 ≡ local_count work q)
        (λ q is. count_made work stages q right is) (parents_of node)
        (narrow_parents (HasMade stages) (known_of work) node node_is_narrow parents_made)

    -- it has the partition by the counts of its parents
    pub narrow_within : (lent : List ℕ) (m : NodeData) → lent ≡ counts → m ≡ node
        → p < count_step lent m
    narrow_within lent m same at =
        let P : List ℕ → Type 0 = λ ns. p < count_step ns m in
        let Q : NodeData → Type 0 = λ n. p < count_step counts n in
        let count = parts work sound k p known within
        ∙ parts_of_narrow (meanings_by (known_of work) work) (counts_of work) node node_is_narrow
        ∙ counts_by_parents (counts_of work) counts node
        (All-weaker (λ q. at_or counts q 0 ≡ local_count work q)
        (λ q. at_or (counts_of work) q 0 ≡ at_or counts q 0)
        (λ q so. count_found work q ∙ sym so) (parents_of node) parents_counted) in
        subst P (sym same) (subst Q (sym at) (omega (arith, within, count)))

    -- what it reads is found by those counts
    pub narrow_found : (lent : List ℕ) (m : NodeData) → lent ≡ counts → m ≡ node
        → reads_of (λ q. at_or lent q 0) m p ≡ direct_reads work k p
    narrow_found lent m same at =
        ap (λ (ns : List ℕ). reads_of (λ q. at_or ns q 0) m p) same
        ∙ ap (λ (n : NodeData). reads_of (λ q. at_or counts q 0) n p) at
        ∙ reads_of-parents (λ q. at_or counts q 0) (local_count work) node p parents_counted
        ∙ sym (direct_narrow work k p node_is_narrow)
