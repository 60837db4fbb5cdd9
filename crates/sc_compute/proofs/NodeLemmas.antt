-- What a node of a work has, where all was made for its parents.
use Rattle.std.proofs.Common.{◌≡◌, ◌∙◌, ℕ, ◌<◌, ◌≤◌, [], Some, All, length, map, take, refl, sym, subst, arith}
use Rattle.std.proofs.lemmas.List.Elements.{All-get_or, All-weaker}
use Rattle.std.specs.List.{slice_get}
use Rattle.sc_base.specs.Lists.{at_or}
use Rattle.sc_lineage.specs.Dependencies.{IsNarrow, parents_of}
use Rattle.sc_lineage.specs.Meaning.{bounds_step, known_of, meanings_by, parts_step}
use Rattle.sc_lineage.specs.NodeData.{NodeData, ShufflingData, text_node, parallelize_node, each_node, union_node, coalesce_node, cache_node, shuffle_node, meet_node}
use Rattle.sc_lineage.specs.ScriptData.{IsCount, IsSoundScript, WorkData, count_step, declared_count, declared_counts, partition_limit}
use Rattle.sc_lineage.specs.Views.{node_data_of}
use Rattle.sc_lineage.specs.declared.nodes.Meeting.{Meeting}
use Rattle.sc_lineage.specs.declared.nodes.Node.{Node}
use Rattle.sc_lineage.specs.declared.nodes.Node.TheVariants as nodes
use Rattle.sc_lineage.specs.declared.nodes.Shuffling.{Shuffling}
use Rattle.sc_lineage.proofs.ByNodesLemmas.{fold_laws}
use Rattle.sc_lineage.proofs.CountLemmas.{count_is_within}
use Rattle.sc_lineage.proofs.MeaningLemmas.{part_count-step, parts_of_narrow, reads_before}
use Rattle.sc_lineage.proofs.PlaceLemmas.{at_or-found, at_or-get_or, at_or-map_any}
use Rattle.sc_lineage.proofs.ReadLemmas.{counts_by_parents}
use Rattle.sc_compute.specs.Stages.{AreRight, AreSides, HasMade, IsSideFor, local_count, node_at, parents_left}
use Rattle.sc_compute.specs.declared.stages.Sides.TheVariants as sides
use Rattle.sc_compute.specs.declared.stages.ShuffleInputs.{ShuffleInputs}
use Rattle.sc_compute.proofs.LeftLemmas.{narrow_made}
use Rattle.sc_compute.proofs.StageLemmas.{count_made}

-- a node that isn't made by a shuffle, by its variants
pub narrow_else : (node : Node)
    → ((kind : Shuffling) (parent n : ℕ) → node ≡ nodes.Shuffle kind parent n → ⊥)
    → ((kind : Meeting) (left right n : ℕ) → node ≡ nodes.Meet kind left right n → ⊥)
    → IsNarrow (node_data_of node)
narrow_else (nodes.Text input slices) not_one not_two = tt
narrow_else (nodes.Parallelize literals slices) not_one not_two = tt
narrow_else (nodes.Each kind parent expr) not_one not_two = tt
narrow_else (nodes.Union left right) not_one not_two = tt
narrow_else (nodes.Coalesce parent partitions) not_one not_two = tt
narrow_else (nodes.Cache parent) not_one not_two = tt
narrow_else (nodes.Shuffle kind parent n) not_one not_two = absurd (not_one kind parent n refl)
narrow_else (nodes.Meet kind left right n) not_one not_two =
    absurd (not_two kind left right n refl)

-- its sides are read from nothing
pub narrow_sides : (work : WorkData) (node : NodeData) → IsNarrow node
    → AreSides work node sides.Narrow
narrow_sides work (text_node name n) narrow = tt
narrow_sides work (parallelize_node rows n) narrow = tt
narrow_sides work (each_node kind parent e) narrow = tt
narrow_sides work (union_node left right) narrow = tt
narrow_sides work (coalesce_node parent n) narrow = tt
narrow_sides work (cache_node parent) narrow = tt
narrow_sides work (shuffle_node kind parent n) narrow = absurd narrow
narrow_sides work (meet_node kind left right n) narrow = absurd narrow

-- a node of a work is there
pub record IsNode (work : WorkData) (k : ℕ) (node : NodeData) : Type 0 where
  pub sound : IsSoundScript work.script
  pub known : k < length work.script.nodes
  pub is : slice_get work.script.nodes k ≡ Some node

-- What a node of a work has.
module _ {work : WorkData} {k : ℕ} {node : NodeData} (at : IsNode work k node) where
  -- the node is the one of its number
  pub node_is : node_at work k ≡ node
  node_is = at_or-found work.script.nodes k node (cache_node 0) at.is

  declared_is : declared_count work.script k
      ≡ count_step (take k (declared_counts work.script.nodes)) node
  declared_is = (fold_laws count_step).steps work.script.nodes k node 0 at.is

  -- it has a partition, as the grammar counts
  pub some_parts : 1 ≤ count_step (take k (declared_counts work.script.nodes)) node
  some_parts =
      let within = count_is_within (known_of work) work at.sound k at.known in
      omega (arith, within.some, within.within, declared_is)

  -- its parents are before it
  pub parents_before : All (λ q. q < k) (parents_of node)
  parents_before = reads_before work.script k node at.sound at.is

  -- and they are there
  pub parents_known : All (λ q. q < length work.script.nodes) (parents_of node)
  parents_known =
      All-weaker (λ q. q < k) (λ q. q < length work.script.nodes)
      (λ q below. omega (arith, below, at.known)) (parents_of node) parents_before

  -- a side of it
  pub side_is : (side : ℕ) (kind : ShufflingData) (parent n : ℕ)
      → IsSideFor node side kind parent n → IsSideFor (node_at work k) side kind parent n
  side_is side kind parent n is =
      subst (λ m. IsSideFor m side kind parent n) (sym node_is) is

  -- the parents that were left are those of the node
  pub left_are : (stages : ShuffleInputs)
      → All (HasMade stages) (parents_left stages k (node_at work k))
      → All (HasMade stages) (parents_left stages k node)
  left_are stages made = subst (λ n. All (HasMade stages) (parents_left stages k n)) node_is made

  -- its number of partitions
  pub count_is : local_count work k
      ≡ parts_step (bounds_step (meanings_by (known_of work) work) node)
      (map length (meanings_by (known_of work) work)) node
  count_is = part_count-step (known_of work) work k node at.sound at.is

  parents_made : (stages : ShuffleInputs) → AreRight work stages → IsNarrow node
      → All (HasMade stages) (parents_left stages k (node_at work k))
      → All (HasMade stages) (parents_of node)
  parents_made stages right narrow made =
      subst (λ n. All (HasMade stages) (parents_of n)) node_is
      (narrow_made work stages k right (subst IsNarrow (sym node_is) narrow) made)

  -- the same of a narrow node, by what was made for its parents
  pub narrow_is : (stages : ShuffleInputs) → AreRight work stages → IsNarrow node
      → All (HasMade stages) (parents_left stages k (node_at work k))
      → count_step stages.counts.items node ≡ local_count work k
  narrow_is stages right narrow made =
      let found = meanings_by (known_of work) work in
      counts_by_parents stages.counts.items (map length found) node
      (All-weaker (HasMade stages)
      (λ q. at_or stages.counts.items q 0 ≡ at_or (map length found) q 0)
      (λ q there. count_made work stages q right there ∙ sym (at_or-map_any length found q []))
      (parents_of node) (parents_made stages right narrow made))
      ∙ sym (count_is ∙ parts_of_narrow found (map length found) node narrow)

  -- it has no more partitions than a definition may have
  pub count_fits : local_count work k ≤ 1024
  count_fits =
      let declared = declared_counts work.script.nodes in
      let within = count_is_within (known_of work) work at.sound k at.known in
      let len = (fold_laws count_step).lengths work.script.nodes in
      let one =
      All-get_or (IsCount (partition_limit work.script)) declared k 0 (omega (arith, len))
      at.sound.counts in
      omega (arith, within.within, one.within, at_or-get_or declared k 0)
