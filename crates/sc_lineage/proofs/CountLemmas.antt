-- How many partitions nodes have: at least one, and at most as many as the grammar counts.
use Rattle.std.proofs.Common.{◌≡◌, ◌∙◌, ℕ, zero, suc, ◌+◌, ◌<◌, ◌≤◌, Bool, true, false, if◌then◌else◌, List, [], ◌∷◌, Some, length, map, take, flat_map, All, arith}
use Rattle.std.proofs.lemmas.List.Elements.{All-get_or, All-head, All-tail, All-weaker}
use Rattle.std.specs.List.{list_any, slice_get}
use Rattle.sc_base.specs.Lists.{at_or}
use Rattle.sc_value.specs.Keys.{KeyData}
use Rattle.sc_part.specs.Bounds.{bounds_of}
use Rattle.sc_part.proofs.BoundLemmas.{few_bounds}
use Rattle.sc_lineage.specs.declared.streams.Stream.{Stream}
use Rattle.sc_lineage.specs.Dependencies.{parents_of}
use Rattle.sc_lineage.specs.Keyed.{key_of}
use Rattle.sc_lineage.specs.Laws.{CountsAreWithin, IsWithinDeclared}
use Rattle.sc_lineage.specs.Meaning.{bounds_between, bounds_of_shuffle, bounds_step, meanings_by, part_count_by, parts_of_shuffle, parts_step}
use Rattle.sc_lineage.specs.NodeData.{NodeData, ShufflingData, reduce_by_key, group_by_key, sort_by_key, repartition, text_node, parallelize_node, each_node, union_node, coalesce_node, cache_node, shuffle_node, meet_node}
use Rattle.sc_lineage.specs.Partitioners.{PartitionerData}
use Rattle.sc_lineage.specs.ScriptData.{WorkData, IsCount, IsSoundScript, count_step, declared_counts, partition_limit}
use Rattle.sc_lineage.specs.Streams.{raises}
use Rattle.sc_lineage.proofs.PlaceLemmas.{at_or-get_or, at_or-map_any, at_or-take, slice_get-at_or}
use Rattle.sc_lineage.proofs.ByNodesLemmas.{fold_laws}
use Rattle.sc_lineage.proofs.MeaningLemmas.{part_count-step, reads_before}
use Rattle.sc_lineage.proofs.ReadLemmas.{counts_by_parents}

-- one more than bounds are at most as many as the grammar counts
few_ranges : (streams : List Stream) (n : ℕ) → 1 ≤ n → length (bounds_between streams n) + 1 ≤ n
few_ranges streams n some =
    decided (list_any raises streams) (map key_of (flat_map (λ s. s.rows) streams))
  where
    decided : (b : Bool) (keys : List KeyData)
        → length (if b then [] else bounds_of keys n) + 1 ≤ n
    decided true keys = omega arith
    decided false keys = let few = few_bounds keys n in omega (arith, few)

-- counts at the parents that are at least one, and at most others
abbrev AreWithin : List ℕ → List ℕ → List ℕ → Type 0
AreWithin counts others nodes =
    All (λ q. (1 ≤ at_or counts q 0) × (at_or counts q 0 ≤ at_or others q 0)) nodes

at_parent : (counts others : List ℕ) (q : ℕ) (nodes : List ℕ)
    → AreWithin counts others (q ∷ nodes)
    → (1 ≤ at_or counts q 0) × (at_or counts q 0 ≤ at_or others q 0)
at_parent counts others q nodes all =
    All-head (λ r. (1 ≤ at_or counts r 0) × (at_or counts r 0 ≤ at_or others r 0)) q nodes all

shuffle_within : (kind : ShufflingData) (streams : List Stream) (n : ℕ) → 1 ≤ n
    → (1 ≤ parts_of_shuffle kind n (bounds_of_shuffle kind streams n))
    × (parts_of_shuffle kind n (bounds_of_shuffle kind streams n) ≤ n)
shuffle_within (reduce_by_key e) streams n some = (some, omega arith)
shuffle_within group_by_key streams n some = (some, omega arith)
shuffle_within sort_by_key streams n some = (omega arith, few_ranges streams n some)
shuffle_within repartition streams n some = (some, omega arith)

-- the step keeps it
step_within : (found : List (List Stream)) (counts others : List ℕ) (node : NodeData)
    → 1 ≤ count_step others node → AreWithin counts others (parents_of node)
    → (1 ≤ parts_step (bounds_step found node) counts node)
    × (parts_step (bounds_step found node) counts node ≤ count_step others node)
step_within found counts others (text_node name n) some all = (some, omega arith)
step_within found counts others (parallelize_node rows n) some all = (some, omega arith)
step_within found counts others (each_node kind parent e) some all =
    at_parent counts others parent [] all
step_within found counts others (union_node left right) some all =
    let first = at_parent counts others left (right ∷ []) all in
    let P : ℕ → Type 0 = λ r. (1 ≤ at_or counts r 0) × (at_or counts r 0 ≤ at_or others r 0) in
    let second = at_parent counts others right [] (All-tail P left (right ∷ []) all) in
    (omega (arith, first.0), omega (arith, first.1, second.1))
step_within found counts others (coalesce_node parent n) some all =
    let one = at_parent counts others parent [] all in
    (omega (arith, one.0, one.1), omega (arith, one.1))
step_within found counts others (cache_node parent) some all = at_parent counts others parent [] all
step_within found counts others (shuffle_node kind parent n) some all =
    shuffle_within kind (at_or found parent []) n some
step_within found counts others (meet_node kind left right n) some all = (some, omega arith)

-- The counts of a work, where some partitioners are known.
module _ (known : List PartitionerData) (work : WorkData) (sound : IsSoundScript work.script) where
  abbrev declared : List ℕ
  declared = declared_counts work.script.nodes

  abbrev parts : List ℕ
  parts = map length (meanings_by known work)

  part_at : (q : ℕ) → at_or parts q 0 ≡ part_count_by known work q
  part_at q = at_or-map_any length (meanings_by known work) q []

  declared_some : (k : ℕ) → k < length work.script.nodes → 1 ≤ at_or declared k 0
  declared_some k at =
      let len = (fold_laws count_step).lengths work.script.nodes in
      let one =
      All-get_or (IsCount (partition_limit work.script)) declared k 0 (omega arith) sound.counts in
      omega (arith, one.some, at_or-get_or declared k 0)

  declared-step : (k : ℕ) (node : NodeData) → slice_get work.script.nodes k ≡ Some node
      → at_or declared k 0 ≡ count_step declared node
  declared-step k node is =
      (fold_laws count_step).steps work.script.nodes k node 0 is
      ∙ counts_by_parents (take k declared) declared node
      (All-weaker (λ q. q < k) (λ q. at_or (take k declared) q 0 ≡ at_or declared q 0)
      (λ q below. at_or-take declared k q 0 below) (parents_of node)
      (reads_before work.script k node sound is))

  within_below : (n k : ℕ) → k < n → k < length work.script.nodes
      → (1 ≤ at_or parts k 0) × (at_or parts k 0 ≤ at_or declared k 0)
  within_below zero k below at = absurd (omega arith)
  within_below (suc n) k below at =
      let node = at_or work.script.nodes k (cache_node 0) in
      let is = slice_get-at_or work.script.nodes k (cache_node 0) at in
      let before = reads_before work.script k node sound is in
      let step = step_within (meanings_by known work) parts declared node
      (let some = declared_some k at in omega (arith, some, declared-step k node is))
      (All-weaker (λ q. q < k)
      (λ q. (1 ≤ at_or parts q 0) × (at_or parts q 0 ≤ at_or declared q 0))
      (λ q first. within_below n q (omega arith) (omega arith)) (parents_of node) before) in
      let count = part_at k ∙ part_count-step known work k node sound is in
      (omega (arith, step.0, count), omega (arith, step.1, count, declared-step k node is))

  pub count_is_within : (k : ℕ) → k < length work.script.nodes
      → IsWithinDeclared work.script k (part_count_by known work k)
  count_is_within k at =
      let both = within_below (suc k) k (omega arith) at in
      record {
        some = omega (arith, both.0, part_at k);
        within = omega (arith, both.1, part_at k);
      }

  pub count_is_some : (k : ℕ) → k < length work.script.nodes → 1 ≤ part_count_by known work k
  count_is_some k at = (count_is_within k at).some

pub counts_are_within : CountsAreWithin
counts_are_within known work k sound at = count_is_within known work sound k at
