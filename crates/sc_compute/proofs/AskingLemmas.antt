-- The partitions that are still to be looked at, by their numbers.
use Rattle.std.proofs.Common.{◌≡◌, ◌+◌, ◌*◌, ◌/◌, ◌%◌, ◌^◌, ◌<◌, ℕ, zero, suc, List, [], ◌∷◌, ◌++◌, All, length, get_or, ap, sym, subst, arith}
use Rattle.std.proofs.lemmas.List.Elements.{All-nil, All-cons, All-get_or, All-head, All-tail}
use Rattle.std.proofs.lemmas.Cmp.{ranked}
use Rattle.std.specs.Ordering.{match_ordering, nat_cmp}
use Rattle.std.specs.declared.cmp.Ordering.{Ordering}
use Rattle.std.specs.declared.cmp.Ordering.TheVariants.{Less, Equal, Greater}
use Rattle.std.specs.BTreeSet.{insert_key}
use Rattle.sc_lineage.specs.Dependencies.{parents_of}
use Rattle.sc_lineage.specs.NodeData.{NodeData, text_node, parallelize_node, each_node, union_node, coalesce_node, cache_node, shuffle_node, meet_node}
use Rattle.sc_lineage.specs.ScriptData.{WorkData, IsSoundScript}
use Rattle.sc_lineage.specs.Targets.{TargetData, map_target, result_target}
use Rattle.sc_lineage.specs.declared.dependencies.Place.{Place}
use Rattle.sc_compute.specs.Asking.{IsLeft, IsThere, node_taken, partition_taken, place_number}
use Rattle.sc_lineage.proofs.MeaningLemmas.{reads_before}
use Rattle.sc_lineage.proofs.PlaceLemmas.{slice_get-at_or}
use Rattle.sc_compute.specs.Stages.{HasMade, local_count, mapped_in, node_at}
use Rattle.sc_compute.specs.Tasks.{HasAll, IsSideOf, IsTargetOf}
use Rattle.sc_compute.specs.declared.stages.ShuffleInputs.{ShuffleInputs}

-- a number has one node and one partition
pub node_of_number : (node p number : ℕ) → p < 2 ^ 32 → node * 2 ^ 32 + p ≡ number
    → number / 2 ^ 32 ≡ node
node_of_number node p number small is = omega arith

pub partition_of_number : (node p number : ℕ) → p < 2 ^ 32 → node * 2 ^ 32 + p ≡ number
    → number % 2 ^ 32 ≡ p
partition_of_number node p number small is = omega arith

-- what holds of all keys holds with one more of which it holds
pub all-inserted : (P : ℕ → Type 0) (k : ℕ) → P k → (ks : List ℕ) → All P ks
    → All P (insert_key nat_cmp ks k)
all-inserted P k is [] all = All-cons P k [] is (All-nil P)
all-inserted P k is (x ∷ xs) all =
    here (nat_cmp k x) (all-inserted P k is xs (All-tail P x xs all))
  where
    here : (r : Ordering) → All P (insert_key nat_cmp xs k)
        → All P (match_ordering r (k ∷ x ∷ xs) (x ∷ xs) (x ∷ insert_key nat_cmp xs k))
    here Less behind = All-cons P k (x ∷ xs) is all
    here Equal behind = all
    here Greater behind =
        All-cons P x (insert_key nat_cmp xs k) (All-head P x xs all) behind

-- ---- what a target takes

module _ (work : WorkData) where
  -- the node that a target takes is before the node whose side it is
  taken-before : (k : ℕ) (n : NodeData) (side : ℕ) → IsSideOf n side
      → All (λ q. q < k) (parents_of n) → mapped_in n side < k
  taken-before k (shuffle_node kind parent n) zero is before =
      All-head (λ q. q < k) parent [] before
  taken-before k (shuffle_node kind parent n) (suc side) is before = absurd (omega (arith, is))
  taken-before k (meet_node kind left right n) zero is before =
      All-head (λ q. q < k) left (right ∷ []) before
  taken-before k (meet_node kind left right n) (suc zero) is before =
      All-head (λ q. q < k) right [] (All-tail (λ q. q < k) left (right ∷ []) before)
  taken-before k (meet_node kind left right n) (suc (suc side)) is before =
      absurd (omega (arith, is))
  taken-before k (text_node name n) side is before = absurd is
  taken-before k (parallelize_node rows n) side is before = absurd is
  taken-before k (each_node kind parent e) side is before = absurd is
  taken-before k (union_node left right) side is before = absurd is
  taken-before k (coalesce_node parent n) side is before = absurd is
  taken-before k (cache_node parent) side is before = absurd is

  -- the partition that a target takes is one of the work's
  pub taken_known : IsSoundScript work.script → (target : TargetData) → IsTargetOf work target
      → (node_taken work target < length work.script.nodes)
      × (partition_taken target < local_count work (node_taken work target))
  taken_known sound (map_target node side m) is =
      let found = slice_get-at_or work.script.nodes node (cache_node 0) is.0 in
      let before = taken-before node (node_at work node) side is.1
      (reads_before work.script node (node_at work node) sound found) in
      let first = is.0 in (omega (arith, before, first), is.2)
  taken_known sound (result_target action p) is = is

-- What is left of a work.
module _ (work : WorkData) (stages : ShuffleInputs) where
  -- the greatest is taken out
  pub left-popped : (below k : ℕ) (ks : List ℕ) → All (IsLeft work stages below) (ks ++ k ∷ [])
      → All (λ q. nat_cmp q k ≡ Less) ks → All (IsLeft work stages k) ks
  left-popped below k [] all lower = All-nil (IsLeft work stages k)
  left-popped below k (x ∷ xs) all lower =
      All-cons (IsLeft work stages k) x xs
      (record {
        before = ranked x k Less (sym (All-head (λ q. nat_cmp q k ≡ Less) x xs lower));
        there = (All-head (IsLeft work stages below) x (xs ++ k ∷ []) all).there;
      })
      (left-popped below k xs (All-tail (IsLeft work stages below) x (xs ++ k ∷ []) all)
      (All-tail (λ q. nat_cmp q k ≡ Less) x xs lower))

  pub popped-there : (below k : ℕ) (ks : List ℕ)
      → All (IsLeft work stages below) (ks ++ k ∷ []) → IsLeft work stages below k
  popped-there below k [] all = All-head (IsLeft work stages below) k [] all
  popped-there below k (x ∷ xs) all =
      popped-there below k xs (All-tail (IsLeft work stages below) x (xs ++ k ∷ []) all)

  -- a partition that is there, by its number
  pub left-place : (below node p number : ℕ) → p < 2 ^ 32 → node * 2 ^ 32 + p ≡ number
      → number < below → IsThere work stages node p → IsLeft work stages below number
  left-place below node p number small is before there =
      record {
        before = before;
        there = subst (λ n. IsThere work stages n (number % 2 ^ 32))
            (sym (node_of_number node p number small is))
            (subst (IsThere work stages node) (sym (partition_of_number node p number small is))
            there);
      }

  pub there-place : (node p number : ℕ) → p < 2 ^ 32 → node * 2 ^ 32 + p ≡ number
      → IsThere work stages (number / 2 ^ 32) (number % 2 ^ 32) → IsThere work stages node p
  there-place node p number small is there =
      subst (λ n. IsThere work stages n p) (node_of_number node p number small is)
      (subst (IsThere work stages (number / 2 ^ 32)) (partition_of_number node p number small is)
      there)

  -- a partition that is read is left behind the one that reads it
  pub left-read : (below : ℕ) (at : Place) (places items : List Place) (i : ℕ) (d : Place)
      (number : ℕ) → at.node < length work.script.nodes → place_number at ≡ below
      → All (λ q. q.node < at.node) places
      → All (λ q. q.partition < local_count work q.node) places
      → All (λ q. HasMade stages q.node) places → items ≡ places → i < length items
      → number ≡ place_number (get_or items i d) → (get_or items i d).partition < 2 ^ 32
      → IsLeft work stages below number
  left-read below at places items i d number known last before within made same there is small =
      let P : List Place → Type 0 = λ qs. (get_or qs i d).node < at.node in
      let size = ap length same in
      let first : (get_or items i d).node < at.node =
      subst P (sym same)
      (All-get_or (λ q. q.node < at.node) places i d (omega (arith, there, size)) before) in
      let Q : List Place → Type 0 =
      λ qs. (get_or qs i d).partition < local_count work (get_or qs i d).node in
      let R : List Place → Type 0 = λ qs. HasMade stages (get_or qs i d).node in
      left-place below (get_or items i d).node (get_or items i d).partition number small (sym is)
      (omega (arith, first, last, is, small))
      (record {
        known = omega (arith, first, known);
        within = subst Q (sym same)
            (All-get_or (λ q. q.partition < local_count work q.node) places i d
            (omega (arith, there, size)) within);
        made = subst R (sym same)
            (All-get_or (λ q. HasMade stages q.node) places i d (omega (arith, there, size)) made);
      })

  -- the partition that a target takes is there
  pub taken-there : IsSoundScript work.script → (target : TargetData) → IsTargetOf work target
      → HasAll work stages target
      → IsThere work stages (node_taken work target) (partition_taken target)
  taken-there sound (map_target node side m) is has =
      let known = taken_known work sound (map_target node side m) is in
      record { known = known.0; within = known.1; made = has.0 }
  taken-there sound (result_target action p) is has =
      record { known = is.0; within = is.1; made = has }
