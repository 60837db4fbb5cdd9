-- The partitions of a node, together, read each partition of its parents once.
use Rattle.std.proofs.Common.{◌≡◌, ◌∙◌, ℕ, zero, suc, ◌+◌, ◌-◌, ◌*◌, ◌/◌, ◌<◌, ◌≤◌, min, Bool, true, false, ◌&&◌, nat_le, nat_lt, if◌then◌else◌, List, [], ◌∷◌, ◌++◌, map, flat_map, refl, ap, ap₂, sym, arith, append-nil, length, ltb-true, ltb-false, leb-true, leb-false, mul-le-mul_right, le_trans, div-mul-le_self}
use Rattle.std.proofs.Math.Nat.{zero-div, zero-mul, mul-div_cancel_left}
use Rattle.std.proofs.lemmas.List.{map-append}
use Rattle.std.proofs.lemmas.List.Concat.{flat_map-append, flat_map_single}
use Rattle.std.proofs.lemmas.Nat.{le-div}
use Rattle.std.proofs.lemmas.Option.{slice_get_within}
use Rattle.sc_base.specs.Lists.{at_or, numbers_from, numbers_below}
use Rattle.sc_input.specs.Slices.{slice_start}
use Rattle.sc_lineage.specs.NodeData.{NodeData, text_node, parallelize_node, each_node, union_node, coalesce_node, cache_node, shuffle_node, meet_node}
use Rattle.sc_lineage.specs.Dependencies.{IsNarrow, PlaceData, parents_of, place, place_behind, places_from, reads_of}
use Rattle.sc_lineage.specs.Laws.{ReadsAreWhole}
use Rattle.sc_lineage.specs.Meaning.{stream_count, meanings_by, part_count_by}
use Rattle.sc_lineage.specs.ScriptData.{count_step}
use Rattle.sc_lineage.proofs.PlaceLemmas.{at_or-map_any, numbers_from-more}
use Rattle.sc_lineage.proofs.MeaningLemmas.{parts_of_narrow, part_count-step, reads_by_counts}
use Rattle.sc_lineage.proofs.CountLemmas.{count_is_some}

-- numbers, and those behind them
numbers_from-append : (first m n : ℕ)
    → numbers_from first (m + n) ≡ numbers_from first m ++ numbers_from (first + m) n
numbers_from-append first zero n =
    let same : first ≡ first + 0 = omega arith in
    let none : 0 + n ≡ n = omega arith in
    ap (numbers_from first) none ∙ ap (λ k. numbers_from k n) same
numbers_from-append first (suc m) n =
    let more : suc m + n ≡ suc (m + n) = omega arith in
    let same : suc first + m ≡ first + suc m = omega arith in
    ap (numbers_from first) more
    ∙ ap (λ ns. first ∷ ns)
    (numbers_from-append (suc first) m n
    ∙ ap (λ k. numbers_from (suc first) m ++ numbers_from k n) same)

-- two functions that agree from one number to another
agree : {A : Type 0} (f g : ℕ → List A) (first count : ℕ)
    → ((i : ℕ) → first ≤ i → i < first + count → f i ≡ g i)
    → flat_map f (numbers_from first count) ≡ flat_map g (numbers_from first count)
agree f g first zero same = refl
agree f g first (suc count) same =
    ap₂ (λ xs ys. xs ++ ys) (same first (omega arith) (omega arith))
    (agree f g (suc first) count (λ i from to. same i (omega arith) (omega arith)))

-- numbers that are counted from further on
moved : {A : Type 0} (f : ℕ → A) (by first count : ℕ)
    → map (λ p. f (p - by)) (numbers_from (by + first) count) ≡ map f (numbers_from first count)
moved f by first zero = refl
moved f by first (suc count) =
    let back : (by + first) - by ≡ first = omega arith in
    let next : suc (by + first) ≡ by + suc first = omega arith in
    ap₂ (λ x xs. x ∷ xs) (ap f back)
    (ap (λ k. map (λ p. f (p - by)) (numbers_from k count)) next ∙ moved f by (suc first) count)

-- runs of partitions one behind the other
runs : (parent from mid to : ℕ) → from ≤ mid → mid ≤ to
    → places_from parent from mid ++ places_from parent mid to ≡ places_from parent from to
runs parent from mid to first second =
    let start : from + (mid - from) ≡ mid = omega arith in
    let all : (mid - from) + (to - mid) ≡ to - from = omega arith in
    sym (map-append (place parent) (numbers_from from (mid - from)) (numbers_from mid (to - mid)))
    ∙ ap (map (place parent))
    (ap (λ k. numbers_from from (mid - from) ++ numbers_from k (to - mid)) (sym start)
    ∙ sym (numbers_from-append from (mid - from) (to - mid))
    ∙ ap (numbers_from from) all)

no_places : (parent from : ℕ) → places_from parent from from ≡ []
no_places parent from =
    let none : from - from ≡ 0 = omega arith in
    ap (λ count. map (place parent) (numbers_from from count)) none

-- one partition for each
each_once : (parent count : ℕ)
    → flat_map (λ p. place parent p ∷ []) (numbers_below count) ≡ places_from parent 0 count
each_once parent count =
    let all : count ≡ count - 0 = omega arith in
    flat_map_single (place parent) (numbers_below count)
    ∙ ap (λ n. map (place parent) (numbers_from 0 n)) all

-- where partitions stand behind others
module _ (parent start count p : ℕ) where
  inside : start ≤ p → p < start + count
      → place_behind parent start count p ≡ place parent (p - start) ∷ []
  inside from to = decided (nat_le start p) (nat_lt p (start + count)) refl refl
    where
      decided : (b c : Bool) → nat_le start p ≡ b → nat_lt p (start + count) ≡ c
          → (if b && c then place parent (p - start) ∷ [] else []) ≡ place parent (p - start) ∷ []
      decided true true first last = refl
      decided true false first last = absurd (omega (arith, ltb-false p (start + count) last))
      decided false c first last = absurd (omega (arith, leb-false start p first))

  before : p < start → place_behind parent start count p ≡ []
  before below = decided (nat_le start p) (nat_lt p (start + count)) refl
    where
      decided : (b c : Bool) → nat_le start p ≡ b
          → (if b && c then place parent (p - start) ∷ [] else []) ≡ []
      decided true c first = absurd (omega (arith, leb-true start p first))
      decided false c first = refl

  behind : start + count ≤ p → place_behind parent start count p ≡ []
  behind past = decided (nat_le start p) (nat_lt p (start + count)) refl
    where
      decided : (b c : Bool) → nat_lt p (start + count) ≡ c
          → (if b && c then place parent (p - start) ∷ [] else []) ≡ []
      decided true true last = absurd (omega (arith, ltb-true p (start + count) last))
      decided true false last = refl
      decided false c last = refl

-- the partitions of two nodes, those of one behind those of the other
module _ (left right m n : ℕ) where
  abbrev one_of : ℕ → List PlaceData
  one_of p = place_behind left 0 m p ++ (place_behind right (0 + m) n p ++ [])

  in_left : (p : ℕ) → 0 ≤ p → p < 0 + m → one_of p ≡ place left p ∷ []
  in_left p from to =
      let start : p - 0 ≡ p = omega arith in
      ap₂ (λ xs ys. xs ++ (ys ++ [])) (inside left 0 m p from to)
      (before right (0 + m) n p (omega arith))
      ∙ ap (λ i. place left i ∷ []) start

  in_right : (p : ℕ) → m ≤ p → p < m + n → one_of p ≡ place right (p - m) ∷ []
  in_right p from to =
      let start : 0 + m ≡ m = omega arith in
      ap₂ (λ xs ys. xs ++ (ys ++ [])) (behind left 0 m p (omega arith))
      (inside right (0 + m) n p (omega arith) (omega arith))
      ∙ ap (λ s. place right (p - s) ∷ []) start

  both_once : flat_map one_of (numbers_below (m + n))
      ≡ places_from left 0 m ++ (places_from right 0 n ++ [])
  both_once =
      let start : 0 + m ≡ m + 0 = omega arith in
      let none : 0 + m ≡ m = omega arith in
      let all : n ≡ n - 0 = omega arith in
      ap (flat_map one_of) (numbers_from-append 0 m n)
      ∙ flat_map-append one_of (numbers_from 0 m) (numbers_from (0 + m) n)
      ∙ ap₂ (λ xs ys. xs ++ ys)
      (agree one_of (λ p. place left p ∷ []) 0 m in_left ∙ each_once left m)
      (ap (λ k. flat_map one_of (numbers_from k n)) none
      ∙ agree one_of (λ p. place right (p - m) ∷ []) m n in_right
      ∙ flat_map_single (λ p. place right (p - m)) (numbers_from m n)
      ∙ ap (λ k. map (λ p. place right (p - m)) (numbers_from k n)) (sym none ∙ start)
      ∙ moved (place right) m 0 n
      ∙ ap (λ k. map (place right) (numbers_from 0 k)) all
      ∙ sym (append-nil (places_from right 0 n)))

-- the partitions of a node, put together in so many runs
module _ (parent count n : ℕ) where
  abbrev start : ℕ → ℕ
  start p = slice_start count n p

  abbrev run : ℕ → List PlaceData
  run p = places_from parent (start p) (start (p + 1)) ++ []

  ordered : (p : ℕ) → 0 < n → start p ≤ start (p + 1)
  ordered p some =
      le-div (p * count / n) ((p + 1) * count) n some
      (le_trans (div-mul-le_self (p * count) n)
      (mul-le-mul_right count (let le : p ≤ p + 1 = omega arith in le)))

  first_runs : 0 < n → (m : ℕ) → flat_map run (numbers_below m) ≡ places_from parent 0 (start m)
  first_runs some zero =
      sym (ap (places_from parent 0) (ap (λ k. k / n) (zero-mul count) ∙ zero-div n)
      ∙ no_places parent 0)
  first_runs some (suc m) =
      let number : 0 + m ≡ m = omega arith in
      let next : m + 1 ≡ suc m = omega arith in
      ap (flat_map run) (numbers_from-more 0 m)
      ∙ flat_map-append run (numbers_from 0 m) ((0 + m) ∷ [])
      ∙ ap₂ (λ xs ys. xs ++ ys) (first_runs some m)
      (append-nil (run (0 + m))
      ∙ append-nil (places_from parent (start (0 + m)) (start (0 + m + 1)))
      ∙ ap (λ k. places_from parent (start k) (start (k + 1))) number)
      ∙ runs parent 0 (start m) (start (m + 1)) (omega arith) (ordered m some)
      ∙ ap (λ k. places_from parent 0 (start k)) next

  runs_once : 0 < n → flat_map run (numbers_below n) ≡ places_from parent 0 count
  runs_once some =
      first_runs some n ∙ ap (places_from parent 0) (mul-div_cancel_left count some)

abbrev nothing : ℕ → List PlaceData
nothing p = []

no_reads : (numbers : List ℕ) → flat_map nothing numbers ≡ []
no_reads [] = refl
no_reads (p ∷ numbers) = no_reads numbers

-- by the counts of the nodes before one
reads_once : (counts : List ℕ) (node : NodeData) → IsNarrow node → 1 ≤ count_step counts node
    → flat_map (reads_of (λ q. at_or counts q 0) node) (numbers_below (count_step counts node))
    ≡ flat_map (λ parent. places_from parent 0 (at_or counts parent 0)) (parents_of node)
reads_once counts (text_node name n) narrow some = no_reads (numbers_below n)
reads_once counts (parallelize_node rows n) narrow some = no_reads (numbers_below n)
reads_once counts (each_node kind parent e) narrow some =
    let all = places_from parent 0 (at_or counts parent 0) in
    each_once parent (at_or counts parent 0) ∙ sym (append-nil all)
reads_once counts (union_node left right) narrow some =
    both_once left right (at_or counts left 0) (at_or counts right 0)
reads_once counts (coalesce_node parent n) narrow some =
    let all = places_from parent 0 (at_or counts parent 0) in
    runs_once parent (at_or counts parent 0) (min n (at_or counts parent 0)) some
    ∙ sym (append-nil all)
reads_once counts (cache_node parent) narrow some =
    let all = places_from parent 0 (at_or counts parent 0) in
    each_once parent (at_or counts parent 0) ∙ sym (append-nil all)
reads_once counts (shuffle_node kind parent n) narrow some = absurd narrow
reads_once counts (meet_node kind left right n) narrow some = absurd narrow

pub reads_are_whole : ReadsAreWhole
reads_are_whole known work k node sound narrow is =
    let found = meanings_by known work in
    let counts = map length found in
    let same : part_count_by known work k ≡ count_step counts node =
    part_count-step known work k node sound is ∙ parts_of_narrow found counts node narrow in
    let at : k < length work.script.nodes = slice_get_within work.script.nodes k node is in
    let some = count_is_some known work sound k at in
    ap (flat_map (reads_of (stream_count found) node)) (ap numbers_below same)
    ∙ ap (λ (f : ℕ → List PlaceData). flat_map f (numbers_below (count_step counts node)))
    (λ i. λ p. reads_by_counts found node p i)
    ∙ reads_once counts node narrow (omega arith)
    ∙ ap (λ (f : ℕ → List PlaceData). flat_map f (parents_of node))
    (λ i. λ parent. places_from parent 0 (at_or-map_any length found parent [] i))
