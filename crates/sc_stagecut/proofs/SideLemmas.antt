-- Sides in order, and the numbers that they get.
use Rattle.std.proofs.Common.{◌≡◌, ℕ, zero, suc, ◌+◌, ◌<◌, ◌≤◌, true, eqb, List, [], ◌∷◌, ◌++◌, length, filter, flat_map, All, inl, inr, ◌⊎◌, refl, ap, ap₂, sym, subst, arith}
use Rattle.std.proofs.lemmas.Bool.{and_from, and_parts, cases_lt, eq-eqb, eqb-true, false≢true}
use Rattle.std.proofs.lemmas.List.Elements.{All-append, All-cons, All-head, All-nil, All-tail, All-weaker, Contains-append_cases, Contains-append_left, Contains-append_right}
use Rattle.std.proofs.lemmas.List.Folds.{Any-from_list_any, list_any-from_Any}
use Rattle.std.proofs.lemmas.List.Kept.{AllPairs-cons}
use Rattle.std.specs.List.{AllPairs, Contains, slice_get}
use Rattle.sc_ids.specs.declared.blocks.ShuffleId.{ShuffleId}
use Rattle.sc_lineage.specs.Dependencies.{Dependency}
use Rattle.sc_lineage.specs.NodeData.{NodeData}
use Rattle.sc_stagecut.specs.Numbering.{has_number, in_side_order, is_of, is_shuffle, is_some_shuffle, numbered, numbered_from, side_of, sides_below}
use Rattle.sc_stagecut.specs.Reaching.{dependencies_at}
use Rattle.sc_stagecut.specs.declared.carried.Numbered.{Numbered}
use Rattle.sc_stagecut.proofs.DependencyLemmas.{few_at}
use Rattle.sc_stagecut.proofs.NumberLemmas.{sides_below-more}
use Rattle.sc_stagecut.proofs.OrderLemmas.{AllPairs-append, AllPairs-head, AllPairs-tail, Contains-cases, Contains-filter, Contains-first, Contains-from_filter, Contains-later}

-- one side comes before another
abbrev pub Before : ShuffleId → ShuffleId → Type 0
Before a b = (a.node < b.node) ⊎ ((a.node ≡ b.node) × (a.side < b.side))

-- a side before another isn't that one
pub before_other : (a b : ShuffleId) → Before a b → a ≡ b → ⊥
before_other a b (inl less) same =
    let node : a.node ≡ b.node = ap (λ (s : ShuffleId). s.node) same in omega arith
before_other a b (inr less) same =
    let side : a.side ≡ b.side = ap (λ (s : ShuffleId). s.side) same in omega (arith, less.1)

-- a side before another is of no later node
pub before_node : (a b : ShuffleId) → Before a b → a.node ≤ b.node
before_node a b (inl less) = omega arith
before_node a b (inr less) = omega (arith, less.0)

sides_low : (k : ℕ) → All (λ s. s.node < k) (sides_below k)
sides_low zero = All-nil (λ s. s.node < 0)
sides_low (suc k) =
    let P : ShuffleId → Type 0 = λ s. s.node < suc k in
    let Q : List ShuffleId → Type 0 = λ ss. All P ss in
    subst Q (sym (sides_below-more k))
    (All-append P (sides_below k) (side_of k 0 ∷ side_of k 1 ∷ [])
    (All-weaker (λ s. s.node < k) P (λ s low. omega arith) (sides_below k) (sides_low k))
    (All-cons P (side_of k 0) (side_of k 1 ∷ []) (omega arith)
    (All-cons P (side_of k 1) [] (omega arith) (All-nil P))))

pub sides_ordered : (k : ℕ) → AllPairs Before (sides_below k)
sides_ordered zero = λ i j d before at. absurd (omega arith)
sides_ordered (suc k) =
    let first = side_of k 0 in
    let second = side_of k 1 in
    let Q : List ShuffleId → Type 0 = λ ss. AllPairs Before ss in
    let none : AllPairs Before [] = λ i j d before at. absurd (omega arith) in
    let both : AllPairs Before (first ∷ second ∷ []) =
    AllPairs-cons Before first (second ∷ [])
    (All-cons (Before first) second [] (inr (refl, omega arith)) (All-nil (Before first)))
    (AllPairs-cons Before second [] (All-nil (Before second)) none) in
    subst Q (sym (sides_below-more k))
    (AllPairs-append Before (sides_below k) (first ∷ second ∷ []) (sides_ordered k) both
    (All-weaker (λ s. s.node < k) (λ s. All (Before s) (first ∷ second ∷ []))
    (λ s low. All-cons (Before s) first (second ∷ []) (inl low)
    (All-cons (Before s) second [] (inl low) (All-nil (Before s))))
    (sides_below k) (sides_low k)))

-- each side of each node is there
pub sides_there : (k : ℕ) (s : ShuffleId) → s.node < k → s.side < 2 → Contains (sides_below k) s
sides_there zero s low two = absurd (omega arith)
sides_there (suc k) s low two =
    let Q : List ShuffleId → Type 0 = λ ss. Contains ss s in
    subst Q (sym (sides_below-more k))
    (by (λ before. sides_there k s before two) (cases_lt s.node k))
  where
    last : s.node ≡ k → (s.side ≡ 0) ⊎ (s.side ≡ 1) → Contains (side_of k 0 ∷ side_of k 1 ∷ []) s
    last at (inl left) =
        let is : side_of k 0 ≡ s = ap₂ side_of (sym at) (sym left) in
        let P : ShuffleId → Type 0 = λ x. Contains (side_of k 0 ∷ side_of k 1 ∷ []) x in
        subst P is (Contains-first (side_of k 0) (side_of k 1 ∷ []))
    last at (inr right) =
        let is : side_of k 1 ≡ s = ap₂ side_of (sym at) (sym right) in
        let P : ShuffleId → Type 0 = λ x. Contains (side_of k 0 ∷ side_of k 1 ∷ []) x in
        subst P is
        (Contains-later (side_of k 0) (side_of k 1) (side_of k 1 ∷ [])
        (Contains-first (side_of k 1) []))

    which : (side : ℕ) → side < 2 → (side ≡ 0) ⊎ (side ≡ 1)
    which zero h = inl refl
    which (suc zero) h = inr refl
    which (suc (suc side)) h = absurd (omega arith)

    by : (s.node < k → Contains (sides_below k) s) → (s.node < k) ⊎ (k ≤ s.node)
        → Contains (sides_below k ++ side_of k 0 ∷ side_of k 1 ∷ []) s
    by others (inl before) =
        Contains-append_left (sides_below k) (side_of k 0 ∷ side_of k 1 ∷ []) s (others before)
    by others (inr behind) =
        Contains-append_right (sides_below k) (side_of k 0 ∷ side_of k 1 ∷ []) s
        (last (omega arith) (which s.side two))

-- a shuffle is at one of two sides
pub shuffle_side : (nodes : List NodeData) (s : ShuffleId) → is_shuffle nodes s ≡ true → s.side < 2
shuffle_side nodes s is =
    let few = few_at nodes s.node in
    let at = place (dependencies_at nodes s.node) s.side is in omega (arith, few, at)
  where
    place : (ds : List Dependency) (i : ℕ) → is_some_shuffle (slice_get ds i) ≡ true → i < length ds
    place [] i h = absurd (false≢true h)
    place (d ∷ ds) zero h = omega arith
    place (d ∷ ds) (suc i) h = let rest = place ds i h in omega (arith, rest)

-- What has a number.
pub number_found : (stages : List Numbered) (s : ShuffleId) → has_number stages s ≡ true
    → (n : Numbered) × Contains stages n × (n.shuffle ≡ s)
number_found stages s has =
    let any = Any-from_list_any (is_of s) stages has in
    let n = any.1 in
    let both = and_parts (eqb n.shuffle.node s.node) (eqb n.shuffle.side s.side) any.4 in (
      n,
      (any.0, any.2, any.3),
      ap₂ side_of (eqb-true n.shuffle.node s.node both.0) (eqb-true n.shuffle.side s.side both.1),
    )

pub number_there : (stages : List Numbered) (n : Numbered) → Contains stages n
    → has_number stages n.shuffle ≡ true
number_there stages n c =
    list_any-from_Any (is_of n.shuffle) stages (
      c.0,
      n,
      c.1,
      c.2,
      and_from (eqb n.shuffle.node n.shuffle.node) (eqb n.shuffle.side n.shuffle.side)
          (eq-eqb n.shuffle.node n.shuffle.node refl) (eq-eqb n.shuffle.side n.shuffle.side refl),
    )

-- Numbered shuffles in the order of sides are the numbered shuffles.
Contains-flat_map : {A B : Type 0} (f : A → List B) (xs : List A) (x : A) (y : B)
    → Contains xs x → Contains (f x) y → Contains (flat_map f xs) y
Contains-flat_map f [] x y c has = absurd (omega (arith, c.1))
Contains-flat_map {A} {B} f (z ∷ xs) x y c has =
    by (λ rest. Contains-flat_map f xs x y rest has) (Contains-cases z x xs c)
  where
    by : (Contains xs x → Contains (flat_map f xs) y) → (z ≡ x) ⊎ Contains xs x
        → Contains (f z ++ flat_map f xs) y
    by later (inl same) =
        let P : A → Type 0 = λ w. Contains (f w) y in
        Contains-append_left (f z) (flat_map f xs) y (subst P (sym same) has)
    by later (inr rest) = Contains-append_right (f z) (flat_map f xs) y (later rest)

pub in_side_order_there : (bound : ℕ) (numbers : List Numbered) (n : Numbered)
    → n.shuffle.node < bound → n.shuffle.side < 2 → Contains numbers n
    → Contains (in_side_order bound numbers) n
in_side_order_there bound numbers n low two c =
    Contains-flat_map (λ (s : ShuffleId). filter (is_of s) numbers) (sides_below bound) n.shuffle n
    (sides_there bound n.shuffle low two)
    (Contains-filter (is_of n.shuffle) numbers n c
    (and_from (eqb n.shuffle.node n.shuffle.node) (eqb n.shuffle.side n.shuffle.side)
    (eq-eqb n.shuffle.node n.shuffle.node refl) (eq-eqb n.shuffle.side n.shuffle.side refl)))

of_sides : (numbers : List Numbered) (n : Numbered) (sides : List ShuffleId)
    → Contains (flat_map (λ (s : ShuffleId). filter (is_of s) numbers) sides) n
    → Contains numbers n
of_sides numbers n [] c = absurd (omega (arith, c.1))
of_sides numbers n (s ∷ sides) c =
    by (of_sides numbers n sides)
    (Contains-append_cases (filter (is_of s) numbers)
    (flat_map (λ (t : ShuffleId). filter (is_of t) numbers) sides) n c)
  where
    by : (Contains (flat_map (λ (t : ShuffleId). filter (is_of t) numbers) sides) n
        → Contains numbers n)
        → Contains (filter (is_of s) numbers) n
        ⊎ Contains (flat_map (λ (t : ShuffleId). filter (is_of t) numbers) sides) n
        → Contains numbers n
    by later (inl here) = (Contains-from_filter (is_of s) numbers n here).0
    by later (inr rest) = later rest

pub in_side_order_from : (bound : ℕ) (numbers : List Numbered) (n : Numbered)
    → Contains (in_side_order bound numbers) n → Contains numbers n
in_side_order_from bound numbers n c = of_sides numbers n (sides_below bound) c

-- Numbers one after another.
pub record IsBetween (P : ShuffleId → Type 0) (first last : ℕ) (n : Numbered) : Type 0 where
  pub holds : P n.shuffle
  pub from : first ≤ n.stage
  pub to : n.stage < last

pub numbered_between : (P : ShuffleId → Type 0) (first last : ℕ) (ss : List ShuffleId) → All P ss
    → last ≡ first + length ss → All (IsBetween P first last) (numbered_from first ss)
numbered_between P first last [] all is = All-nil (IsBetween P first last)
numbered_between P first last (s ∷ ss) all is =
    All-cons (IsBetween P first last) (numbered s first) (numbered_from (suc first) ss)
    (record { holds = All-head P s ss all; from = omega arith; to = omega arith })
    (All-weaker (IsBetween P (suc first) last) (IsBetween P first last)
    (λ n is. record { holds = is.holds; from = below first n.stage is.from; to = is.to })
    (numbered_from (suc first) ss)
    (numbered_between P (suc first) last ss (All-tail P s ss all) (omega arith)))
  where
    below : (a b : ℕ) → suc a ≤ b → a ≤ b
    below a b h = omega arith

-- both rise
pub record Rises (m n : Numbered) : Type 0 where
  pub sides : Before m.shuffle n.shuffle
  pub stages : m.stage < n.stage

pub numbered_rises : (first : ℕ) (ss : List ShuffleId) → AllPairs Before ss
    → AllPairs Rises (numbered_from first ss)
numbered_rises first [] pairs = λ i j d before at. absurd (omega arith)
numbered_rises first (s ∷ ss) pairs =
    let one = numbered s first in
    AllPairs-cons Rises one (numbered_from (suc first) ss)
    (All-weaker (IsBetween (Before s) (suc first) (suc first + length ss)) (Rises one)
    (λ n is. record { sides = is.holds; stages = is.from }) (numbered_from (suc first) ss)
    (numbered_between (Before s) (suc first) (suc first + length ss) ss
    (AllPairs-head Before s ss pairs) refl))
    (numbered_rises (suc first) ss (AllPairs-tail Before s ss pairs))

-- each gets a number
pub numbered_there : (first : ℕ) (ss : List ShuffleId) (s : ShuffleId) → Contains ss s
    → (n : Numbered) × Contains (numbered_from first ss) n × (n.shuffle ≡ s)
numbered_there first [] s c = absurd (omega (arith, c.1))
numbered_there first (t ∷ ss) s c =
    by (numbered_there (suc first) ss s) (Contains-cases t s ss c)
  where
    by : (Contains ss s → (n : Numbered) × Contains (numbered_from (suc first) ss) n
        × (n.shuffle ≡ s)) → (t ≡ s) ⊎ Contains ss s
        → (n : Numbered) × Contains (numbered t first ∷ numbered_from (suc first) ss) n
        × (n.shuffle ≡ s)
    by others (inl same) =
        (numbered t first, Contains-first (numbered t first) (numbered_from (suc first) ss), same)
    by others (inr rest) =
        let one = others rest in
        (one.0, Contains-later (numbered t first) one.0 (numbered_from (suc first) ss) one.1, one.2)
