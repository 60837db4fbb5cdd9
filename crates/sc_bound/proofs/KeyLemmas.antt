-- Items whose keys are all different.
use Rattle.std.proofs.Common.{◌≡◌, ◌≢◌, ℕ, zero, suc, ◌+◌, ◌<◌, ◌≤◌, ◌==◌, All, Bool, true, false, if◌then◌else◌, List, [], ◌∷◌, length, refl, sym, ◌∙◌, arith}
use Rattle.std.specs.List.{AllPairs}
use Rattle.std.proofs.lemmas.Bool.Decides.{nat_tests}
use Rattle.std.proofs.lemmas.List.Elements.{All-head, All-tail, All-weaker}
use Rattle.sc_taskset.proofs.FindLemmas.{pairs_head, pairs_tail}
use Rattle.sc_bound.proofs.SumLemmas.{one_at, total, total_below, total_sum}

-- a number in a row is met
total_hit : (x n m : ℕ) → n ≤ x → x < n + m → 1 ≤ total (one_at x) n m
total_hit x n zero le lt = absurd (omega (arith, le, lt))
total_hit x n (suc m) le lt =
    by (x == n) refl (λ above. total_hit x (suc n) m above (omega (arith, lt)))
  where
    by : (b : Bool) → (x == n) ≡ b → (suc n ≤ x → 1 ≤ total (one_at x) (suc n) m)
        → 1 ≤ (if b then 1 else 0) + total (one_at x) (suc n) m
    by true e rest = omega arith
    by false e rest =
        let above : suc n ≤ x = grind (arith, nat_tests, e, le) in
        let more = rest above in
        omega (arith, more)

total_ones : (n m : ℕ) → total (λ e. 1) n m ≡ m
total_ones n zero = refl
total_ones n (suc m) = let more = total_ones (suc n) m in omega (arith, more)

-- ---- keys that are all different

-- how many items have a key
abbrev hits : {A : Type 0} → (A → ℕ) → List A → ℕ → ℕ
hits f [] e = 0
hits f (x ∷ xs) e = one_at (f x) e + hits f xs e

hits_none : {A : Type 0} (f : A → ℕ) (xs : List A) (e : ℕ) → All (λ x. f x ≢ e) xs
    → hits f xs e ≡ 0
hits_none f [] e all = refl
hits_none f (x ∷ xs) e all =
    let ne = All-head (λ y. f y ≢ e) x xs all in
    let apart : (f x == e) ≡ false = grind (arith, nat_tests, ne) in
    let more = hits_none f xs e (All-tail (λ y. f y ≢ e) x xs all) in
    rw apart (omega (arith, more))

hits_one : {A : Type 0} (f : A → ℕ) (xs : List A) (e : ℕ) → AllPairs (λ x y. f x ≢ f y) xs
    → hits f xs e ≤ 1
hits_one f [] e pairs = omega arith
hits_one f (x ∷ xs) e pairs =
    by (f x == e) refl (hits_one f xs e (pairs_tail (λ y z. f y ≢ f z) x xs pairs))
  where
    others : (f x ≡ e) → All (λ y. f y ≢ e) xs
    others is =
        All-weaker (λ y. f x ≢ f y) (λ y. f y ≢ e) (λ y ne h. ne (is ∙ sym h)) xs
        (pairs_head (λ y z. f y ≢ f z) x xs pairs)

    by : (b : Bool) → (f x == e) ≡ b → hits f xs e ≤ 1
        → (if b then 1 else 0) + hits f xs e ≤ 1
    by true is rest =
        let same : f x ≡ e = grind (arith, nat_tests, is) in
        let none = hits_none f xs e (others same) in
        omega (arith, none)
    by false is rest = omega (arith, rest)

hits_all : {A : Type 0} (f : A → ℕ) (xs : List A) (most : ℕ)
    → All (λ x. (1 ≤ f x) × (f x ≤ most)) xs → length xs ≤ total (hits f xs) 1 most
hits_all f [] most all = omega arith
hits_all f (x ∷ xs) most all =
    let in_row = All-head (λ y. (1 ≤ f y) × (f y ≤ most)) x xs all in
    let low = in_row.0 in
    let high = in_row.1 in
    let one = total_hit (f x) 1 most low (omega (arith, high)) in
    let more = hits_all f xs most (All-tail (λ y. (1 ≤ f y) × (f y ≤ most)) x xs all) in
    let both = total_sum (one_at (f x)) (hits f xs) 1 most in
    omega (arith, one, more, both)

-- items with keys from one on that are all different are no more than the greatest may be
pub few_keys : {A : Type 0} (f : A → ℕ) (xs : List A) (most : ℕ)
    → AllPairs (λ x y. f x ≢ f y) xs → All (λ x. (1 ≤ f x) × (f x ≤ most)) xs
    → length xs ≤ most
few_keys f xs most pairs all =
    let many = hits_all f xs most all in
    let few = total_below (hits f xs) (λ e. 1) 1 most (λ e. hits_one f xs e pairs) in
    let ones = total_ones 1 most in
    omega (arith, many, few, ones)
