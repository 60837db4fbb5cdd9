-- Even slices, one behind the other.
use Rattle.std.proofs.Common.{◌≡◌, ◌∙◌, ℕ, zero, suc, ◌+◌, ◌-◌, ◌*◌, ◌/◌, ◌%◌, ◌<◌, ◌≤◌, ◌⊎◌, inl, inr, List, [], ◌++◌, length, take, drop, ap, sym, subst, arith, append-nil, append_assoc, slice_range}
use Rattle.std.specs.List.{flat_map}
use Rattle.std.proofs.lemmas.Bool.{cases_lt}
use Rattle.std.proofs.lemmas.List.{take-append-drop, drop-drop}
use Rattle.std.proofs.lemmas.List.Edits.{length-between}
use Rattle.std.proofs.lemmas.Nat.{div-mul-add, div-add-mod'}
use Rattle.std.proofs.Math.ListN.{drop_of_length-le}
use Rattle.std.proofs.Math.Nat.{add-mul, zero-mul, mod-lt, zero-div, le_refl, mul-le-mul_right, mul-div_cancel_left, div-le_of_le-mul}
use Rattle.sc_base.specs.Lists.{numbers_from, numbers_below}
use Rattle.sc_input.specs.Slices.{slice_start, slice_of, AreEvenSlices}

-- the quotient of a sum of two numbers, by their quotients p and q
joined : (n p q r e : ℕ) → r < n → e < n
    → ((p * n + r + (q * n + e)) / n ≡ p + q) ⊎ ((p * n + r + (q * n + e)) / n ≡ p + q + 1)
joined n p q r e small small' = elim (cases_lt (r + e) n) [
  | inl below ↦ inl (ap (λ x. x / n) (omega (arith, add-mul p q n))
      ∙ div-mul-add (p + q) n (r + e) below)
  | inr above ↦ inr (ap (λ x. x / n) (omega (arith, add-mul p q n, add-mul (p + q) 1 n))
      ∙ div-mul-add (p + q + 1) n (r + e - n) (omega arith))
]

-- the next slice begins as many places on as the quotient says, or one more
start_more : (len n i : ℕ) → 0 < n
    → (slice_start len n (i + 1) ≡ slice_start len n i + len / n)
    ⊎ (slice_start len n (i + 1) ≡ slice_start len n i + len / n + 1)
start_more len n i some =
    subst (λ x. (x / n ≡ i * len / n + len / n) ⊎ (x / n ≡ i * len / n + len / n + 1))
    (omega (arith, div-add-mod' (i * len) n, div-add-mod' len n, add-mul i 1 len))
    (joined n (i * len / n) (len / n) (i * len % n) (len % n)
    (mod-lt (i * len) some) (mod-lt len some))

-- a slice doesn't end before it begins
ordered : (len n i : ℕ) → 0 < n → slice_start len n i ≤ slice_start len n (i + 1)
ordered len n i some = elim (start_more len n i some) [
  | inl is ↦ omega arith
  | inr is ↦ omega arith
]

-- a part and what stands behind it
part_then_rest : {A : Type 0} (xs : List A) (from to : ℕ) → from ≤ to
    → slice_range xs from to ++ drop to xs ≡ drop from xs
part_then_rest xs from to order =
    ap (λ ys. take (to - from) (drop from xs) ++ ys)
    (ap (λ k. drop k xs) (omega arith) ∙ sym (drop-drop (to - from) from xs))
    ∙ take-append-drop (to - from) (drop from xs)

-- so many slices from one on, and what stands behind them
slices_then_rest : {A : Type 0} (xs : List A) (n first count : ℕ) → 0 < n
    → flat_map (slice_of xs n) (numbers_from first count)
    ++ drop (slice_start (length xs) n (first + count)) xs
    ≡ drop (slice_start (length xs) n first) xs
slices_then_rest xs n first zero some =
    ap (λ k. drop (slice_start (length xs) n k) xs) (omega arith)
slices_then_rest xs n first (suc count) some =
    append_assoc (slice_of xs n first) (flat_map (slice_of xs n) (numbers_from (suc first) count)) _
    ∙ ap (λ ys. slice_of xs n first ++ ys)
    (ap (λ k. flat_map (slice_of xs n) (numbers_from (suc first) count)
    ++ drop (slice_start (length xs) n k) xs) (omega arith)
    ∙ slices_then_rest xs n (suc first) count some
    ∙ ap (λ k. drop (slice_start (length xs) n k) xs) (omega arith))
    ∙ part_then_rest xs (slice_start (length xs) n first)
    (slice_start (length xs) n (first + 1)) (ordered (length xs) n first some)

-- no slice ends past the list
within : (len n i : ℕ) → i < n → slice_start len n (i + 1) ≤ len
within len n i below = div-le_of_le-mul n (mul-le-mul_right len (omega arith))

pub are_even : {A : Type 0} (xs : List A) (n : ℕ) → 0 < n → AreEvenSlices xs n
are_even xs n some =
    let len = length xs in
    let begins : slice_start len n 0 ≡ 0 = ap (λ k. k / n) (zero-mul len) ∙ zero-div n in
    let ends : slice_start len n n ≡ len = mul-div_cancel_left len some in
    let none : drop (slice_start len n (0 + n)) xs ≡ [] =
    ap (λ k. drop (slice_start len n k) xs) (omega arith)
    ∙ ap (λ k. drop k xs) ends ∙ drop_of_length-le xs (le_refl len) in
    let long : (i : ℕ) → i < n
    → length (slice_of xs n i) ≡ slice_start len n (i + 1) - slice_start len n i =
    λ i below. length-between xs (slice_start len n i) (slice_start len n (i + 1))
    (within len n i below) in
    record {
      whole = sym (append-nil _)
          ∙ ap (λ ys. flat_map (slice_of xs n) (numbers_below n) ++ ys) (sym none)
          ∙ slices_then_rest xs n 0 n some ∙ ap (λ k. drop k xs) begins;
      begins = begins;
      ends = ends;
      even = λ i below. elim (start_more len n i some) [
        | inl is ↦ inl (omega (arith, long i below))
        | inr is ↦ inr (omega (arith, long i below))
      ];
    }
