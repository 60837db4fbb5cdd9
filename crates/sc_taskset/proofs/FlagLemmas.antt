-- Flags of numbers, in words of 64.
use Rattle.std.proofs.Common.{◌≡◌, ℕ, ◌+◌, ◌-◌, ◌*◌, ◌/◌, ◌%◌, ◌^◌, ◌<◌, ◌≤◌, ◌==◌, ◌⊎◌, inl, inr, min, true, false, List, length, get_or, set, bit_and, bit_or, w64, ap, sym, ◌∙◌, arith, get_or-set_same, get_or-set_other, length-set}
use Rattle.std.specs.Int.{bit_at, bit_not}
use Rattle.std.proofs.lemmas.Bool.{cases_eq, cases_lt}
use Rattle.std.proofs.lemmas.Nat.Bits.{bit_at-lt, bit_at_set_same, bit_at_set_other, bit_at_clear_same, bit_at_clear_other, bit_at_and, bit_at_mask_inside, bit_at_mask_below, ones_shl}
use Rattle.sc_taskset.specs.Flags.{IsLowest, IsPut, is_set}

-- ---- one flag

module _ (words : List ℕ) (place word : ℕ) (within : place / 64 < length words) where
  -- the flag in a word that was put
  set_same : is_set (set words (place / 64) word) place ≡ (bit_at word (place % 64) == 1)
  set_same =
      ap (λ n. bit_at n (place % 64) == 1) (get_or-set_same words (place / 64) word 0 within)

  -- a word that keeps its other bits keeps the other flags
  set_other :
      ((i : ℕ) → i < 64 → (i ≡ place % 64 → ⊥)
      → bit_at word i ≡ bit_at (get_or words (place / 64) 0) i)
      → (k : ℕ) → (k ≡ place → ⊥) → is_set (set words (place / 64) word) k ≡ is_set words k
  set_other kept k ne = by (cases_eq (k / 64) (place / 64))
    where
      by : (k / 64 ≡ place / 64) ⊎ (k / 64 ≡ place / 64 → ⊥)
          → is_set (set words (place / 64) word) k ≡ is_set words k
      by (inl same) =
          rw (same, get_or-set_same words (place / 64) word 0 within)
          (ap (λ b. b == 1) (kept (k % 64) (omega arith) (λ at. ne (omega (arith, same, at)))))
      by (inr apart) =
          ap (λ n. bit_at n (k % 64) == 1)
          (get_or-set_other words (place / 64) (k / 64) word 0 apart)

-- a flag that is set
pub put_set : (words : List ℕ) (place : ℕ) → place / 64 < length words
    → IsPut words (set words (place / 64)
    (bit_or (get_or words (place / 64) 0) (1 * 2 ^ (place % 64) % 2 ^ 64))) place true
put_set words place within =
    record {
      here = set_same words place _ within
          ∙ ap (λ b. b == 1) (bit_at_set_same w64 (get_or words (place / 64) 0) (place % 64) bit);
      others = set_other words place _ within
          (λ i l ne. bit_at_set_other w64 (get_or words (place / 64) 0) (place % 64) bit i ne);
      len = length-set words (place / 64) _;
    }
  where
    bit : place % 64 < 64
    bit = omega arith

-- one that is cleared
pub put_clear : (words : List ℕ) (place : ℕ) → place / 64 < length words
    → IsPut words (set words (place / 64)
    (bit_and (get_or words (place / 64) 0) (bit_not w64 (1 * 2 ^ (place % 64) % 2 ^ 64)))) place
    false
put_clear words place within =
    record {
      here = set_same words place _ within
          ∙ ap (λ b. b == 1) (bit_at_clear_same w64 (get_or words (place / 64) 0) (place % 64) bit);
      others = set_other words place _ within
          (λ i l ne. bit_at_clear_other w64 (get_or words (place / 64) 0) (place % 64) bit i l ne);
      len = length-set words (place / 64) _;
    }
  where
    bit : place % 64 < 64
    bit = omega arith

-- ---- the next flag

-- a word has the flags of its place from a number on, and none before
pub record IsRest (words : List ℕ) (from at word : ℕ) : Type 0 where
  pub kept : (i : ℕ) → i < 64 → from ≤ 64 * at + i → bit_at word i ≡ bit_at (get_or words at 0) i
  pub gone : (i : ℕ) → i < 64 → 64 * at + i < from → bit_at word i ≡ 0

-- no flag is set from one number on and below another
abbrev pub NoneFrom : List ℕ → ℕ → ℕ → Type 0
NoneFrom words from to = (k : ℕ) → from ≤ k → k < to → is_set words k ≡ false

-- the word of a number without the flags before it
pub rest_masked : (words : List ℕ) (from : ℕ)
    → IsRest words from (from / 64)
    (bit_and (get_or words (from / 64) 0) ((2 ^ 64 - 1) * 2 ^ (from % 64) % 2 ^ 64))
rest_masked words from =
    record {
      kept = λ i l le.
          masked i
          ∙ ap (min (bit_at word i)) (bit_at_mask_inside (from % 64) 64 i (omega (arith, le)) l)
          ∙ least (bit_at word i) (bit_at-lt word i);
      gone = λ i l lt.
          masked i
          ∙ ap (min (bit_at word i)) (bit_at_mask_below (from % 64) 64 i (omega (arith, lt)))
          ∙ none (bit_at word i);
    }
  where
    word : ℕ
    word = get_or words (from / 64) 0

    mask : (2 ^ 64 - 1) * 2 ^ (from % 64) % 2 ^ 64 ≡ 2 ^ 64 - 2 ^ (from % 64)
    mask = ones_shl 64 (from % 64) (omega arith)

    masked : (i : ℕ) → bit_at (bit_and word ((2 ^ 64 - 1) * 2 ^ (from % 64) % 2 ^ 64)) i
        ≡ min (bit_at word i) (bit_at (2 ^ 64 - 2 ^ (from % 64)) i)
    masked i =
        ap (λ m. bit_at (bit_and word m) i) mask ∙ bit_at_and word (2 ^ 64 - 2 ^ (from % 64)) i

    least : (b : ℕ) → b < 2 → min b 1 ≡ b
    least b l = omega (arith, l)

    none : (b : ℕ) → min b 0 ≡ 0
    none b = omega arith

-- the lowest flag of a word
module _ (words : List ℕ) (from at word low : ℕ) (lowest : IsLowest word low)
    (rest : IsRest words from at word) (before : NoneFrom words from (64 * at)) where
  -- it isn't before the number
  pub found_from : from ≤ at * 64 + low
  found_from = by (cases_lt (64 * at + low) from)
    where
      by : (64 * at + low < from) ⊎ (from ≤ 64 * at + low) → from ≤ at * 64 + low
      by (inl l) = absurd (let z = rest.gone low lowest.within l in
          let o = lowest.here in omega (arith, z, o))
      by (inr le) = omega (arith, le)

  -- it is set
  pub found_set : is_set words (at * 64 + low) ≡ true
  found_set =
      let word_at : (at * 64 + low) / 64 ≡ at = omega (arith, lowest.within) in
      let bit : (at * 64 + low) % 64 ≡ low = omega (arith, lowest.within) in
      rw (word_at, bit)
      (ap (λ b. b == 1)
      (sym (rest.kept low lowest.within (omega (arith, found_from))) ∙ lowest.here))

  -- and none before it is
  pub found_none : NoneFrom words from (at * 64 + low)
  found_none k le lt = by (cases_lt k (64 * at))
    where
      by : (k < 64 * at) ⊎ (64 * at ≤ k) → is_set words k ≡ false
      by (inl l) = before k le l
      by (inr here) =
          let word_at : k / 64 ≡ at = omega (arith, here, lt, lowest.within) in
          let bit : bit_at (get_or words at 0) (k % 64) ≡ 0 =
          sym (rest.kept (k % 64) (omega arith) (omega (arith, le, here, lt)))
          ∙ lowest.none (k % 64) (omega (arith, here, lt, word_at)) in
          rw word_at (ap (λ b. b == 1) bit)
