-- A piece at the front of a text: where it ends, and that the text may be cut there.
use Rattle.std.proofs.Common.{◌≡◌, ◌∙◌, ℕ, ◌+◌, ◌-◌, ◌<◌, ◌≤◌, ◌⊎◌, inl, inr, Bool, true, false, not, ◌||◌, ◌==◌, cond, List, [], length, take, drop, get_or, refl, ap, sym, subst, arith}
use Rattle.std.proofs.Common.{Option, Some, None, ltb, unwrap_or}
use Rattle.std.proofs.Math.Nat.{eq-or-lt_of_le}
use Rattle.std.proofs.lemmas.Bool.{eqb-true, cases_Bool, cond-true, cond-false, ltb-false}
use Rattle.std.proofs.lemmas.List.{drop_all, drop-drop, drop-take, take-take, length-drop, length-take-le}
use Rattle.std.proofs.lemmas.List.Sums.{fails_before_first, passes_at_first, prefix_len-le-length}
use Rattle.std.proofs.lemmas.Str.{IsCharBoundary-after_ascii, IsUtf8-drop, IsUtf8-nil, IsUtf8-take}
use Rattle.std.specs.List.{All, position_or_len, slice_range}
use Rattle.std.specs.Str.{IsUtf8}
use Rattle.sc_value.specs.Spans.{IsPart}
use Rattle.sc_value.specs.Words.{is_blank}

-- a test that only ASCII passes
abbrev pub Ascii : (ℕ → Bool) → Type 0
Ascii p = (x : ℕ) → p x ≡ true → x < 128

pub is_blank-ascii : Ascii is_blank
is_blank-ascii x is = by_tests x (x == 32) (x == 9) (eqb-true x 32) (eqb-true x 9) is where
  by_tests : (x : ℕ) (space tab : Bool) → (space ≡ true → x ≡ 32) → (tab ≡ true → x ≡ 9)
      → (space || tab) ≡ true → x < 128
  by_tests x true tab is_space is_tab is = let same : x ≡ 32 = is_space refl in omega arith
  by_tests x false true is_space is_tab is = let same : x ≡ 9 = is_tab refl in omega arith
  by_tests x false false is_space is_tab is = absurd (cc)

pub byte-ascii : (c : ℕ) → c < 128 → Ascii (λ b. b == c)
byte-ascii c small x is = let same : x ≡ c = eqb-true x c is in omega arith

-- a text may be cut before and behind the first byte that passes
pub piece_within : (p : ℕ → Bool) (xs : List ℕ) → position_or_len p xs ≤ length xs
piece_within p xs = prefix_len-le-length (λ x. not (p x)) xs

pub piece_utf8 : (p : ℕ → Bool) → Ascii p → (xs : List ℕ) → IsUtf8 xs
    → IsUtf8 (take (position_or_len p xs) xs)
piece_utf8 p ascii xs utf8 = IsUtf8-take xs (position_or_len p xs) utf8 (
  piece_within p xs,
  λ below wide. let small : get_or xs (position_or_len p xs) 0 < 128 =
      ascii _ (passes_at_first p xs 0 below) in absurd (omega arith),
)

pub rest_utf8 : (p : ℕ → Bool) → Ascii p → (xs : List ℕ) → IsUtf8 xs
    → IsUtf8 (drop (position_or_len p xs + 1) xs)
rest_utf8 p ascii xs utf8 = by_end (eq-or-lt_of_le (piece_within p xs)) where
  by_end : (position_or_len p xs ≡ length xs) ⊎ (position_or_len p xs < length xs)
      → IsUtf8 (drop (position_or_len p xs + 1) xs)
  by_end (inl last) =
      subst IsUtf8 (sym (drop_all (position_or_len p xs + 1) xs (omega arith))) IsUtf8-nil
  by_end (inr below) = IsUtf8-drop xs (position_or_len p xs + 1) utf8
      (IsCharBoundary-after_ascii xs (position_or_len p xs) utf8 below
      (ascii _ (passes_at_first p xs 0 below)))

-- where none passes
pub none_passes : (p : ℕ → Bool) (xs : List ℕ) → position_or_len p xs ≡ length xs
    → All (λ x. p x ≡ false) xs
none_passes p xs last k d below = fails_before_first p xs k d (omega arith)

-- the first place that passes, or else the length, is one number
pub position_or_length : (test : ℕ → Bool) (bytes : List ℕ) (found : Option ℕ)
    → found ≡ cond (ltb (position_or_len test bytes) (length bytes))
    (Some (position_or_len test bytes)) None
    → unwrap_or found (length bytes) ≡ position_or_len test bytes
position_or_length test bytes found is =
    at (cases_Bool (ltb (position_or_len test bytes) (length bytes)))
  where
    at : (ltb (position_or_len test bytes) (length bytes) ≡ true)
        ⊎ (ltb (position_or_len test bytes) (length bytes) ≡ false)
        → unwrap_or found (length bytes) ≡ position_or_len test bytes
    at (inl within) = ap (λ o. unwrap_or o (length bytes)) (is ∙ cond-true _ _ _ within)
    at (inr past) =
        ap (λ o. unwrap_or o (length bytes)) (is ∙ cond-false _ _ _ past)
        ∙ omega (arith, ltb-false _ _ past, prefix_len-le-length (λ c. not (test c)) bytes)

-- the front of a range, and what is behind it
pub range_length : (text : List ℕ) (from end : ℕ) → end ≤ length text
    → length (slice_range text from end) ≡ end - from
range_length text from end small =
    length-take-le (end - from) (drop from text) (omega (arith, length-drop from text))

pub range_past : (text : List ℕ) (from end : ℕ) → end ≤ from → slice_range text from end ≡ []
range_past text from end past =
    ap (λ n. take n (drop from text)) (let e : end - from ≡ 0 = omega arith in e)

pub range_front : (text : List ℕ) (from n end : ℕ) → from + n ≤ end
    → slice_range text from (from + n) ≡ take n (slice_range text from end)
range_front text from n end within =
    ap (λ k. take k (drop from text)) (let e : (from + n) - from ≡ n = omega arith in e)
    ∙ sym (take-take n (end - from) (drop from text) (omega arith))

pub range_behind : (text : List ℕ) (from n end : ℕ) → from + n ≤ end → end ≤ length text
    → drop (n + 1) (slice_range text from end) ≡ slice_range text (from + n + 1) end
range_behind text from n end within small = by_end (eq-or-lt_of_le within) where
  by_end : (from + n ≡ end) ⊎ (from + n < end)
      → drop (n + 1) (slice_range text from end) ≡ slice_range text (from + n + 1) end
  by_end (inl last) =
      drop_all (n + 1) (slice_range text from end) (omega (arith, range_length text from end small))
      ∙ sym (range_past text (from + n + 1) end (omega arith))
  by_end (inr below) =
      ap (λ k. drop (n + 1) (take k (drop from text)))
      (let e : end - from ≡ (n + 1) + (end - (from + n + 1)) = omega arith in e)
      ∙ drop-take (n + 1) (end - (from + n + 1)) (drop from text)
      ∙ ap (take (end - (from + n + 1))) (drop-drop (n + 1) from text
      ∙ ap (λ k. drop k text) (let e : from + (n + 1) ≡ from + n + 1 = omega arith in e))

-- what is left of a text behind a place, with its first piece
pub record IsRest (p : ℕ → Bool) (text : List ℕ) (from end n : ℕ) : Type 0 where
  pub utf8 : IsUtf8 (slice_range text from end)
  pub small : end ≤ length text
  pub ordered : from ≤ end
  pub next : n ≡ position_or_len p (slice_range text from end)

pub rest_within : (p : ℕ → Bool) (text : List ℕ) (from end n : ℕ) → IsRest p text from end n
    → from + n ≤ end
rest_within p text from end n rest =
    omega (
      arith,
      rest.ordered,
      rest.next,
      piece_within p (slice_range text from end),
      range_length text from end rest.small,
    )

pub rest_part : (p : ℕ → Bool) (text : List ℕ) (from end n : ℕ) → Ascii p
    → IsRest p text from end n → IsPart text (record { from = from; to = from + n })
rest_part p text from end n ascii rest =
    let within = rest_within p text from end n rest in
    record {
      ordered = omega arith;
      within = omega (arith, within, rest.small);
      utf8 = subst IsUtf8 (ap (λ m. take m (slice_range text from end)) (sym rest.next)
          ∙ sym (range_front text from n end within))
          (piece_utf8 p ascii (slice_range text from end) rest.utf8);
    }

pub rest_behind : (p : ℕ → Bool) (text : List ℕ) (from end n : ℕ) → Ascii p
    → IsRest p text from end n → IsUtf8 (slice_range text (from + n + 1) end)
rest_behind p text from end n ascii rest =
    let xs = slice_range text from end in
    subst IsUtf8 (ap (λ k. drop (k + 1) xs) (sym rest.next)
    ∙ range_behind text from n end (rest_within p text from end n rest) rest.small)
    (rest_utf8 p ascii xs rest.utf8)
