-- A word of a text at its place, and how many there are.
use Rattle.std.proofs.Common.{◌≡◌, ◌∙◌, ℕ, zero, suc, ◌+◌, ◌-◌, ◌<◌, ◌≤◌, List, [], ◌∷◌, ◌++◌, length, take, drop, refl, ap, sym, arith}
use Rattle.std.proofs.Common.{Some, min}
use Rattle.std.proofs.lemmas.List.{length-take-le}
use Rattle.std.specs.List.{position_or_len, slice_get, slice_range}
use Rattle.std.specs.Str.{IsUtf8}
use Rattle.sc_value.specs.Spans.{IsPart}
use Rattle.sc_value.specs.Words.{is_blank, words_of}
use Rattle.sc_value.proofs.PieceLemmas.{IsRest, rest_within, rest_part, rest_behind, is_blank-ascii, piece_within, range_behind, range_length}
use Rattle.sc_value.proofs.WordLemmas.{some_piece, words_first, words_from}

-- the word that is looked for is one of those behind a place
pub record IsWordFrom (text : List ℕ) (first from end k left : ℕ) : Type 0 where
  pub word : slice_get (words_of (slice_range text from end)) left
      ≡ slice_get (words_of (slice_range text first end)) k
  pub utf8 : IsUtf8 (slice_range text from end)

-- one word less to go
skip_word : (left : ℕ) (w : List ℕ) (ws : List (List ℕ)) → (left ≡ 0 → length w ≡ 0)
    → slice_get (some_piece w ++ ws) left ≡ slice_get ws (left - min (length w) 1)
skip_word left [] ws none = ap (slice_get ws) (let e : left ≡ left - min 0 1 = omega arith in e)
skip_word zero (x ∷ w) ws none = absurd (omega (arith, none refl))
skip_word (suc left) (x ∷ w) ws none =
    ap (slice_get ws) (let e : left ≡ suc left - min (suc (length w)) 1 = omega arith in e)

front_word : (w : List ℕ) (ws : List (List ℕ)) → 0 < length w
    → slice_get (some_piece w ++ ws) 0 ≡ Some w
front_word [] ws some = absurd (omega arith)
front_word (x ∷ w) ws some = refl

piece_length : (text : List ℕ) (from end n : ℕ) → IsRest is_blank text from end n
    → length (slice_range text from (from + n)) ≡ n
piece_length text from end n rest =
    range_length text from (from + n)
    (omega (arith, rest_within is_blank text from end n rest, rest.small))
    ∙ (let e : (from + n) - from ≡ n = omega arith in e)

pub IsWordFrom-more : (text : List ℕ) (first from n end k left now : ℕ) → end ≤ length text
    → from < end → n ≡ position_or_len is_blank (slice_range text from end) → (left ≡ 0 → n ≡ 0)
    → now ≡ left - min n 1
    → IsWordFrom text first from end k left → IsWordFrom text first (from + n + 1) end k now
IsWordFrom-more text first from n end k left now small some next none now_is was =
    let rest : IsRest is_blank text from end n =
    record { utf8 = was.utf8; small = small; ordered = omega arith; next = next } in
    let w = slice_range text from (from + n) in
    let ws = words_of (slice_range text (from + n + 1) end) in
    let len : length w ≡ n = piece_length text from end n rest in
    record {
      word =
          ap (slice_get ws) (now_is ∙ ap (λ m. left - min m 1) (sym len))
          ∙ sym (skip_word left w ws (λ is. len ∙ none is))
          ∙ ap (λ all. slice_get all left) (sym (words_from text from end n rest))
          ∙ was.word;
      utf8 = rest_behind is_blank text from end n is_blank-ascii rest;
    }

-- the word is found
pub IsWordFrom-found : (text : List ℕ) (first from n end k left : ℕ) → end ≤ length text
    → from < end → n ≡ position_or_len is_blank (slice_range text from end) → left ≡ 0 → 0 < n
    → IsWordFrom text first from end k left
    → Some (slice_range text from (from + n)) ≡ slice_get (words_of (slice_range text first end)) k
IsWordFrom-found text first from n end k left small some next none word was =
    let rest : IsRest is_blank text from end n =
    record { utf8 = was.utf8; small = small; ordered = omega arith; next = next } in
    let w = slice_range text from (from + n) in
    sym (front_word w (words_of (slice_range text (from + n + 1) end))
    (omega (arith, piece_length text from end n rest)))
    ∙ ap (λ all. slice_get all 0) (sym (words_from text from end n rest))
    ∙ ap (slice_get (words_of (slice_range text from end))) (sym none)
    ∙ was.word

pub IsWordFrom-part : (text : List ℕ) (first from n end k left : ℕ) → end ≤ length text
    → from < end → n ≡ position_or_len is_blank (slice_range text from end)
    → IsWordFrom text first from end k left
    → IsPart text (record { from = from; to = from + n })
IsWordFrom-part text first from n end k left small some next was =
    rest_part is_blank text from end n is_blank-ascii
    (record { utf8 = was.utf8; small = small; ordered = omega arith; next = next })

-- how many words a list has with one more piece
count_some : (w : List ℕ) (ws : List (List ℕ))
    → length (some_piece w ++ ws) ≡ min (length w) 1 + length ws
count_some [] ws = omega arith
count_some (x ∷ w) ws = omega arith

-- as many words stand before a place
pub record IsCountTo (text : List ℕ) (from count : ℕ) : Type 0 where
  pub all : count + length (words_of (slice_range text from (length text)))
      ≡ length (words_of text)
  pub few : count ≤ from

pub IsCountTo-more : (text : List ℕ) (from n count now : ℕ) → from < length text
    → n ≡ position_or_len is_blank (slice_range text from (length text)) → now ≡ count + min n 1
    → IsCountTo text from count → IsCountTo text (from + n + 1) now
IsCountTo-more text from n count now some next now_is was =
    let end = length text in
    let xs = slice_range text from end in
    let behind = words_of (slice_range text (from + n + 1) end) in
    let len : length xs ≡ end - from = range_length text from end (omega arith) in
    let within : from + n ≤ end = omega (arith, next, piece_within is_blank xs, len) in
    let step : length (words_of xs) ≡ min n 1 + length behind =
    ap length (words_first xs n next)
    ∙ count_some (take n xs) (words_of (drop (n + 1) xs))
    ∙ ap (λ m. min m 1 + length (words_of (drop (n + 1) xs)))
    (length-take-le n xs (omega (arith, len, within)))
    ∙ ap (λ r. min n 1 + length (words_of r)) (range_behind text from n end within (omega arith)) in
    record { all = omega (arith, step, was.all, now_is); few = omega (arith, was.few, now_is) }
