-- The words of a text, one after another.
use Rattle.std.proofs.Common.{◌≡◌, ◌∙◌, ℕ, ◌+◌, ◌-◌, ◌<◌, ◌≤◌, ◌⊎◌, inl, inr, Bool, true, false, cond, List, [], ◌∷◌, ◌++◌, length, map, take, drop, refl, ap, sym, subst, arith}
use Rattle.std.proofs.Math.Nat.{eq-or-lt_of_le}
use Rattle.std.proofs.lemmas.Bool.{lt-ltb}
use Rattle.std.proofs.lemmas.List.{append_assoc, append-nil, drop_all, take_all, map-append}
use Rattle.std.proofs.lemmas.List.Elements.{All-append, All-nil, All-cons}
use Rattle.std.proofs.lemmas.List.Splits.{slice_split_first, slice_split_none}
use Rattle.std.specs.List.{All, filter, position_or_len, slice_range, slice_split}
use Rattle.std.specs.Prelude.{nat_lt}
use Rattle.std.specs.Str.{IsUtf8}
use Rattle.sc_value.specs.declared.texts.Span.{Span}
use Rattle.sc_value.specs.Spans.{IsPart, part_at, some_span}
use Rattle.sc_value.specs.Words.{is_blank, is_some_piece, words_of}
use Rattle.sc_value.proofs.PieceLemmas.{IsRest, rest_within, rest_part, rest_behind, is_blank-ascii, none_passes, piece_within, range_behind, range_front, range_length}

-- a piece as words: none, if it is empty
abbrev pub some_piece : List ℕ → List (List ℕ)
some_piece w = filter is_some_piece (w ∷ [])

cond_front : (b : Bool) (w : List ℕ) (ws : List (List ℕ))
    → cond b (w ∷ ws) ws ≡ cond b (w ∷ []) [] ++ ws
cond_front true w ws = refl
cond_front false w ws = refl

-- the words are the first piece, if it isn't empty, and those behind it
pub words_first : (xs : List ℕ) (n : ℕ) → n ≡ position_or_len is_blank xs
    → words_of xs ≡ some_piece (take n xs) ++ words_of (drop (n + 1) xs)
words_first xs n is = by_end (eq-or-lt_of_le (piece_within is_blank xs)) where
  by_end : (position_or_len is_blank xs ≡ length xs) ⊎ (position_or_len is_blank xs < length xs)
      → words_of xs ≡ some_piece (take n xs) ++ words_of (drop (n + 1) xs)
  by_end (inl last) =
      ap (filter is_some_piece) (slice_split_none is_blank xs (none_passes is_blank xs last)
      ∙ ap (λ w. w ∷ []) (sym (take_all n xs (omega (arith, is, last)))))
      ∙ sym (append-nil (some_piece (take n xs)))
      ∙ ap (λ r. some_piece (take n xs) ++ words_of r)
      (sym (drop_all (n + 1) xs (omega (arith, is, last))))
  by_end (inr below) =
      ap (filter is_some_piece) (slice_split_first is_blank xs 0 below
      ∙ ap (λ k. take k xs ∷ slice_split is_blank (drop (k + 1) xs)) (sym is))
      ∙ cond_front (is_some_piece (take n xs)) (take n xs) (words_of (drop (n + 1) xs))

-- the words of a range behind a place
pub words_from : (text : List ℕ) (from end n : ℕ) → IsRest is_blank text from end n
    → words_of (slice_range text from end)
    ≡ some_piece (slice_range text from (from + n))
    ++ words_of (slice_range text (from + n + 1) end)
words_from text from end n rest =
    let within = rest_within is_blank text from end n rest in
    words_first (slice_range text from end) n rest.next
    ∙ ap (λ w. some_piece w ++ words_of (drop (n + 1) (slice_range text from end)))
    (sym (range_front text from n end within))
    ∙ ap (λ r. some_piece (slice_range text from (from + n)) ++ words_of r)
    (range_behind text from n end within rest.small)

-- how many words a piece is
some_length : (w : List ℕ) (n : ℕ) → length w ≡ n → is_some_piece w ≡ nat_lt 0 n
some_length [] n is = ap (nat_lt 0) is
some_length (x ∷ w) n is = sym (lt-ltb 0 n (omega (arith, is)))

-- the words of a part of a text up to a place lie at the spans behind the old ones
pub record AreWordsTo (text whole : List ℕ) (old spans : List Span) (from end : ℕ) : Type 0 where
  pub words : map (part_at text) spans ++ words_of (slice_range text from end)
      ≡ map (part_at text) old ++ words_of whole
  pub parts : All (IsPart text) spans
  pub utf8 : IsUtf8 (slice_range text from end)
  pub small : end ≤ length text

-- the place of a piece
map_some : (f : Span → List ℕ) (b : Bool) (s : Span) (w : List ℕ) → f s ≡ w
    → map f (cond b (s ∷ []) []) ≡ cond b (w ∷ []) []
map_some f true s w is = ap (λ x. x ∷ []) is
map_some f false s w is = refl

All-some : (P : Span → Type 0) (b : Bool) (s : Span) → P s → All P (cond b (s ∷ []) [])
All-some P true s is = All-cons P s [] is (All-nil P)
All-some P false s is = All-nil P

-- the piece at a span, as words
some_at : (text : List ℕ) (from end n : ℕ) → IsRest is_blank text from end n
    → map (part_at text) (some_span from n) ≡ some_piece (slice_range text from (from + n))
some_at text from end n rest =
    let w = slice_range text from (from + n) in
    let within = rest_within is_blank text from end n rest in
    map_some (part_at text) (nat_lt 0 n) (record { from = from; to = from + n }) w refl
    ∙ ap (λ b. cond b (w ∷ []) []) (sym (some_length w n
    (range_length text from (from + n) (omega (arith, within, rest.small))
    ∙ (let e : (from + n) - from ≡ n = omega arith in e))))

pub AreWordsTo-more : (text whole : List ℕ) (old spans now : List Span) (from n end : ℕ)
    → n ≡ position_or_len is_blank (slice_range text from end) → from < end
    → now ≡ spans ++ some_span from n
    → AreWordsTo text whole old spans from end
    → AreWordsTo text whole old now (from + n + 1) end
AreWordsTo-more text whole old spans now from n end next some now_is was =
    let rest : IsRest is_blank text from end n =
    record { utf8 = was.utf8; small = was.small; ordered = omega arith; next = next } in
    let behind = words_of (slice_range text (from + n + 1) end) in
    let word = some_piece (slice_range text from (from + n)) in
    let P : List Span → Type 0 = λ all. All (IsPart text) all in
    record {
      words =
          ap (λ all. map (part_at text) all ++ behind) now_is
          ∙ ap (λ seen. seen ++ behind) (map-append (part_at text) spans (some_span from n)
          ∙ ap (λ w. map (part_at text) spans ++ w) (some_at text from end n rest))
          ∙ append_assoc (map (part_at text) spans) word behind
          ∙ ap (λ ws. map (part_at text) spans ++ ws) (sym (words_from text from end n rest))
          ∙ was.words;
      parts = subst P (sym now_is) (All-append (IsPart text) spans (some_span from n) was.parts
          (All-some (IsPart text) (nat_lt 0 n) (record { from = from; to = from + n })
          (rest_part is_blank text from end n is_blank-ascii rest)));
      utf8 = rest_behind is_blank text from end n is_blank-ascii rest;
      small = was.small;
    }

-- the words of a text up to a place are those that were copied
pub record AreCopiedTo (text : List ℕ) (copies : List (List ℕ)) (from : ℕ) : Type 0 where
  pub words : copies ++ words_of (slice_range text from (length text)) ≡ words_of text
  pub utf8 : IsUtf8 (slice_range text from (length text))

pub AreCopiedTo-more : (text : List ℕ) (copies now : List (List ℕ)) (from n : ℕ)
    → n ≡ position_or_len is_blank (slice_range text from (length text)) → from < length text
    → now ≡ copies ++ some_piece (slice_range text from (from + n))
    → AreCopiedTo text copies from → AreCopiedTo text now (from + n + 1)
AreCopiedTo-more text copies now from n next some now_is was =
    let end = length text in
    let rest : IsRest is_blank text from end n =
    record { utf8 = was.utf8; small = omega arith; ordered = omega arith; next = next } in
    let behind = words_of (slice_range text (from + n + 1) end) in
    let word = some_piece (slice_range text from (from + n)) in
    record {
      words =
          ap (λ all. all ++ behind) now_is ∙ append_assoc copies word behind
          ∙ ap (λ ws. copies ++ ws) (sym (words_from text from end n rest))
          ∙ was.words;
      utf8 = rest_behind is_blank text from end n is_blank-ascii rest;
    }

pub copied_utf8 : (text : List ℕ) (copies : List (List ℕ)) (from n : ℕ)
    → n ≡ position_or_len is_blank (slice_range text from (length text)) → from < length text
    → AreCopiedTo text copies from → IsUtf8 (slice_range text from (from + n))
copied_utf8 text copies from n next some was =
    let part = rest_part is_blank text from (length text) n is_blank-ascii
    (record { utf8 = was.utf8; small = omega arith; ordered = omega arith; next = next }) in
    part.utf8
