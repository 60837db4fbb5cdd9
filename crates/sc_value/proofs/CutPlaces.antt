-- The pieces of a text between the occurrences of an ASCII character, at their places.
use Rattle.std.proofs.Common.{◌≡◌, ◌∙◌, ℕ, zero, suc, ◌+◌, ◌-◌, ◌<◌, ◌≤◌, Bool, ◌==◌, List, [], ◌∷◌, ◌++◌, length, map, take, drop, refl, ap, sym, subst, arith}
use Rattle.std.proofs.Common.{Some, None, ◌⊎◌, inl, inr}
use Rattle.std.proofs.Math.Nat.{eq-or-lt_of_le}
use Rattle.std.proofs.lemmas.List.{append_assoc, map_push}
use Rattle.std.proofs.lemmas.List.Elements.{All-push}
use Rattle.std.proofs.lemmas.List.Splits.{slice_split_first, slice_split_none}
use Rattle.std.specs.List.{All, position_or_len, slice_get, slice_range, slice_split}
use Rattle.sc_value.specs.declared.texts.Span.{Span}
use Rattle.sc_value.specs.Spans.{IsPart, part_at}
use Rattle.sc_value.specs.Words.{cut_at}
use Rattle.sc_value.proofs.PieceLemmas.{IsRest, byte-ascii, none_passes, range_behind, range_front, range_length, rest_behind, rest_part, rest_within}
use Rattle.sc_value.proofs.CutLemmas.{cut_at-byte}

-- the first piece of what is left of a text, and the pieces behind it
pub piece_before : (c : ℕ) (text : List ℕ) (from end n : ℕ)
    → IsRest (λ b. b == c) text from end n → from + n < end
    → cut_at (c ∷ []) (slice_range text from end)
    ≡ slice_range text from (from + n) ∷ cut_at (c ∷ []) (slice_range text (from + n + 1) end)
piece_before c text from end n rest more =
    let p : ℕ → Bool = λ b. b == c in
    let xs = slice_range text from end in
    let within = rest_within p text from end n rest in
    let below : position_or_len p xs < length xs =
    omega (arith, rest.next, range_length text from end rest.small) in
    cut_at-byte c xs
    ∙ slice_split_first p xs 0 below
    ∙ ap (λ k. take k xs ∷ slice_split p (drop (k + 1) xs)) (sym rest.next)
    ∙ ap (λ w. w ∷ slice_split p (drop (n + 1) xs)) (sym (range_front text from n end within))
    ∙ ap (λ r. slice_range text from (from + n) ∷ slice_split p r)
    (range_behind text from n end within rest.small)
    ∙ ap (λ ps. slice_range text from (from + n) ∷ ps)
    (sym (cut_at-byte c (slice_range text (from + n + 1) end)))

pub piece_last : (c : ℕ) (text : List ℕ) (from end n : ℕ)
    → IsRest (λ b. b == c) text from end n → end ≤ from + n
    → cut_at (c ∷ []) (slice_range text from end) ≡ slice_range text from end ∷ []
piece_last c text from end n rest past =
    let p : ℕ → Bool = λ b. b == c in
    let xs = slice_range text from end in
    let last : position_or_len p xs ≡ length xs =
    omega (
      arith,
      rest.next,
      rest_within p text from end n rest,
      range_length text from end rest.small,
    ) in
    cut_at-byte c xs ∙ slice_split_none p xs (none_passes p xs last)

-- what is left behind a separator
pub IsRest-more : (c : ℕ) (text : List ℕ) (from n end m : ℕ) → c < 128 → from + n < end
    → m ≡ position_or_len (λ b. b == c) (slice_range text (from + n + 1) end)
    → IsRest (λ b. b == c) text from end n → IsRest (λ b. b == c) text (from + n + 1) end m
IsRest-more c text from n end m small more next rest = record {
  utf8 = rest_behind (λ b. b == c) text from end n (byte-ascii c small) rest;
  small = rest.small;
  ordered = omega arith;
  next = next;
}

-- the pieces of a part of a text up to a place lie at the spans behind the old ones
pub record AreCutTo (c : ℕ) (text whole : List ℕ) (old spans : List Span) (from end n : ℕ) : Type 0
  where
    pub cut : map (part_at text) spans ++ cut_at (c ∷ []) (slice_range text from end)
        ≡ map (part_at text) old ++ cut_at (c ∷ []) whole
    pub parts : All (IsPart text) spans
    pub rest : IsRest (λ b. b == c) text from end n
    pub within : from + n ≤ end

pub AreCutTo-more : (c : ℕ) (text whole : List ℕ) (old spans now : List Span) (from n end m : ℕ)
    → c < 128 → from + n < end → now ≡ spans ++ record { from = from; to = from + n } ∷ []
    → m ≡ position_or_len (λ b. b == c) (slice_range text (from + n + 1) end)
    → AreCutTo c text whole old spans from end n
    → AreCutTo c text whole old now (from + n + 1) end m
AreCutTo-more c text whole old spans now from n end m small more now_is next was =
    let span : Span = record { from = from; to = from + n } in
    let behind = cut_at (c ∷ []) (slice_range text (from + n + 1) end) in
    let P : List Span → Type 0 = λ all. All (IsPart text) all in
    let rest = IsRest-more c text from n end m small more next was.rest in
    record {
      cut =
          ap (λ all. map (part_at text) all ++ behind) now_is
          ∙ ap (λ seen. seen ++ behind) (map_push (part_at text) spans span)
          ∙ append_assoc (map (part_at text) spans) (part_at text span ∷ []) behind
          ∙ ap (λ w. map (part_at text) spans ++ w)
          (sym (piece_before c text from end n was.rest more))
          ∙ was.cut;
      parts = subst P (sym now_is) (All-push (IsPart text) spans span was.parts
          (rest_part (λ b. b == c) text from end n (byte-ascii c small) was.rest));
      rest = rest;
      within = rest_within (λ b. b == c) text (from + n + 1) end m rest;
    }

-- the last piece
pub AreCutTo-last : (c : ℕ) (text whole : List ℕ) (old spans now : List Span) (from n end : ℕ)
    → end ≤ from + n → now ≡ spans ++ record { from = from; to = end } ∷ []
    → AreCutTo c text whole old spans from end n
    → map (part_at text) now ≡ map (part_at text) old ++ cut_at (c ∷ []) whole
AreCutTo-last c text whole old spans now from n end past now_is was =
    ap (map (part_at text)) now_is
    ∙ map_push (part_at text) spans (record { from = from; to = end })
    ∙ ap (λ w. map (part_at text) spans ++ w) (sym (piece_last c text from end n was.rest past))
    ∙ was.cut

-- the piece that is looked for is one of those behind a place
pub record IsPieceFrom (c : ℕ) (text : List ℕ) (first from end k left n : ℕ) : Type 0 where
  pub piece : slice_get (cut_at (c ∷ []) (slice_range text from end)) left
      ≡ slice_get (cut_at (c ∷ []) (slice_range text first end)) k
  pub rest : IsRest (λ b. b == c) text from end n
  pub within : from + n ≤ end

get_behind : (piece : List ℕ) (pieces : List (List ℕ)) (left : ℕ) → 0 < left
    → slice_get (piece ∷ pieces) left ≡ slice_get pieces (left - 1)
get_behind piece pieces zero some = absurd (omega arith)
get_behind piece pieces (suc left) some =
    ap (slice_get pieces) (let e : left ≡ suc left - 1 = omega arith in e)

get_past : (piece : List ℕ) (left : ℕ) → 0 < left → None ≡ slice_get (piece ∷ []) left
get_past piece zero some = absurd (omega arith)
get_past piece (suc left) some = none_at left
  where
    none_at : (left : ℕ) → None ≡ slice_get {X = List ℕ} [] left
    none_at zero = refl
    none_at (suc n) = refl

pub IsPieceFrom-more : (c : ℕ) (text : List ℕ) (first from n end k left m : ℕ) → c < 128
    → 0 < left → from + n < end
    → m ≡ position_or_len (λ b. b == c) (slice_range text (from + n + 1) end)
    → IsPieceFrom c text first from end k left n
    → IsPieceFrom c text first (from + n + 1) end k (left - 1) m
IsPieceFrom-more c text first from n end k left m small some more next was =
    let rest = IsRest-more c text from n end m small more next was.rest in
    let behind = cut_at (c ∷ []) (slice_range text (from + n + 1) end) in
    record {
      piece =
          sym (get_behind (slice_range text from (from + n)) behind left some)
          ∙ ap (λ ps. slice_get ps left) (sym (piece_before c text from end n was.rest more))
          ∙ was.piece;
      rest = rest;
      within = rest_within (λ b. b == c) text (from + n + 1) end m rest;
    }

pub IsPieceFrom-none : (c : ℕ) (text : List ℕ) (first from n end k left : ℕ)
    → 0 < left → end ≤ from + n → IsPieceFrom c text first from end k left n
    → None ≡ slice_get (cut_at (c ∷ []) (slice_range text first end)) k
IsPieceFrom-none c text first from n end k left some past was =
    get_past (slice_range text from end) left some
    ∙ ap (λ ps. slice_get ps left) (sym (piece_last c text from end n was.rest past))
    ∙ was.piece

pub IsPieceFrom-found : (c : ℕ) (text : List ℕ) (first from n end k left : ℕ)
    → left ≡ 0 → IsPieceFrom c text first from end k left n
    → Some (slice_range text from (from + n))
    ≡ slice_get (cut_at (c ∷ []) (slice_range text first end)) k
IsPieceFrom-found c text first from n end k left none was =
    by_end (eq-or-lt_of_le was.within)
    ∙ ap (slice_get (cut_at (c ∷ []) (slice_range text from end))) (sym none) ∙ was.piece
  where
    by_end : (from + n ≡ end) ⊎ (from + n < end)
        → Some (slice_range text from (from + n))
        ≡ slice_get (cut_at (c ∷ []) (slice_range text from end)) 0
    by_end (inl last) =
        ap (λ e. Some (slice_range text from e)) last
        ∙ ap (λ ps. slice_get ps 0)
        (sym (piece_last c text from end n was.rest (omega (arith, last))))
    by_end (inr more) =
        ap (λ ps. slice_get ps 0) (sym (piece_before c text from end n was.rest more))

pub IsPieceFrom-part : (c : ℕ) (text : List ℕ) (first from n end k left : ℕ) → c < 128
    → IsPieceFrom c text first from end k left n
    → IsPart text (record { from = from; to = from + n })
IsPieceFrom-part c text first from n end k left small was =
    rest_part (λ b. b == c) text from end n (byte-ascii c small) was.rest
