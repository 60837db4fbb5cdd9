-- Spans of bytes, as more bytes and more spans come.
use Rattle.std.proofs.Common.{◌≡◌, ℕ, ◌+◌, ◌-◌, ◌≤◌, Bool, true, false, cond, List, [], ◌∷◌, ◌++◌, length, map, take, drop, refl, ap, sym, ◌∙◌, subst, arith}
use Rattle.std.proofs.lemmas.List.{take-append-le, drop_all, drop-append-le, drop-drop, drop-take, take-take, take-map, drop-map, length-append, length-take-le, length-drop, map_push}
use Rattle.std.proofs.lemmas.List.Elements.{All-head, All-tail, All-push, All-weaker, All-take, All-drop}
use Rattle.std.proofs.lemmas.Slice.{between_to_end}
use Rattle.std.proofs.lemmas.Str.{IsUtf8-append, IsUtf8-nil}
use Rattle.std.specs.List.{All, slice_range}
use Rattle.std.specs.Str.{IsUtf8}
use Rattle.sc_value.specs.declared.texts.Span.{Span}
use Rattle.sc_base.specs.Limits.{count_limit}
use Rattle.sc_value.specs.Spans.{IsOpen, IsPart, part_at}

-- more bytes behind change no part
pub part_at-append : (bytes more : List ℕ) (span : Span) → IsPart bytes span
    → part_at (bytes ++ more) span ≡ part_at bytes span
part_at-append bytes more span part =
    let from_within : span.from ≤ length bytes = omega (arith, part.ordered, part.within) in
    let enough : span.to - span.from ≤ length (drop span.from bytes) =
    omega (arith, length-drop span.from bytes, part.within) in
    ap (take (span.to - span.from)) (drop-append-le span.from bytes more from_within)
    ∙ take-append-le (span.to - span.from) (drop span.from bytes) more enough

pub IsPart-append : (bytes more : List ℕ) (span : Span) → IsPart bytes span
    → IsPart (bytes ++ more) span
IsPart-append bytes more span part = record {
  ordered = part.ordered;
  within = omega (arith, length-append bytes more, part.within);
  utf8 = subst IsUtf8 (sym (part_at-append bytes more span part)) part.utf8;
}

pub parts-append : (bytes more : List ℕ) (spans : List Span) → All (IsPart bytes) spans
    → map (part_at (bytes ++ more)) spans ≡ map (part_at bytes) spans
parts-append bytes more [] parts = refl
parts-append bytes more (span ∷ spans) parts =
    let one : part_at (bytes ++ more) span ≡ part_at bytes span =
    part_at-append bytes more span (All-head (IsPart bytes) span spans parts) in
    let rest : map (part_at (bytes ++ more)) spans ≡ map (part_at bytes) spans =
    parts-append bytes more spans (All-tail (IsPart bytes) span spans parts) in
    cc

-- a piece of the open text is written, or refused
pub IsOpen-written : (bytes now more : List ℕ) (spans : List Span) (open_from : ℕ) (written : Bool)
    → now ≡ cond written (bytes ++ more) bytes → length now ≤ count_limit → IsUtf8 more
    → IsOpen bytes spans open_from → IsOpen now spans open_from
IsOpen-written bytes now more spans open_from false is small utf8 was =
    let P : List ℕ → Type 0 = λ b. IsOpen b spans open_from in subst P (sym is) was
IsOpen-written bytes now more spans open_from true is small utf8 was =
    let P : List ℕ → Type 0 = λ b. IsOpen b spans open_from in
    let few_bytes : length (bytes ++ more) ≤ count_limit = omega (arith, ap length is) in
    subst P (sym is) (record {
      parts = All-weaker (IsPart bytes) (IsPart (bytes ++ more))
          (λ span part. IsPart-append bytes more span part) spans was.parts;
      within = omega (arith, length-append bytes more, was.within);
      small = few_bytes;
      utf8 = subst IsUtf8 (sym (drop-append-le open_from bytes more was.within))
          (IsUtf8-append (drop open_from bytes) more was.utf8 utf8);
    })

pub texts-written : (bytes now more : List ℕ) (spans : List Span) (written : Bool)
    → now ≡ cond written (bytes ++ more) bytes → All (IsPart bytes) spans
    → map (part_at now) spans ≡ map (part_at bytes) spans
texts-written bytes now more spans false is parts = ap (λ b. map (part_at b) spans) is
texts-written bytes now more spans true is parts = ap (λ b. map (part_at b) spans) is
    ∙ parts-append bytes more spans parts

-- the open text is ended
pub IsOpen-ended : (bytes : List ℕ) (spans now : List Span) (span : Span)
    → now ≡ spans ++ span ∷ [] → span.to ≡ length bytes → IsOpen bytes spans span.from
    → IsOpen bytes now span.to
IsOpen-ended bytes spans now span is to_end was =
    let text : part_at bytes span ≡ drop span.from bytes =
    between_to_end bytes span.from span.to (omega arith) in
    let P : List Span → Type 0 = λ ss. All (IsPart bytes) ss in
    record {
      parts = subst P (sym is) (All-push (IsPart bytes) spans span was.parts (record {
        ordered = omega (arith, was.within);
        within = omega arith;
        utf8 = subst IsUtf8 (sym text) was.utf8;
      }));
      within = omega arith;
      small = was.small;
      utf8 = subst IsUtf8 (sym (drop_all span.to bytes (omega arith))) IsUtf8-nil;
    }

-- a last piece is written and the open text ended
pub texts-pushed : (bytes now more open_text : List ℕ) (texts : List (List ℕ))
    (spans spans_now : List Span) (span : Span)
    → now ≡ bytes ++ more → spans_now ≡ spans ++ span ∷ [] → span.to ≡ length now
    → IsOpen bytes spans span.from
    → map (part_at bytes) spans ≡ texts → drop span.from bytes ≡ open_text
    → map (part_at now) spans_now ≡ texts ++ (open_text ++ more) ∷ []
texts-pushed bytes now more open_text texts spans spans_now span is spans_is to_end was texts_are
    open_is =
    let last : part_at now span ≡ open_text ++ more =
    between_to_end now span.from span.to (omega arith)
    ∙ ap (drop span.from) is
    ∙ drop-append-le span.from bytes more was.within
    ∙ ap (λ o. o ++ more) open_is in
    let first : map (part_at now) spans ≡ texts =
    ap (λ b. map (part_at b) spans) is ∙ parts-append bytes more spans was.parts ∙ texts_are in
    ap (map (part_at now)) spans_is ∙ map_push (part_at now) spans span
    ∙ ap (λ ts. ts ++ part_at now span ∷ []) first ∙ ap (λ t. texts ++ t ∷ []) last

-- a range of a range is a range
pub length-slice_range : {X : Type 0} (xs : List X) (a b : ℕ) → b ≤ length xs
    → length (slice_range xs a b) ≡ b - a
length-slice_range xs a b within =
    length-take-le (b - a) (drop a xs) (omega (arith, length-drop a xs))

pub slice_range-slice_range : {X : Type 0} (xs seen : List X) (a b i j : ℕ)
    → slice_range xs a b ≡ seen
    → a ≤ b → b ≤ length xs → i ≤ j → j ≤ length seen
    → slice_range xs (a + i) (a + j) ≡ slice_range seen i j
slice_range-slice_range xs seen a b i j is ordered within inner_ordered inner_within =
    let len : length seen ≡ b - a = sym (ap length is) ∙ length-slice_range xs a b within in
    let split : b - a ≡ i + (b - a - i) = omega (arith, len) in
    let inner : slice_range seen i j ≡ take (j - i) (drop (a + i) xs) =
    ap (λ s. take (j - i) (drop i s)) (sym is)
    ∙ ap (λ n. take (j - i) (drop i (take n (drop a xs)))) split
    ∙ ap (take (j - i)) (drop-take i (b - a - i) (drop a xs))
    ∙ take-take (j - i) (b - a - i) (drop i (drop a xs)) (omega (arith, len))
    ∙ ap (take (j - i)) (drop-drop i a xs) in
    let same : (a + j) - (a + i) ≡ j - i = omega arith in
    ap (λ n. take n (drop (a + i) xs)) same ∙ sym inner

pub All-slice_range : {X : Type 0} (P : X → Type 0) (xs : List X) (a b : ℕ) → All P xs
    → All P (slice_range xs a b)
All-slice_range P xs a b all = All-take P (b - a) (drop a xs) (All-drop P a xs all)

-- a part of what a function gives
pub part-map : {X Y : Type 0} (f : X → Y) (xs part : List X) (seen : List Y) (a b : ℕ)
    → seen ≡ map f xs → part ≡ slice_range xs a b → map f part ≡ slice_range seen a b
part-map f xs part seen a b are is =
    ap (map f) is ∙ sym (take-map f (b - a) (drop a xs))
    ∙ ap (take (b - a)) (sym (drop-map f a xs))
    ∙ ap (λ r. take (b - a) (drop a r)) (sym are)
