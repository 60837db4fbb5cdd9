-- The lines of a text are those of both its halves.
use Rattle.std.proofs.Common.{◌≡◌, ◌∙◌, ℕ, ◌+◌, ◌-◌, ◌≤◌, ◌==◌, Bool, true, false, Err, Ok, Result, Vec, inl, inr, List, [], ◌∷◌, ◌++◌, drop, length, map, take, refl, ap, sym, subst, arith}
use Rattle.std.proofs.lemmas.List.{append-nil, append_assoc, drop-drop, drop_all, length-drop, map-append, take-append-drop, take_all, take_more}
use Rattle.std.proofs.lemmas.List.Elements.{All-append, All-cons, All-head, All-nil, All-tail, All-weaker}
use Rattle.std.proofs.lemmas.Str.{IsCharBoundary-after_ascii, IsCharBoundary-end, IsUtf8-append, IsUtf8-drop, IsUtf8-take}
use Rattle.std.specs.List.{All, onto_first}
use Rattle.std.specs.Str.{IsCharBoundary, IsUtf8}
use Rattle.std.specs.declared.alloc.Global.{Global}
use Rattle.sc_base.specs.declared.refusals.OrMemory.{OrMemory}
use Rattle.sc_value.specs.Lines.{lines_behind, text_lines}
use Rattle.sc_value.specs.Spans.{IsPart, part_at}
use Rattle.sc_value.specs.declared.line_ends.NotText.{NotText}
use Rattle.sc_value.specs.declared.texts.Span.{Span}
use Rattle.sc_value.proofs.SpanLemmas.{IsPart-append, parts-append}
use Rattle.sc_lines.specs.Halves.{AreLinesOf, IsCut, IsFound, moved}

-- ---- the lines on both sides of a line feed

-- some lines
record IsSome (lines : List (List ℕ)) : Type 0 where
  line : List ℕ
  rest : List (List ℕ)
  are : lines ≡ line ∷ rest

onto_some : (x : ℕ) (lines : List (List ℕ)) → IsSome (onto_first x lines)
onto_some x [] = record { line = x ∷ []; rest = []; are = refl }
onto_some x (line ∷ rest) = record { line = x ∷ line; rest = rest; are = refl }

-- bytes have a line
has_some : (x : ℕ) (bytes : List ℕ) → IsSome (lines_behind false (x ∷ bytes))
has_some x bytes = by_tests (x == 10) (x == 13) refl refl where
  by_tests : (feed return : Bool) → (x == 10) ≡ feed → (x == 13) ≡ return
      → IsSome (lines_behind false (x ∷ bytes))
  by_tests true return f r =
      record { line = []; rest = lines_behind false bytes; are = simp f refl }
  by_tests false true f r =
      record { line = []; rest = lines_behind true bytes; are = simp (f, r) refl }
  by_tests false false f r =
      let some = onto_some x (lines_behind false bytes) in
      record { line = some.line; rest = some.rest; are = simp (f, r) some.are }

ends_some : (front : List ℕ) → IsSome (lines_behind false (front ++ 10 ∷ []))
ends_some [] = has_some 10 []
ends_some (x ∷ front) = has_some x (front ++ 10 ∷ [])

onto_front : (x : ℕ) (lines more : List (List ℕ)) → IsSome lines
    → onto_first x (lines ++ more) ≡ onto_first x lines ++ more
onto_front x lines more some =
    ap (λ ls. onto_first x (ls ++ more)) some.are
    ∙ ap (λ ls. onto_first x ls ++ more) (sym some.are)

-- what stands behind a line feed has its own lines
behind_feed : (return : Bool) (front back : List ℕ)
    → lines_behind return (front ++ 10 ∷ back)
    ≡ lines_behind return (front ++ 10 ∷ []) ++ lines_behind false back
behind_feed true [] back = refl
behind_feed false [] back = refl
behind_feed return (x ∷ front) back =
    by_tests (λ (after : Bool). behind_feed after front back) return (x == 10) (x == 13) refl refl
  where
    by_tests : ((after : Bool) → lines_behind after (front ++ 10 ∷ back)
        ≡ lines_behind after (front ++ 10 ∷ []) ++ lines_behind false back)
        → (return is_feed is_return : Bool) → (x == 10) ≡ is_feed → (x == 13) ≡ is_return
        → lines_behind return (x ∷ (front ++ 10 ∷ back))
        ≡ lines_behind return (x ∷ (front ++ 10 ∷ [])) ++ lines_behind false back
    by_tests rest true true is_return f r = simp f (rest false)
    by_tests rest false true is_return f r = simp f (ap (λ ls. [] ∷ ls) (rest false))
    by_tests rest return false true f r = simp (f, r) (ap (λ ls. [] ∷ ls) (rest true))
    by_tests rest return false false f r =
        simp (f, r) (ap (onto_first x) (rest false)
        ∙ onto_front x (lines_behind false (front ++ 10 ∷ [])) (lines_behind false back)
        (ends_some front))

pub lines_cut : (text : List ℕ) (n : ℕ) → IsCut text n
    → text_lines text ≡ text_lines (take n text) ++ text_lines (drop n text)
lines_cut text n (inl end) =
    let past : length text ≤ n = omega (arith, end) in
    sym (append-nil (text_lines text))
    ∙ ap (λ t. text_lines t ++ []) (sym (take_all n text past))
    ∙ ap (λ t. text_lines (take n text) ++ text_lines t) (sym (drop_all n text past))
lines_cut text n (inr (k, n_is, below, feed)) =
    let front : take n text ≡ take k text ++ 10 ∷ [] =
    ap (λ i. take i text) n_is ∙ take_more text k 0 below ∙ ap (λ x. take k text ++ x ∷ []) feed in
    ap text_lines (sym (take-append-drop n text))
    ∙ ap (λ t. text_lines (t ++ drop n text)) front
    ∙ ap text_lines (append_assoc (take k text) (10 ∷ []) (drop n text))
    ∙ behind_feed false (take k text) (drop n text)
    ∙ ap (λ t. text_lines t ++ text_lines (drop n text)) (sym front)

-- a text may be cut there
pub cut_within : (text : List ℕ) (n : ℕ) → IsCut text n → n ≤ length text
cut_within text n (inl end) = omega (arith, end)
cut_within text n (inr (k, n_is, below, feed)) = omega (arith, n_is, below)

boundary : (text : List ℕ) (n : ℕ) → IsCut text n → IsUtf8 text → IsCharBoundary text n
boundary text n (inl end) utf8 = subst (IsCharBoundary text) (sym end) (IsCharBoundary-end text)
boundary text n (inr (k, n_is, below, feed)) utf8 =
    subst (IsCharBoundary text) (sym n_is)
    (IsCharBoundary-after_ascii text k utf8 below (omega (arith, feed)))

pub front_utf8 : (text : List ℕ) (n : ℕ) → IsCut text n → IsUtf8 text → IsUtf8 (take n text)
front_utf8 text n cut utf8 = IsUtf8-take text n utf8 (boundary text n cut utf8)

pub back_utf8 : (text : List ℕ) (n : ℕ) → IsCut text n → IsUtf8 text → IsUtf8 (drop n text)
back_utf8 text n cut utf8 = IsUtf8-drop text n utf8 (boundary text n cut utf8)

-- ---- spans of what stands behind so many bytes

part_moved : (text : List ℕ) (n : ℕ) (span : Span)
    → part_at text (moved n span) ≡ part_at (drop n text) span
part_moved text n span =
    let width : (n + span.to) - (n + span.from) ≡ span.to - span.from = omega arith in
    ap (λ k. take k (drop (n + span.from) text)) width
    ∙ ap (take (span.to - span.from)) (sym (drop-drop span.from n text))

IsPart-moved : (text : List ℕ) (n : ℕ) (span : Span) → n ≤ length text
    → IsPart (drop n text) span → IsPart text (moved n span)
IsPart-moved text n span fits part =
    let len : length (drop n text) ≡ length text - n = length-drop n text in
    record {
      ordered = omega (arith, part.ordered);
      within = omega (arith, part.within, len, fits);
      utf8 = subst IsUtf8 (sym (part_moved text n span)) part.utf8;
    }

parts_moved : (text : List ℕ) (n : ℕ) (spans : List Span)
    → map (part_at text) (map (moved n) spans) ≡ map (part_at (drop n text)) spans
parts_moved text n [] = refl
parts_moved text n (span ∷ spans) =
    let one : part_at text (moved n span) ≡ part_at (drop n text) span = part_moved text n span in
    let rest : map (part_at text) (map (moved n) spans) ≡ map (part_at (drop n text)) spans =
    parts_moved text n spans in
    cc

all_moved : (text : List ℕ) (n : ℕ) (spans : List Span) → n ≤ length text
    → All (IsPart (drop n text)) spans → All (IsPart text) (map (moved n) spans)
all_moved text n [] fits all = All-nil (IsPart text)
all_moved text n (span ∷ spans) fits all =
    All-cons (IsPart text) (moved n span) (map (moved n) spans)
    (IsPart-moved text n span fits (All-head (IsPart (drop n text)) span spans all))
    (all_moved text n spans fits (All-tail (IsPart (drop n text)) span spans all))

-- ---- the lines of both halves

lines_of_both : (text : List ℕ) (n : ℕ) (first second all : List Span) → IsCut text n
    → all ≡ first ++ map (moved n) second → AreLinesOf (take n text) first
    → AreLinesOf (drop n text) second → AreLinesOf text all
lines_of_both text n first second all cut are front back =
    let whole : take n text ++ drop n text ≡ text = take-append-drop n text in
    let firsts : map (part_at text) first ≡ text_lines (take n text) =
    ap (λ t. map (part_at t) first) (sym whole)
    ∙ parts-append (take n text) (drop n text) first front.parts ∙ front.lines in
    let seconds : map (part_at text) (map (moved n) second) ≡ text_lines (drop n text) =
    parts_moved text n second ∙ back.lines in
    let P : List Span → Type 0 = λ spans. All (IsPart text) spans in
    record {
      lines =
          ap (map (part_at text)) are
          ∙ map-append (part_at text) first (map (moved n) second)
          ∙ ap (λ ls. ls ++ map (part_at text) (map (moved n) second)) firsts
          ∙ ap (λ ls. text_lines (take n text) ++ ls) seconds
          ∙ sym (lines_cut text n cut);
      parts = subst P (sym are) (All-append (IsPart text) first (map (moved n) second)
          (subst (λ (t : List ℕ). All (IsPart t) first) whole
          (All-weaker (IsPart (take n text)) (IsPart (take n text ++ drop n text))
          (λ span part. IsPart-append (take n text) (drop n text) span part) first front.parts))
          (all_moved text n second (cut_within text n cut) back.parts));
      utf8 = subst IsUtf8 whole (IsUtf8-append (take n text) (drop n text) front.utf8 back.utf8);
    }

-- ---- where a half gives none

-- a half that isn't text, or for which memory is wanting, gives what the whole does
pub none_in_front : (text : List ℕ) (n : ℕ)
    (front whole : Result (Vec Span Global) (OrMemory NotText)) (why : OrMemory NotText)
    → IsCut text n → front ≡ Err why → whole ≡ Err why → IsFound (take n text) front
    → IsFound text whole
none_in_front text n front whole why cut fails is found = record {
  lines = rw is tt;
  not_text = λ told utf8. found.not_text (fails ∙ (sym is ∙ told)) (front_utf8 text n cut utf8);
}

pub none_in_back : (text : List ℕ) (n : ℕ)
    (back whole : Result (Vec Span Global) (OrMemory NotText)) (why : OrMemory NotText)
    → IsCut text n → back ≡ Err why → whole ≡ Err why → IsFound (drop n text) back
    → IsFound text whole
none_in_back text n back whole why cut fails is found = record {
  lines = rw is tt;
  not_text = λ told utf8. found.not_text (fails ∙ (sym is ∙ told)) (back_utf8 text n cut utf8);
}

-- where both give some, so does the whole
pub found_both : (text : List ℕ) (n : ℕ) (first second : List Span) (all : Vec Span Global)
    → IsCut text n → all.items ≡ first ++ map (moved n) second → AreLinesOf (take n text) first
    → AreLinesOf (drop n text) second → IsFound text (Ok all)
found_both text n first second all cut are front back = record {
  lines = lines_of_both text n first second all.items cut are front back;
  not_text = λ told utf8. absurd (cc);
}
