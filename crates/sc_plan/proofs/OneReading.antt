-- Bytes are one plan, or have one fault, and never both.
use Rattle.std.proofs.Common.{◌≡◌, ◌⊎◌, inl, inr, ℕ, ◌+◌, ◌<◌, ◌≤◌, List, [], ◌∷◌, length, Result, Ok, Err, refl, sym, subst, arith}
use Rattle.std.specs.Str.{IsUtf8, is_utf8}
use Rattle.std.proofs.lemmas.Bool.{cases_lt, cases_Bool, both_ways}
use Rattle.std.proofs.lemmas.Str.{IsUtf8-from_is_utf8, is_utf8-from_IsUtf8}
use Rattle.sc_value.specs.Lines.{text_lines}
use Rattle.sc_plan.specs.Limits.{plan_limit}
use Rattle.sc_plan.specs.LineReading.{next_read}
use Rattle.sc_plan.specs.Plans.{ReadsLines, no_line, behind_line, at_fault, too_long, no_text, at_a_line, IsReading, PlansHaveOneReading}
use Rattle.sc_plan.specs.declared.faults.PlanFaultKind.{PlanFaultKind}
use Rattle.sc_plan.specs.declared.faults.PlanFaultKind.TheVariants.{NotText, Limit}
use Rattle.sc_plan.specs.declared.faults.PlanFault.{PlanFault}
use Rattle.sc_plan.specs.declared.lines.PlanLine.{PlanLine}

-- what a line is read as, and lines, and bytes
abbrev LineReading : Type 0
LineReading = Result (List PlanLine) PlanFaultKind

abbrev Reading : Type 0
Reading = Result (List PlanLine) PlanFault

-- one reading and no other
record HasOne (Is : Reading → Type 0) : Type 0 where
  pub reading : Reading
  pub is : Is reading
  pub only : (other : Reading) → Is other → other ≡ reading

module _ (executors : ℕ) where
  -- what is read behind a line
  abbrev Behind : ℕ → List (List ℕ) → LineReading → Reading → Type 0
  Behind first lines (Ok next) r = ReadsLines executors next (first + 1) lines r
  Behind first lines (Err kind) r = r ≡ Err (record { line = first; kind = kind })

  -- a line in front of others
  module _ (before : List PlanLine) (first : ℕ) (line : List ℕ) (lines : List (List ℕ)) where
    abbrev Front : Reading → Type 0
    Front = ReadsLines executors before first (line ∷ lines)

    behind_from : (r : Reading) → Front r
        → Behind first lines (next_read executors before line) r
    behind_from r (behind_line _ _ next _ _ _ _ is rest) =
        let P : LineReading → Type 0 = λ x. Behind first lines x r in
        subst P (sym is) rest
    behind_from r (at_fault _ _ _ _ _ kind is) =
        let P : LineReading → Type 0 = λ x. Behind first lines x r in
        subst P (sym is) refl

    front_from : (x : LineReading) (r : Reading) → next_read executors before line ≡ x
        → Behind first lines x r → Front r
    front_from (Ok next) r is rest =
        behind_line executors before next first line lines r is rest
    front_from (Err kind) r is e =
        let P : Reading → Type 0 = Front in
        subst P (sym e) (at_fault executors before first line lines kind is)

    one_behind : ((next : List PlanLine) → HasOne (ReadsLines executors next (first + 1) lines))
        → (x : LineReading) → HasOne (Behind first lines x)
    one_behind rest (Ok next) = rest next
    one_behind rest (Err kind) = record {
      reading = Err (record { line = first; kind = kind });
      is = refl;
      only = λ other is. is;
    }

    one_front : ((next : List PlanLine) → HasOne (ReadsLines executors next (first + 1) lines))
        → HasOne Front
    one_front rest =
        let one = one_behind rest (next_read executors before line) in
        record {
          reading = one.reading;
          is = front_from (next_read executors before line) one.reading refl one.is;
          only = λ other h. one.only other (behind_from other h);
        }

  only_none : (before : List PlanLine) (first : ℕ) (r : Reading)
      → ReadsLines executors before first [] r → r ≡ Ok before
  only_none before first r (no_line _ _ _) = refl

  one_lines : (lines : List (List ℕ)) (before : List PlanLine) (first : ℕ)
      → HasOne (ReadsLines executors before first lines)
  one_lines [] before first = record {
    reading = Ok before;
    is = no_line executors before first;
    only = only_none before first;
  }
  one_lines (line ∷ lines) before first =
      one_front before first line lines (λ next. one_lines lines next (first + 1))

  -- what bytes are read as
  module _ (bytes : List ℕ) where
    only_too_long : plan_limit < length bytes → (r : Reading) → IsReading executors bytes r
        → r ≡ Err (record { line = 0; kind = Limit })
    only_too_long long (Ok plan) h = absurd (omega (arith, h.size))
    only_too_long long (Err fault) (too_long _ _ _) = refl
    only_too_long long (Err fault) (no_text _ _ size _) = absurd (omega arith)
    only_too_long long (Err fault) (at_a_line _ _ _ size _ _) = absurd (omega arith)

    only_no_text : length bytes ≤ plan_limit → (IsUtf8 bytes → ⊥) → (r : Reading)
        → IsReading executors bytes r → r ≡ Err (record { line = 0; kind = NotText })
    only_no_text size other (Ok plan) h = absurd (other h.utf8)
    only_no_text size other (Err fault) (too_long _ _ long) = absurd (omega arith)
    only_no_text size other (Err fault) (no_text _ _ _ _) = refl
    only_no_text size other (Err fault) (at_a_line _ _ _ _ utf8 _) = absurd (other utf8)

    abbrev Lines : Reading → Type 0
    Lines = ReadsLines executors [] 1 (text_lines bytes)

    read_by_lines : length bytes ≤ plan_limit → IsUtf8 bytes → (r : Reading) → Lines r
        → IsReading executors bytes r
    read_by_lines size utf8 (Ok plan) h = record { size = size; utf8 = utf8; lines = h }
    read_by_lines size utf8 (Err fault) h = at_a_line executors bytes fault size utf8 h

    only_by_lines : length bytes ≤ plan_limit → IsUtf8 bytes → (one : HasOne Lines)
        → (r : Reading) → IsReading executors bytes r → r ≡ one.reading
    only_by_lines size utf8 one (Ok plan) h = one.only (Ok plan) h.lines
    only_by_lines size utf8 one (Err fault) (too_long _ _ long) = absurd (omega arith)
    only_by_lines size utf8 one (Err fault) (no_text _ _ _ other) = absurd (other utf8)
    only_by_lines size utf8 one (Err fault) (at_a_line _ _ f _ _ lines) = one.only (Err f) lines

utf8_decided : (bytes : List ℕ) → IsUtf8 bytes ⊎ (IsUtf8 bytes → ⊥)
utf8_decided bytes = elim (cases_Bool (is_utf8 bytes)) [
  | inl t ↦ inl (IsUtf8-from_is_utf8 bytes t)
  | inr f ↦ inr (λ utf8. both_ways (is_utf8 bytes) f (is_utf8-from_IsUtf8 bytes utf8))
]

pub one_reading : PlansHaveOneReading
one_reading executors bytes = elim (cases_lt plan_limit (length bytes)) [
  | inl long ↦ record {
    reading = Err (record { line = 0; kind = Limit });
    is = too_long executors bytes long;
    only = only_too_long executors bytes long;
  }
  | inr size ↦ elim (utf8_decided bytes) [
    | inl utf8 ↦
        let one = one_lines executors (text_lines bytes) [] 1 in
        record {
          reading = one.reading;
          is = read_by_lines executors bytes size utf8 one.reading one.is;
          only = only_by_lines executors bytes size utf8 one;
        }
    | inr other ↦ record {
      reading = Err (record { line = 0; kind = NotText });
      is = no_text executors bytes size other;
      only = only_no_text executors bytes size other;
    }
  ]
]
