-- The lines of a plan, one after another.
use Rattle.std.proofs.Common.{◌≡◌, ◌∙◌, ℕ, ◌+◌, ◌<◌, ◌≤◌, List, [], ◌∷◌, length, drop, sym, ap, subst, Some, Ok, Err, Result}
use Rattle.std.specs.Str.{IsUtf8}
use Rattle.std.specs.Prelude.{slice_get}
use Rattle.std.proofs.lemmas.List.{at_drop_more, drop_all}
use Rattle.std.proofs.lemmas.Option.{slice_get_within, get_or_from_slice_get}
use Rattle.sc_base.specs.Answers.{Answers}
use Rattle.sc_base.specs.declared.refusals.OrMemory.{OrMemory}
use Rattle.sc_base.specs.declared.refusals.OrMemory.TheVariants.{Fault, OutOfMemory}
use Rattle.sc_value.specs.Lines.{text_lines}
use Rattle.sc_plan.specs.Faults.{IsAnswer, IsParseCause, at_line}
use Rattle.sc_plan.specs.Limits.{plan_limit}
use Rattle.sc_plan.specs.LineReading.{next_read}
use Rattle.sc_plan.specs.Plans.{ReadsLines, no_line, behind_line, at_fault, too_long, no_text, at_a_line}
use Rattle.sc_plan.specs.declared.faults.PlanFaultKind.{PlanFaultKind}
use Rattle.sc_plan.specs.declared.faults.PlanFaultKind.TheVariants.{NotText, Limit}
use Rattle.sc_plan.specs.declared.faults.PlanFault.{PlanFault}
use Rattle.sc_plan.specs.declared.lines.PlanLine.{PlanLine}
use Rattle.std.specs.declared.alloc.Global.{Global}
use Rattle.std.specs.Prelude.{Vec}

-- the line at a place, in front of those behind it
rest_at : (lines : List (List ℕ)) (i : ℕ) (line : List ℕ) → slice_get lines i ≡ Some line
    → drop i lines ≡ line ∷ drop (i + 1) lines
rest_at lines i line at =
    at_drop_more (λ ls. ls) lines i line (slice_get_within lines i line at)
    ∙ ap (λ (x : List ℕ). x ∷ drop (i + 1) lines) (get_or_from_slice_get lines i line line at)

-- what was read, as plain data
abbrev pub items_of : Vec PlanLine Global → List PlanLine
items_of read = read.items

module _ (executors : ℕ) (lines : List (List ℕ)) where
  -- what the rest of some lines is read as, all of them are
  abbrev pub IsReadTo : ℕ → List PlanLine → Type 0
  IsReadTo i before =
      (reading : Result (List PlanLine) PlanFault)
      → ReadsLines executors before (i + 1) (drop i lines) reading
      → ReadsLines executors [] 1 lines reading

  -- no line is read yet
  pub none_read : (before : List PlanLine) → before ≡ [] → IsReadTo 0 before
  none_read before is reading rest =
      let P : List PlanLine → Type 0 = λ ps. ReadsLines executors ps 1 lines reading in
      subst P is rest

  -- one line more is read
  pub one_read : (i : ℕ) (line : List ℕ) (before next : List PlanLine)
      → slice_get lines i ≡ Some line → IsReadTo i before
      → next_read executors before line ≡ Ok next → IsReadTo (i + 1) next
  one_read i line before next at so_far reads reading rest =
      let P : List (List ℕ) → Type 0 = λ ls. ReadsLines executors before (i + 1) ls reading in
      so_far reading
      (subst P (sym (rest_at lines i line at))
      (behind_line executors before next (i + 1) line (drop (i + 1) lines) reading reads rest))

  -- all lines are read
  pub all_read : (i : ℕ) (read : List PlanLine) → length lines ≤ i → IsReadTo i read
      → ReadsLines executors [] 1 lines (Ok read)
  all_read i read past so_far =
      let P : List (List ℕ) → Type 0 = λ ls. ReadsLines executors read (i + 1) ls (Ok read) in
      so_far (Ok read) (subst P (sym (drop_all i lines past)) (no_line executors read (i + 1)))

  -- a line stops the reading
  pub stopped : (i : ℕ) (line : List ℕ) (before : List PlanLine) (e : OrMemory PlanFaultKind)
      (r : OrMemory PlanFault) → slice_get lines i ≡ Some line → IsReadTo i before
      → Answers items_of (λ kind. kind) (Err e) (next_read executors before line)
      → r ≡ at_line (i + 1) e → IsAnswer items_of (ReadsLines executors [] 1 lines) (Err r)
  stopped i line before e r at so_far h is =
      let P : OrMemory PlanFault → Type 0 =
      λ x. IsAnswer items_of (ReadsLines executors [] 1 lines) (Err x) in
      subst P (sym is) (by_cases e h) where
        by_cases : (e : OrMemory PlanFaultKind)
            → Answers items_of (λ kind. kind) (Err e) (next_read executors before line)
            → IsAnswer items_of (ReadsLines executors [] 1 lines) (Err (at_line (i + 1) e))
        by_cases (Fault kind) h =
            let fault = Err (record { line = i + 1; kind = kind }) in
            let P : List (List ℕ) → Type 0 = λ ls. ReadsLines executors before (i + 1) ls fault in
            so_far fault (subst P (sym (rest_at lines i line at))
            (at_fault executors before (i + 1) line (drop (i + 1) lines) kind h))
        by_cases OutOfMemory h = tt

-- the bytes as a whole
module _ (executors : ℕ) (bytes : List ℕ) where
  pub too_many : (r : OrMemory PlanFault) → plan_limit < length bytes
      → r ≡ Fault (record { line = 0; kind = Limit }) → IsParseCause executors bytes r
  too_many r long is =
      let P : OrMemory PlanFault → Type 0 = IsParseCause executors bytes in
      subst P (sym is) (too_long executors bytes long)

  pub not_text : (r : OrMemory PlanFault) → length bytes ≤ plan_limit → (IsUtf8 bytes → ⊥)
      → r ≡ Fault (record { line = 0; kind = NotText }) → IsParseCause executors bytes r
  not_text r size other is =
      let P : OrMemory PlanFault → Type 0 = IsParseCause executors bytes in
      subst P (sym is) (no_text executors bytes size other)

  pub fault_in_lines : (lines : List (List ℕ)) (e : OrMemory PlanFault)
      → length bytes ≤ plan_limit → IsUtf8 bytes → lines ≡ text_lines bytes
      → IsAnswer items_of (ReadsLines executors [] 1 lines) (Err e)
      → IsParseCause executors bytes e
  fault_in_lines lines (Fault fault) size utf8 is h =
      let P : List (List ℕ) → Type 0 = λ ls. ReadsLines executors [] 1 ls (Err fault) in
      at_a_line executors bytes fault size utf8 (subst P is h)
  fault_in_lines lines OutOfMemory size utf8 is h = tt
