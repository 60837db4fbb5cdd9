-- The lines of a script, one after another.
use Rattle.std.proofs.Common.{◌≡◌, ◌∙◌, inl, inr, ℕ, suc, ◌+◌, ◌<◌, ◌≤◌, Bool, true, false, cond, eqb, List, [], ◌∷◌, length, drop, sym, ap, subst, Some, Ok, Err, Result, arith}
use Rattle.std.specs.List.{onto_first}
use Rattle.std.specs.Str.{IsUtf8}
use Rattle.std.specs.Prelude.{slice_get}
use Rattle.std.proofs.lemmas.Bool.{cond_both}
use Rattle.std.proofs.lemmas.List.{at_drop_more, drop_all}
use Rattle.std.proofs.lemmas.Option.{slice_get_within, get_or_from_slice_get}
use Rattle.sc_base.specs.declared.refusals.OrMemory.{OrMemory}
use Rattle.sc_base.specs.declared.refusals.OrMemory.TheVariants.{Fault, OutOfMemory}
use Rattle.sc_value.specs.Lines.{lines_behind, text_lines}
use Rattle.sc_script.specs.Defining.{defined_data_of}
use Rattle.sc_script.specs.Faults.{IsAnswer, at_line}
use Rattle.sc_script.specs.Limits.{script_limit}
use Rattle.sc_script.specs.Lines.{DefinedData, ReadsNext, nothing_defined}
use Rattle.sc_script.specs.Parsing.{IsParseCause}
use Rattle.sc_script.specs.Scripts.{ReadsLines, no_line, behind_skipped, behind_adding, at_fault, too_long, no_text, at_a_line}
use Rattle.sc_script.specs.declared.faults.FaultKind.{FaultKind}
use Rattle.sc_script.specs.declared.faults.FaultKind.TheVariants.{NotText, Limit}
use Rattle.sc_script.specs.declared.faults.ScriptFault.{ScriptFault}

-- what the rest of some lines is read as, all of them are
abbrev pub IsReadTo : List (List ℕ) → ℕ → DefinedData → Type 0
IsReadTo lines i d =
    (reading : Result DefinedData ScriptFault) → ReadsLines d (i + 1) (drop i lines) reading
    → ReadsLines nothing_defined 1 lines reading

-- no line is read yet
pub none_read : (lines : List (List ℕ)) (d : DefinedData) → d ≡ nothing_defined → IsReadTo lines 0 d
none_read lines d is reading rest =
    let P : DefinedData → Type 0 = λ e. ReadsLines e 1 lines reading in
    subst P is rest

-- a line in front of others
line_behind : (d next : DefinedData) (first : ℕ) (line : List ℕ) (lines : List (List ℕ))
    (reading : Result DefinedData ScriptFault) → ReadsNext d line (Ok next)
    → ReadsLines next (first + 1) lines reading → ReadsLines d first (line ∷ lines) reading
line_behind d next first line lines reading (inl skipped) rest =
    let same : next ≡ d = let e = skipped.1 in cc in
    let P : DefinedData → Type 0 = λ e. ReadsLines e (first + 1) lines reading in
    behind_skipped d first line lines reading skipped.0 (subst P same rest)
line_behind d next first line lines reading (inr adds) rest =
    behind_adding d next first line lines reading adds.0 adds.1 rest

fault_behind : (d : DefinedData) (first : ℕ) (line : List ℕ) (lines : List (List ℕ))
    (kind : FaultKind) → ReadsNext d line (Err kind)
    → ReadsLines d first (line ∷ lines) (Err (record { line = first; kind = kind }))
fault_behind d first line lines kind (inl skipped) = let e = skipped.1 in absurd cc
fault_behind d first line lines kind (inr has) = at_fault d first line lines kind has.0 has.1

-- the line at a place, in front of those behind it
rest_at : (lines : List (List ℕ)) (i : ℕ) (line : List ℕ) → slice_get lines i ≡ Some line
    → drop i lines ≡ line ∷ drop (i + 1) lines
rest_at lines i line at =
    at_drop_more (λ ls. ls) lines i line (slice_get_within lines i line at)
    ∙ ap (λ (x : List ℕ). x ∷ drop (i + 1) lines) (get_or_from_slice_get lines i line line at)

-- one line more is read
pub one_read : (lines : List (List ℕ)) (i : ℕ) (line : List ℕ) (d next : DefinedData)
    → slice_get lines i ≡ Some line → IsReadTo lines i d → ReadsNext d line (Ok next)
    → IsReadTo lines (i + 1) next
one_read lines i line d next at so_far reads reading rest =
    let P : List (List ℕ) → Type 0 = λ ls. ReadsLines d (i + 1) ls reading in
    so_far reading
    (subst P (sym (rest_at lines i line at))
    (line_behind d next (i + 1) line (drop (i + 1) lines) reading reads rest))

-- all lines are read
pub all_read : (lines : List (List ℕ)) (i : ℕ) (d : DefinedData) → length lines ≤ i
    → IsReadTo lines i d → ReadsLines nothing_defined 1 lines (Ok d)
all_read lines i d past so_far =
    let P : List (List ℕ) → Type 0 = λ ls. ReadsLines d (i + 1) ls (Ok d) in
    so_far (Ok d) (subst P (sym (drop_all i lines past)) (no_line d (i + 1)))

-- a line stops the reading
pub stopped : (lines : List (List ℕ)) (i : ℕ) (line : List ℕ) (d : DefinedData)
    (e : OrMemory FaultKind) (r : OrMemory ScriptFault) → slice_get lines i ≡ Some line
    → IsReadTo lines i d → IsAnswer defined_data_of (ReadsNext d line) (Err e)
    → r ≡ at_line (i + 1) e
    → IsAnswer defined_data_of (ReadsLines nothing_defined 1 lines) (Err r)
stopped lines i line d e r at so_far h is =
    let P : OrMemory ScriptFault → Type 0 =
    λ x. IsAnswer defined_data_of (ReadsLines nothing_defined 1 lines) (Err x) in
    subst P (sym is) (by_cases e h) where
      by_cases : (e : OrMemory FaultKind) → IsAnswer defined_data_of (ReadsNext d line) (Err e)
          → IsAnswer defined_data_of (ReadsLines nothing_defined 1 lines) (Err (at_line (i + 1) e))
      by_cases (Fault kind) h =
          let fault = Err (record { line = i + 1; kind = kind }) in
          let P : List (List ℕ) → Type 0 = λ ls. ReadsLines d (i + 1) ls fault in
          so_far fault (subst P (sym (rest_at lines i line at))
          (fault_behind d (i + 1) line (drop (i + 1) lines) kind h))
      by_cases OutOfMemory h = tt

-- there are at most as many lines as bytes
length-onto_first : (x : ℕ) (parts : List (List ℕ))
    → length (onto_first x parts) ≤ suc (length parts)
length-onto_first x [] = omega arith
length-onto_first x (part ∷ parts) = omega arith

few_behind : (b : Bool) (bytes : List ℕ) → length (lines_behind b bytes) ≤ length bytes
few_behind b [] = omega arith
few_behind b (x ∷ xs) =
    let rest : length (lines_behind false xs) ≤ length xs = few_behind false xs in
    let after : length (lines_behind true xs) ≤ length xs = few_behind true xs in
    let P : List (List ℕ) → Type 0 = λ ls. length ls ≤ suc (length xs) in
    cond_both (eqb x 10) (cond b (lines_behind false xs) ([] ∷ lines_behind false xs))
    (cond (eqb x 13) ([] ∷ lines_behind true xs) (onto_first x (lines_behind false xs))) P
    (λ _. cond_both b (lines_behind false xs) ([] ∷ lines_behind false xs) P (λ _. omega arith)
    (λ _. omega arith))
    (λ _. cond_both (eqb x 13) ([] ∷ lines_behind true xs) (onto_first x (lines_behind false xs)) P
    (λ _. omega arith) (λ _. omega (arith, length-onto_first x (lines_behind false xs))))

pub few_lines : (bytes : List ℕ) (lines : List (List ℕ)) → lines ≡ text_lines bytes
    → length bytes ≤ script_limit → length lines ≤ script_limit
few_lines bytes lines is size =
    let few : length (text_lines bytes) ≤ length bytes = few_behind false bytes in
    omega (arith, ap (λ (ls : List (List ℕ)). length ls) is)

-- the bytes as a whole
pub too_many : (bytes : List ℕ) (r : OrMemory ScriptFault) → script_limit < length bytes
    → r ≡ Fault (record { line = 0; kind = Limit }) → IsParseCause bytes r
too_many bytes r long is =
    let P : OrMemory ScriptFault → Type 0 = IsParseCause bytes in
    subst P (sym is) (too_long bytes long)

pub not_text : (bytes : List ℕ) (r : OrMemory ScriptFault) → length bytes ≤ script_limit
    → (IsUtf8 bytes → ⊥) → r ≡ Fault (record { line = 0; kind = NotText }) → IsParseCause bytes r
not_text bytes r size other is =
    let P : OrMemory ScriptFault → Type 0 = IsParseCause bytes in
    subst P (sym is) (no_text bytes size other)

pub fault_in_lines : (bytes : List ℕ) (lines : List (List ℕ)) (e : OrMemory ScriptFault)
    → length bytes ≤ script_limit → IsUtf8 bytes → lines ≡ text_lines bytes
    → IsAnswer defined_data_of (ReadsLines nothing_defined 1 lines) (Err e) → IsParseCause bytes e
fault_in_lines bytes lines (Fault fault) size utf8 is h =
    let P : List (List ℕ) → Type 0 = λ ls. ReadsLines nothing_defined 1 ls (Err fault) in
    at_a_line bytes fault size utf8 (subst P is h)
fault_in_lines bytes lines OutOfMemory size utf8 is h = tt
