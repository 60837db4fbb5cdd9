-- Bytes are one script, or have one fault, and never both.
use Rattle.std.proofs.Common.{◌≡◌, ◌∙◌, ◌⊎◌, inl, inr, ℕ, ◌+◌, ◌<◌, ◌≤◌, true, false, List, [], ◌∷◌, length, Result, Ok, Err, refl, sym, ap, subst, arith}
use Rattle.std.specs.Str.{IsUtf8, is_utf8}
use Rattle.std.proofs.lemmas.Bool.{cases_lt, cases_Bool, both_ways}
use Rattle.std.proofs.lemmas.Str.{IsUtf8-from_is_utf8, is_utf8-from_IsUtf8}
use Rattle.sc_lineage.specs.ScriptData.{ScriptData}
use Rattle.sc_value.specs.Lines.{text_lines}
use Rattle.sc_script.specs.Limits.{script_limit}
use Rattle.sc_script.specs.Lines.{DefinedData, ReadsLine, is_skipped, nothing_defined, then_added}
use Rattle.sc_script.specs.Parsing.{HaveOneReading}
use Rattle.sc_script.specs.Scripts.{ReadsLines, no_line, behind_skipped, behind_adding, at_fault, too_long, no_text, at_a_line, IsReading}
use Rattle.sc_script.specs.declared.faults.FaultKind.{FaultKind}
use Rattle.sc_script.specs.declared.faults.FaultKind.TheVariants.{NotText, Limit}
use Rattle.sc_script.specs.declared.faults.ScriptFault.{ScriptFault}
use Rattle.sc_script.proofs.OneForm.{HasOne, one_form}

-- what a line is read as: the tests behind the form are a function
abbrev LineReading : Type 0
LineReading = Result DefinedData FaultKind

one_line : (d : DefinedData) (line : List ℕ) → HasOne LineReading (ReadsLine d line)
one_line d line =
    let one = one_form line in
    record {
      reading = then_added d one.reading;
      is = record { form = one.reading; has_form = one.is; is = refl };
      only = λ other h. h.is ∙ ap (then_added d) (one.only h.form h.has_form);
    }

-- what lines are read as
abbrev LinesReading : Type 0
LinesReading = Result DefinedData ScriptFault

-- what is read behind a line that isn't skipped
abbrev Behind : ℕ → List (List ℕ) → LineReading → LinesReading → Type 0
Behind first lines (Ok next) r = ReadsLines next (first + 1) lines r
Behind first lines (Err kind) r = r ≡ Err (record { line = first; kind = kind })

-- a line in front of others
module _ (d : DefinedData) (first : ℕ) (line : List ℕ) (lines : List (List ℕ)) where
  abbrev Front : LinesReading → Type 0
  Front = ReadsLines d first (line ∷ lines)

  skip_from : (r : LinesReading) → is_skipped line ≡ true → Front r
      → ReadsLines d (first + 1) lines r
  skip_from r skip (behind_skipped _ _ _ _ _ is rest) = rest
  skip_from r skip (behind_adding _ _ _ _ _ _ isnt _ _) =
      absurd (both_ways (is_skipped line) isnt skip)
  skip_from r skip (at_fault _ _ _ _ _ isnt _) = absurd (both_ways (is_skipped line) isnt skip)

  behind_from : (r : LinesReading) (here : HasOne LineReading (ReadsLine d line))
      → is_skipped line ≡ false → Front r → Behind first lines here.reading r
  behind_from r here isnt (behind_skipped _ _ _ _ _ is _) =
      absurd (both_ways (is_skipped line) isnt is)
  behind_from r here isnt (behind_adding _ next _ _ _ _ _ adds rest) =
      let P : LineReading → Type 0 = λ x. Behind first lines x r in
      subst P (here.only (Ok next) adds) rest
  behind_from r here isnt (at_fault _ _ _ _ kind _ has) =
      let P : LineReading → Type 0 = λ x. Behind first lines x r in
      subst P (here.only (Err kind) has) refl

  front_from : (x : LineReading) (r : LinesReading) → is_skipped line ≡ false
      → ReadsLine d line x → Behind first lines x r → Front r
  front_from (Ok next) r isnt adds rest =
      behind_adding d next first line lines r isnt adds rest
  front_from (Err kind) r isnt has is =
      let P : LinesReading → Type 0 = Front in
      subst P (sym is) (at_fault d first line lines kind isnt has)

  one_behind : ((next : DefinedData) → HasOne LinesReading (ReadsLines next (first + 1) lines))
      → (x : LineReading) → HasOne LinesReading (Behind first lines x)
  one_behind rest (Ok next) = rest next
  one_behind rest (Err kind) = record {
    reading = Err (record { line = first; kind = kind });
    is = refl;
    only = λ other is. is;
  }

  one_front : ((next : DefinedData) → HasOne LinesReading (ReadsLines next (first + 1) lines))
      → HasOne LinesReading Front
  one_front rest = elim (cases_Bool (is_skipped line)) [
    | inl skip ↦
        let one = rest d in
        record {
          reading = one.reading;
          is = behind_skipped d first line lines one.reading skip one.is;
          only = λ other h. one.only other (skip_from other skip h);
        }
    | inr isnt ↦
        let here = one_line d line in
        let one = one_behind rest here.reading in
        record {
          reading = one.reading;
          is = front_from here.reading one.reading isnt here.is one.is;
          only = λ other h. one.only other (behind_from other here isnt h);
        }
  ]

only_none : (d : DefinedData) (first : ℕ) (r : LinesReading) → ReadsLines d first [] r → r ≡ Ok d
only_none d first r (no_line _ _) = refl

one_lines : (lines : List (List ℕ)) (d : DefinedData) (first : ℕ)
    → HasOne LinesReading (ReadsLines d first lines)
one_lines [] d first =
    record { reading = Ok d; is = no_line d first; only = only_none d first }
one_lines (line ∷ lines) d first =
    one_front d first line lines (λ next. one_lines lines next (first + 1))

-- what bytes are read as
utf8_decided : (bytes : List ℕ) → IsUtf8 bytes ⊎ (IsUtf8 bytes → ⊥)
utf8_decided bytes = elim (cases_Bool (is_utf8 bytes)) [
  | inl t ↦ inl (IsUtf8-from_is_utf8 bytes t)
  | inr f ↦ inr (λ utf8. both_ways (is_utf8 bytes) f (is_utf8-from_IsUtf8 bytes utf8))
]

module _ (bytes : List ℕ) where
  abbrev BytesReading : Type 0
  BytesReading = Result ScriptData ScriptFault

  only_too_long : script_limit < length bytes → (r : BytesReading) → IsReading bytes r
      → r ≡ Err (record { line = 0; kind = Limit })
  only_too_long long (Ok script) h = absurd (omega (arith, h.size))
  only_too_long long (Err fault) (too_long _ _) = refl
  only_too_long long (Err fault) (no_text _ size _) = absurd (omega arith)
  only_too_long long (Err fault) (at_a_line _ _ size _ _) = absurd (omega arith)

  only_no_text : length bytes ≤ script_limit → (IsUtf8 bytes → ⊥) → (r : BytesReading)
      → IsReading bytes r → r ≡ Err (record { line = 0; kind = NotText })
  only_no_text size other (Ok script) h = absurd (other h.utf8)
  only_no_text size other (Err fault) (too_long _ long) = absurd (omega arith)
  only_no_text size other (Err fault) (no_text _ _ _) = refl
  only_no_text size other (Err fault) (at_a_line _ _ _ utf8 _) = absurd (other utf8)

  -- by what their lines are read as
  abbrev script_or_fault : LinesReading → BytesReading
  script_or_fault (Ok after) = Ok after.script
  script_or_fault (Err fault) = Err fault

  read_by_lines : length bytes ≤ script_limit → IsUtf8 bytes → (r : LinesReading)
      → ReadsLines nothing_defined 1 (text_lines bytes) r → IsReading bytes (script_or_fault r)
  read_by_lines size utf8 (Ok after) h =
      record { size = size; utf8 = utf8; after = after; lines = h; is = refl }
  read_by_lines size utf8 (Err fault) h = at_a_line bytes fault size utf8 h

  only_by_lines : length bytes ≤ script_limit → IsUtf8 bytes
      → (one : HasOne LinesReading (ReadsLines nothing_defined 1 (text_lines bytes)))
      → (r : BytesReading) → IsReading bytes r → r ≡ script_or_fault one.reading
  only_by_lines size utf8 one (Ok script) h =
      ap Ok (sym h.is) ∙ ap script_or_fault (one.only (Ok h.after) h.lines)
  only_by_lines size utf8 one (Err fault) (too_long _ long) = absurd (omega arith)
  only_by_lines size utf8 one (Err fault) (no_text _ _ other) = absurd (other utf8)
  only_by_lines size utf8 one (Err fault) (at_a_line _ f _ _ lines) =
      ap script_or_fault (one.only (Err f) lines)

pub one_reading : HaveOneReading
one_reading bytes = elim (cases_lt script_limit (length bytes)) [
  | inl long ↦ record {
    reading = Err (record { line = 0; kind = Limit });
    is = too_long bytes long;
    only = only_too_long bytes long;
  }
  | inr size ↦ elim (utf8_decided bytes) [
    | inl utf8 ↦
        let one = one_lines (text_lines bytes) nothing_defined 1 in
        record {
          reading = script_or_fault bytes one.reading;
          is = read_by_lines bytes size utf8 one.reading one.is;
          only = only_by_lines bytes size utf8 one;
        }
    | inr other ↦ record {
      reading = Err (record { line = 0; kind = NotText });
      is = no_text bytes size other;
      only = only_no_text bytes size other;
    }
  ]
]
