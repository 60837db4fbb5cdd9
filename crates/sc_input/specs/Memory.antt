-- A source that holds its files in memory.
use Rattle.std.specs.Prelude.{ℕ, ◌≡◌, List, [], ◌∷◌, ◌++◌, Some, None, Bool, true, false, nat_eq}
use Rattle.std.specs.List.{list_any}
use Rattle.sc_base.specs.Counts.{counted}
use Rattle.sc_base.specs.Lists.{content_of}
use Rattle.sc_base.specs.Outside.{Files, SourceState}
use Rattle.sc_input.specs.declared.source.ReadAnswer.{ReadAnswer}
use Rattle.sc_input.specs.declared.source.ReadAnswer.TheVariants.{Bytes, NoFile, Failed, OutOfMemory}

-- the files of a source in memory, the calls that are to fail, and what was counted
pub record HeldFiles : Type 0 where
  -- names with their bytes, in the order in which they were added
  pub files : Files
  -- the numbers of the calls that are to fail; the first call of all has the number 1
  pub failing : List ℕ
  -- the names that were asked for, by the calls that were answered, in order
  pub asked : List (List ℕ)
  -- how many calls were answered
  pub calls : ℕ
  -- how many of them failed
  pub faults : ℕ
  -- how many of them named a file that isn't there
  pub misses : ℕ

-- what such a source shows: all of its files, and all names that it was asked for
abbrev pub shown_files : HeldFiles → SourceState
shown_files held =
    record {
      shown = Some held.files;
      asked = Some held.asked;
      faults = held.faults;
      misses = held.misses;
    }

-- no files, no calls that are to fail, and nothing counted
abbrev pub no_files : HeldFiles
no_files =
    record { files = []; failing = []; asked = []; calls = 0; faults = 0; misses = 0 }

-- one more file, behind the others
abbrev pub with_file : HeldFiles → List ℕ → List ℕ → HeldFiles
with_file held name bytes = record held { files = held.files ++ (name, bytes) ∷ [] }

-- one more call that is to fail
abbrev pub with_failing_call : HeldFiles → ℕ → HeldFiles
with_failing_call held call = record held { failing = held.failing ++ call ∷ [] }

-- whether the next call is one that is to fail
abbrev pub is_next_to_fail : HeldFiles → Bool
is_next_to_fail held = list_any (λ call. nat_eq call (counted held.calls)) held.failing

-- one more call that was answered, and the name that it asked for
abbrev pub answered : HeldFiles → List ℕ → HeldFiles
answered held name =
    record held { asked = held.asked ++ name ∷ []; calls = counted held.calls }

-- A read of a source in memory, by its answer. A call that is to fail does so, and no other; all
-- calls are counted but those that want of memory ended.
abbrev pub ReadsHeldFiles : HeldFiles → HeldFiles → List ℕ → ReadAnswer → Type 0
ReadsHeldFiles before after name (Bytes bytes) =
    (is_next_to_fail before ≡ false) × (content_of before.files name ≡ Some bytes)
    × (after ≡ answered before name)
ReadsHeldFiles before after name NoFile =
    (is_next_to_fail before ≡ false) × (content_of before.files name ≡ None)
    × (after ≡ record (answered before name) { misses = counted before.misses })
ReadsHeldFiles before after name Failed =
    (is_next_to_fail before ≡ true)
    × (after ≡ record (answered before name) { faults = counted before.faults })
ReadsHeldFiles before after name OutOfMemory = after ≡ before
