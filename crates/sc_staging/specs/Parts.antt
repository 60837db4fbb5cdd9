-- The parts that attempts write.
use Rattle.std.specs.Prelude.{ℕ, ◌≡◌, List, Result, Ok, IsErr}
use Rattle.sc_base.specs.Outside.{FilesState, Changes, IsQuietFiles}
use Rattle.sc_base.specs.Trees.{Path}
use Rattle.sc_files.specs.Calls.{counts_of}
use Rattle.sc_files.specs.declared.files.FileAnswer.{FileAnswer}
use Rattle.sc_files.specs.declared.files.FileAnswer.TheVariants as calls
use Rattle.sc_ids.specs.declared.attempts.AttemptId.{AttemptId}
use Rattle.sc_ids.specs.declared.failures.Counts.{Counts}
use Rattle.sc_ids.specs.declared.failures.Fault.{Fault}
use Rattle.sc_output.specs.Calls.{Call, IsAfterFailed, IsNotDone, after_call, rename_call, write_call}
use Rattle.sc_output.specs.Names.{committed_path, staged_path}
use Rattle.sc_staging.specs.declared.parts.Written.{Written}
use Rattle.sc_staging.specs.declared.parts.Written.TheVariants as ends

-- writes the part of an attempt
abbrev pub part_write : Path → AttemptId → List ℕ → Call
part_write dir a text = write_call (staged_path dir a) text

-- gives it its committed name
abbrev pub part_rename : Path → AttemptId → Call
part_rename dir a = rename_call (staged_path dir a) (committed_path dir a)

abbrev pub fault_of : Counts → Counts → Fault
fault_of before after = record { before = before; after = after }

-- a fault tells of a call that wasn't done: what was counted before it and after it, and one of the
-- counts rose, which is that of clashes only where the files don't show
pub record TellsOf (fault : Fault) (old new : FilesState) : Type 0 where
  pub before : fault.before ≡ counts_of old
  pub after : fault.after ≡ counts_of new
  pub cause : IsNotDone old new

-- a call for a part, by the answer
abbrev pub EndsPart : Call → FilesState → FilesState → Written → Type 0
EndsPart call old new ends.Done =
    IsQuietFiles old new × Changes (λ t u. u ≡ after_call t call) old.shown new.shown
EndsPart call old new (ends.Failed fault) =
    TellsOf fault old new × Changes (IsAfterFailed call) old.shown new.shown

-- what is told of a call on files, by how it ended, and by what was counted before and after it
abbrev pub Tells : {E : Type 0} → FileAnswer → Counts → Counts → Result Written E → Type 0
Tells calls.Done before after result = result ≡ Ok ends.Done
Tells calls.NoDir before after result = result ≡ Ok (ends.Failed (fault_of before after))
Tells calls.NoFile before after result = result ≡ Ok (ends.Failed (fault_of before after))
Tells calls.Failed before after result = result ≡ Ok (ends.Failed (fault_of before after))
Tells calls.OutOfMemory before after result = IsErr result
