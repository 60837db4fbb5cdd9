-- What the functions below `run` say of a run.
use Rattle.std.specs.Prelude.{ℕ, ◌≡◌, ◌⊎◌, List, [], Some, length}
use Rattle.sc_base.specs.Outside.{FilesState, Outside}
use Rattle.sc_core.specs.declared.journals.JobHistory.{JobHistory}
use Rattle.sc_lineage.specs.ScriptData.{WorkData}
use Rattle.sc_context.specs.Records.{AreKept}
use Rattle.sc_context.specs.declared.records.Records.{Records}
use Rattle.sc_print.specs.Printing.{HasDoneOver}
use Rattle.sc_read.specs.declared.reads.Read.{Read}
use Rattle.sc_app.specs.declared.ran.Status.{Status}
use Rattle.sc_app.specs.declared.ran.Status.TheVariants as statuses
use Rattle.sc_app.specs.Exactly.{TellsUsage}
use Rattle.sc_app.specs.Promises.{Ends}
use Rattle.sc_app.specs.Runs.{RunData, AreReads, AsksOnce, HasReadWork, run_of}
use Rattle.sc_words.specs.Words.{command_of}
use Rattle.sc_words.specs.declared.commands.Command.{Command}

-- a work was read, and the jobs of all its actions are done, and have left the files so
abbrev pub RanAllJobs : RunData → List JobHistory → List JobHistory → Type 0
RanAllJobs run history given_up = (work : WorkData) × HasReadWork run.words run.reads work
    × HasDoneOver work run.files_before run.files_after history given_up
    (length work.script.actions)

-- a run with its status: what it read, what it asked for, how it ended, and how its jobs went, and
-- those that were given up
pub record IsRun (run : RunData) (history given_up : List JobHistory) (status : Status)
    : Type 0 where
  pub reads : AreReads run
  pub asked : AsksOnce run status
  pub ends : Ends run history given_up status
  pub jobs : status ≡ statuses.Done → RanAllJobs run history given_up
  pub usage : TellsUsage run.words status

-- no job is in records
abbrev pub HasNoJob : Records → Type 0
HasNoJob r = (r.histories.items ≡ []) × (r.logs.items ≡ []) × (r.gave_up.items ≡ [])

-- what is kept of a run: no job, or those of the work that was read
abbrev pub KeepsRecords : List (List ℕ) → List Read → Records → Type 0
KeepsRecords words reads r =
    HasNoJob r ⊎ ((work : WorkData) × HasReadWork words reads work × AreKept work r)

-- the same, whatever the words that asked for this command
abbrev pub KeepsRecordsOf : Command → List Read → Records → Type 0
KeepsRecordsOf command reads r =
    (words : List (List ℕ)) → command_of words ≡ Some command → KeepsRecords words reads r

-- a run of this command, whatever the words that asked for it
abbrev pub IsRunOf : Command → List Read → List JobHistory → List JobHistory → Outside → Outside
    → FilesState → FilesState → Status → Type 0
IsRunOf command reads history given_up before after files_before files_after status =
    (words : List (List ℕ)) → command_of words ≡ Some command
    → IsRun (run_of words reads before after files_before files_after) history given_up status
