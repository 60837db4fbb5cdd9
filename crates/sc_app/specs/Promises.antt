-- What a run promises.
--
-- What 0 means; what each other status means, and what stands then; what comes of a good run; and
-- what it survives. The clauses `headline`, `histories`, `alone`, `ends`, `good` and `survives` of
-- `run` state these, for all words, sources, sinks and files. Its other clauses say what was read
-- and asked for (`Runs`), and that nothing is passed over which refuses a run (`Exactly`).
use Rattle.std.specs.Prelude.{ℕ, ◌≡◌, List, ◌++◌, Some, length}
use Rattle.sc_base.specs.Outside.{bytes_taken, with_more}
use Rattle.sc_base.specs.Trees.{Tree}
use Rattle.sc_ids.specs.declared.attempts.AttemptId.{AttemptId}
use Rattle.sc_commit.specs.CommitLaws.{winner_of}
use Rattle.sc_core.specs.CoreData.{CoreData}
use Rattle.sc_core.specs.Journals.{Replays}
use Rattle.sc_core.specs.declared.entries.Entry.{Entry}
use Rattle.sc_core.specs.declared.journals.JobHistory.{JobHistory}
use Rattle.sc_history.specs.Committing.{HoldsGrant, WasCommitted}
use Rattle.sc_lineage.specs.Actions.{printed_by}
use Rattle.sc_lineage.specs.Saves.{AreApart, saved_by}
use Rattle.sc_lineage.specs.ScriptData.{WorkData}
use Rattle.sc_context.specs.Records.{IsGivenUp}
use Rattle.sc_context.specs.declared.records.GaveUp.{GaveUp}
use Rattle.sc_print.specs.Printing.{HasDoneOver, PrintsAll}
use Rattle.sc_read.specs.declared.reads.Read.{Read}
use Rattle.sc_app.specs.declared.ran.Status.{Status}
use Rattle.sc_app.specs.declared.ran.Status.TheVariants as statuses
use Rattle.sc_app.specs.Ends.{EndsForAbort, EndsForDevice, EndsForDriver, EndsForExists, EndsForInput, EndsForMemory, EndsForPlan, EndsForScript, EndsForText, EndsForUsage, EndsForWrite, NothingMissed}
use Rattle.sc_app.specs.Good.{EndsWell, IsGood}
use Rattle.sc_app.specs.Runs.{RunData, HasReadWork}
use Rattle.sc_app.specs.Survival.{IsSurvivable, Survives}

-- ---- what 0 means

-- a script, its plan and its inputs were read, the sink got the text of its sequential meaning, and
-- the saved directories have what this gives them
pub record PrintsMeaning (run : RunData) : Type 0 where
  -- the script, the plan and the inputs that were read, and the limits that the words set
  pub work : WorkData
  pub read : HasReadWork run.words run.reads work
  pub quiet : NothingMissed run
  -- action by action, by one write for each text that isn't empty
  pub prints : PrintsAll work run.before.sink run.after.sink
  -- and so in all exactly the text of the meaning
  pub text : bytes_taken run.after.sink
      ≡ with_more (bytes_taken run.before.sink) (printed_by work (length work.script.actions))
  -- Where the files show, and the saved directories are kept apart, each of these holds exactly the
  -- part files of the meaning and `_SUCCESS`, and nothing else has changed.
  pub saves : (opening : Tree) → run.files_before.shown ≡ Some opening
      → AreApart work.script opening
      → run.files_after.shown ≡ Some (saved_by work (length work.script.actions) opening)

-- 0 means that the sink got exactly the text of the script's sequential meaning, and each saved
-- directory holds exactly that meaning's part files and `_SUCCESS`
abbrev pub ZeroMeansText : RunData → Status → Type 0
ZeroMeansText run status = status ≡ statuses.Done → PrintsMeaning run

-- And the history is that of the work that was read: a job for each action, which is done, behind
-- those that found the bounds which it needed, and no other. Those that were given up are runs of
-- these jobs too, in order. Each job that saves was committed: the part of each partition was
-- renamed from that of its winner, one for each partition.
abbrev pub ZeroShowsJobs : RunData → List JobHistory → List JobHistory → Status → Type 0
ZeroShowsJobs run history given_up status = status ≡ statuses.Done
    → (work : WorkData) → HasReadWork run.words run.reads work
    → HasDoneOver work run.files_before run.files_after history given_up
    (length work.script.actions)

-- ---- what histories show

-- in each state of a job at most one attempt of a partition is granted that it may commit
abbrev pub GrantsOneAlone : JobHistory → Type 0
GrantsOneAlone h =
    (first more : List Entry) (c : CoreData) (a b : AttemptId)
    → h.entries.items ≡ first ++ more → Replays h.opening first c
    → HoldsGrant c a → HoldsGrant c b → a.partition ≡ b.partition → a ≡ b

-- Authorised alone: no two attempts of a partition are granted at a time that they may commit, and
-- each winner was granted it, then moved its part, and then told its success, with its grant held
-- from the first to the last.
pub record IsAuthorisedAlone (h : JobHistory) : Type 0 where
  pub sole : GrantsOneAlone h
  pub winners : (p : ℕ) (winner : AttemptId) → winner_of h.end.committers p ≡ Some winner
      → WasCommitted h.opening h.entries.items winner

-- a work was read, and a job of it was given up for a reason
abbrev pub IsGivenUpIn : List (List ℕ) → List Read → GaveUp → Type 0
IsGivenUpIn words reads g =
    ((work : WorkData) × HasReadWork words reads work)
    × ((work : WorkData) → HasReadWork words reads work → IsGivenUp work g)

-- ---- what each other status means, and what stands then

-- each status has its cause, and this is what stands, by how the jobs went, and those that were
-- given up; the history shows why a job was aborted
abbrev pub Ends : RunData → List JobHistory → List JobHistory → Status → Type 0
Ends run history given_up statuses.Done = PrintsMeaning run
-- 2: the words are no command, and nothing was touched
Ends run history given_up statuses.Usage = EndsForUsage run history given_up
-- 3 and 4: the bytes that were read as the script or the plan have this fault; nothing was written,
-- to the sink or to files
Ends run history given_up (statuses.Script fault) = EndsForScript run history given_up fault
Ends run history given_up (statuses.Plan fault) = EndsForPlan run history given_up fault
-- 5: a name is missing or couldn't be read, and its count rose; nothing was written
Ends run history given_up (statuses.Input name missing) =
    EndsForInput run history given_up name missing
-- 6, 7, 8 and 14: the last job was aborted, and its history shows why; the texts before it stand,
-- and what was saved
Ends run history given_up (statuses.Aborted abort) = EndsForAbort run history given_up abort
-- 9: the results of an action have no value together; the texts before it stand, and what was saved
Ends run history given_up (statuses.DriverFault k fault) =
    EndsForDriver run history given_up k fault
-- 10: a directory is there already that an action was to make; likewise
Ends run history given_up (statuses.OutputExists dir) = EndsForExists run history given_up dir
-- 11: a call on the files of an action that saves failed; likewise
Ends run history given_up (statuses.Device path) = EndsForDevice run history given_up path
-- 12: the sink failed; the texts before stand, and a prefix of one more, and what was saved
Ends run history given_up statuses.WriteFault = EndsForWrite run history given_up
-- 13: memory ran out; the texts of some actions stand, and what these saved
Ends run history given_up statuses.OutOfMemory = EndsForMemory run history given_up
-- 15: the input that was read last isn't UTF-8; nothing was written
Ends run history given_up (statuses.NotText name) = EndsForText run history given_up name

-- ---- what comes of a good run

-- a run with nothing to refuse is done, or a job was aborted, or the results of an action have no
-- value together, or memory ran out
abbrev pub GoodRunsEndWell : RunData → Status → Type 0
GoodRunsEndWell run status = IsGood run → EndsWell status

-- ---- what a good run survives

-- Survival: a run with nothing to refuse is done, whatever its plan does, where the work that was
-- read is survivable; unless memory runs out, or a job has handed out as many tasks as it may.
abbrev pub GoodRunsSurvive : RunData → Status → Type 0
GoodRunsSurvive run status = IsGood run
    → ((work : WorkData) → HasReadWork run.words run.reads work → IsSurvivable work)
    → Survives status
