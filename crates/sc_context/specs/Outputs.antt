-- How the files of a job are opened, and what its end leaves of them.
use Rattle.std.specs.Prelude.{ℕ, ◌<◌, ◌≡◌, ◌⊎◌, List, Option, Some, None, IfSome, IsSomeAnd, Result, Ok, Err, length}
use Rattle.sc_base.specs.Outside.{Changes, FilesState, IsLaterFiles, IsQuietFiles}
use Rattle.sc_base.specs.Saves.{IsApart, saved_tree}
use Rattle.sc_base.specs.Trees.{Path, Tree}
use Rattle.sc_base.specs.declared.refusals.OrMemory.{OrMemory}
use Rattle.sc_base.specs.declared.refusals.OrMemory.TheVariants.{Fault, OutOfMemory}
use Rattle.sc_ids.specs.declared.attempts.AttemptId.{AttemptId}
use Rattle.sc_lineage.specs.ScriptData.{WorkData}
use Rattle.sc_files.specs.Calls.{CountsClash, CountsFault, IsAllOrNothing}
use Rattle.sc_ids.specs.declared.failures.Fault as device
use Rattle.sc_output.specs.Calls.{Call, IsNotDone, MakesCalls}
use Rattle.sc_output.specs.Commits.{AreCommitted, AreWinnersFrom, abort_calls, commit_calls}
use Rattle.sc_output.specs.Names.{staging_path}
use Rattle.sc_output.specs.Saved.{IsUnderWay}
use Rattle.sc_staging.specs.Laws.{StaysUnderWay}
use Rattle.sc_staging.specs.Opening.{IsHalfOpened, IsInTheWay, IsOfSave, IsOpened, IsOpenedNoFurther}
use Rattle.sc_staging.specs.Outputs.{GoesOnIn, output_dir, output_files}
use Rattle.sc_staging.specs.Renewal.{IsHalfRenewed, cleared_tree, renewed_tree}
use Rattle.sc_staging.specs.declared.outputs.Output.{Output}
use Rattle.sc_commit.specs.CommitLaws.{winner_of}
use Rattle.sc_commit.specs.declared.committers.Committer.{Committer}
use Rattle.sc_dag.specs.DagData.{stage_at}
use Rattle.sc_core.specs.CoreData.{CoreData, result_stage}
use Rattle.sc_core.specs.declared.answers.JobState.{JobState}
use Rattle.sc_core.specs.declared.answers.JobState.TheVariants as jobs
use Rattle.sc_core.specs.declared.journals.JobHistory.{JobHistory}
use Rattle.sc_jobs.specs.declared.goals.Goal.{Goal}
use Rattle.sc_desk.specs.Files.{AreCounted, AreWinners, part_texts}
use Rattle.sc_context.specs.Files.{CountsLast, IsEnding, IsOfNoFiles}
use Rattle.sc_context.specs.Histories.{IsUnaborted}
use Rattle.sc_context.specs.declared.stops.JobFault.{JobFault}
use Rattle.sc_context.specs.declared.stops.JobFault.TheVariants as faults

-- ---- where a job begins

-- files that are put aside stay as they are, and those of a save are opened: both directories were
-- made
abbrev pub IsOpenIn : Option Path → FilesState → FilesState → Type 0
IsOpenIn None before after = after ≡ before
IsOpenIn (Some dir) before after =
    IsLaterFiles before after × IsQuietFiles before after
    × Changes (IsOpened dir) before.shown after.shown

-- the files of a job that saves to a directory or to none are open
pub record IsOpenFor {F : Type 0} (state : F → FilesState) (dir : Option Path)
    (before : FilesState) (output : Output F) : Type 0 where
  pub saves_to : output_dir output ≡ dir
  pub opened : IsOpenIn dir before (output_files state output)

-- why the files of a save couldn't be opened, and how they are then
abbrev pub RefusesIn : Path → FilesState → FilesState → OrMemory JobFault → Type 0
RefusesIn dir before after (Fault (faults.Aborted abort)) = ⊥
RefusesIn dir before after (Fault (faults.Exists path)) =
    IsOfSave dir path × CountsClash before after
    × Changes (IsInTheWay dir path) before.shown after.shown
RefusesIn dir before after (Fault (faults.Device path)) =
    IsOfSave dir path × CountsFault before after
    × Changes (IsHalfOpened dir path) before.shown after.shown
RefusesIn dir before after OutOfMemory =
    IsQuietFiles before after × Changes (IsOpenedNoFurther dir) before.shown after.shown

-- the same of a job, which saves
abbrev pub RefusesOutput : Option Path → FilesState → FilesState → OrMemory JobFault → Type 0
RefusesOutput None before after why = ⊥
RefusesOutput (Some dir) before after why =
    IsLaterFiles before after × RefusesIn dir before after why

-- ---- where it begins again

-- files that are put aside stay as they are, and of those of a save the staging area was removed
-- with all that lay there, and made anew
abbrev pub IsRenewedIn : Option Path → FilesState → FilesState → Type 0
IsRenewedIn None before after = after ≡ before
IsRenewedIn (Some dir) before after =
    IsLaterFiles before after × IsQuietFiles before after
    × Changes (λ t u. u ≡ renewed_tree dir t) before.shown after.shown

-- the files of a job are open as before, with nothing in the staging area
pub record IsRenewedFor {F : Type 0} (state : F → FilesState) (before after : Output F)
    : Type 0 where
  pub dir : output_dir after ≡ output_dir before
  pub renewed : IsRenewedIn (output_dir before) (output_files state before)
      (output_files state after)

-- why that couldn't be done, and how the files are then
abbrev pub RefusesRenewalIn : Path → FilesState → FilesState → OrMemory JobFault → Type 0
RefusesRenewalIn dir before after (Fault (faults.Aborted abort)) = ⊥
RefusesRenewalIn dir before after (Fault (faults.Exists path)) = ⊥
RefusesRenewalIn dir before after (Fault (faults.Device path)) =
    (path ≡ staging_path dir) × IsNotDone before after
    × Changes (IsHalfRenewed dir) before.shown after.shown
RefusesRenewalIn dir before after OutOfMemory =
    IsQuietFiles before after
    × Changes (IsAllOrNothing (cleared_tree dir)) before.shown after.shown

-- the same of a job, which saves
abbrev pub RefusesRenewal : Option Path → FilesState → FilesState → OrMemory JobFault → Type 0
RefusesRenewal None before after why = ⊥
RefusesRenewal (Some dir) before after why =
    IsLaterFiles before after × RefusesRenewalIn dir before after why

-- as executors left the files of a job: a save that was under way is under way
abbrev pub IsLeftOpen : Option Path → FilesState → FilesState → Type 0
IsLeftOpen dir opened left = IsLaterFiles opened left × GoesOnIn dir opened left

-- The files with which a job began that were opened for it: as they were then, or, where it was
-- given up before, as its executors left them, but with its staging area made anew.
abbrev pub HasBegunIn : Option JobHistory → Option Path → FilesState → FilesState → Type 0
HasBegunIn None dir opened begun = begun ≡ opened
HasBegunIn (Some tried) dir opened begun =
    (left : FilesState) × IsLeftOpen dir opened left × IsRenewedIn dir left begun

-- Why a job didn't begin again, and how its files are then: memory ran out, with its staging area
-- made anew or not; or that couldn't be done.
abbrev pub IsNotBegun : Option Path → FilesState → FilesState → OrMemory JobFault → Type 0
IsNotBegun dir left after why =
    ((why ≡ OutOfMemory) × ((after ≡ left) ⊎ IsRenewedIn dir left after))
    ⊎ RefusesRenewal dir left after why

-- ---- where it ends

-- each partition of the result stage has a winner of its own
pub record HaveWinners (end : CoreData) : Type 0 where
  pub places : length end.committers ≡ (stage_at end.dag (result_stage end.dag)).tasks
  pub each : (p : ℕ) → p < length end.committers
      → IsSomeAnd (winner_of end.committers p) (λ winner. winner.partition ≡ p)

-- a save can be committed: it has its winners, whose parts are there
pub record CanCommit (dir : Path) (end : CoreData) (files : FilesState) : Type 0 where
  pub winners : HaveWinners end
  pub there : (winners : List AttemptId) → AreWinners end.committers winners
      → AreWinnersFrom 0 winners → IfSome files.shown (AreCommitted dir winners)

-- the calls of a commit were made, for the winners of a save
pub record MakesCommit (dir : Path) (committers : List Committer) (before after : FilesState)
    (ended : Result (Unit {0}) (OrMemory Path)) : Type 0 where
  pub winners : List AttemptId
  pub are_winners : AreWinners committers winners
  pub in_order : AreWinnersFrom 0 winners
  pub makes : MakesCalls (commit_calls dir winners) before after ended

-- The end of a save, by how far its job is: one that is done is committed, unless memory ran out
-- before that; one that was aborted has its staging area removed; and nothing is done to one that
-- runs on.
abbrev pub EndsSave : Path → List Committer → JobState → FilesState → FilesState
    → Result (Unit {0}) (OrMemory Path) → Type 0
EndsSave dir committers jobs.Done before after ended =
    MakesCommit dir committers before after ended
    ⊎ ((after ≡ before) × (ended ≡ Err OutOfMemory))
EndsSave dir committers (jobs.Aborted abort) before after ended =
    MakesCalls (abort_calls dir) before after ended
EndsSave dir committers jobs.Running before after ended = (after ≡ before) × (ended ≡ Ok tt)

-- the same of any job: files that were put aside are given back
abbrev pub EndsOutput : Option Path → CoreData → FilesState → FilesState
    → Result (Unit {0}) (OrMemory Path) → Type 0
EndsOutput None end before after ended = (after ≡ before) × (ended ≡ Ok tt)
EndsOutput (Some dir) end before after ended =
    EndsSave dir end.committers end.job before after ended

-- ---- what a job gives

-- why a job has no results whose files were ended: it was aborted, or memory ran out
abbrev pub LacksResults : CoreData → OrMemory JobFault → Type 0
LacksResults end (Fault (faults.Aborted abort)) = end.job ≡ jobs.Aborted abort
LacksResults end (Fault (faults.Exists path)) = ⊥
LacksResults end (Fault (faults.Device path)) = ⊥
LacksResults end OutOfMemory = IsUnaborted end

-- the same by how its files were ended
abbrev pub LacksBy : Result (Unit {0}) (OrMemory Path) → CoreData → OrMemory JobFault → Type 0
LacksBy (Ok u) end why = LacksResults end why
LacksBy (Err (Fault path)) end why = why ≡ Fault (faults.Device path)
LacksBy (Err OutOfMemory) end why = why ≡ OutOfMemory

-- ---- from its beginning to its end

-- a save that was opened was under way up to its end, and then these calls were made
pub record MakesAtEnd (dir : Path) (opened after : FilesState) (calls : List Call)
    (result : Result (Unit {0}) (OrMemory Path)) : Type 0 where
  pub mid : FilesState
  pub later : IsLaterFiles opened mid
  pub goes : Changes (StaysUnderWay dir) opened.shown mid.shown
  pub makes : MakesCalls calls mid after result

-- a save that was opened is done and committed, which leaves what a save leaves
pub record CommitsAtEnd (work : WorkData) (goal : Goal) (dir : Path) (end : CoreData)
    (opened after : FilesState) : Type 0 where
  pub winners : List AttemptId
  pub are_winners : AreWinners end.committers winners
  pub made : MakesAtEnd dir opened after (commit_calls dir winners) (Ok tt)
  pub saved : (opening : Tree) → IsApart dir opening
      → IfSome opened.shown (IsUnderWay dir opening)
      → IfSome after.shown (λ t. t ≡ saved_tree dir (part_texts work goal) opening)

-- how a save that was opened came to no end
abbrev pub FailsAtEnd : Path → FilesState → FilesState → OrMemory JobFault → Type 0
FailsAtEnd dir opened after (Fault (faults.Aborted abort)) =
    MakesAtEnd dir opened after (abort_calls dir) (Ok tt)
FailsAtEnd dir opened after (Fault (faults.Exists path)) = ⊥
FailsAtEnd dir opened after (Fault (faults.Device path)) =
    (calls : List Call) × IsEnding dir calls
    × MakesAtEnd dir opened after calls (Err (Fault path))
FailsAtEnd dir opened after OutOfMemory =
    (calls : List Call) × IsEnding dir calls
    × (MakesAtEnd dir opened after calls (Ok tt)
    ⊎ MakesAtEnd dir opened after calls (Err OutOfMemory))

-- How the files of a job went whose files were opened, by the directory that it saves to, and by
-- whether it has results.
abbrev pub WentIn : {A : Type 0} → Option Path → WorkData → Goal → CoreData → FilesState
    → FilesState → Result A (OrMemory JobFault) → Type 0
WentIn None work goal end opened after (Ok a) = after ≡ opened
WentIn None work goal end opened after (Err why) = (after ≡ opened) × IsOfNoFiles why
WentIn (Some dir) work goal end opened after (Ok a) =
    IsLaterFiles opened after × CommitsAtEnd work goal dir end opened after
WentIn (Some dir) work goal end opened after (Err why) =
    IsLaterFiles opened after × FailsAtEnd dir opened after why

-- what the files of a job have counted since it began with these counts, by the faults that its
-- entries tell of, and what ended it
pub record CountsToEnd (told : List device.Fault) (why : OrMemory JobFault)
    (opened after : FilesState) : Type 0 where
  pub last : FilesState
  pub counted : AreCounted opened told last
  pub later : IsLaterFiles last after
  pub ends : CountsLast why last after

-- the same by whether it has results
abbrev pub CountsIn : {A : Type 0} → List device.Fault → FilesState → FilesState
    → Result A (OrMemory JobFault) → Type 0
CountsIn told opened after (Ok a) = AreCounted opened told after
CountsIn told opened after (Err why) = CountsToEnd told why opened after
