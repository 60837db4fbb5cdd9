-- The files of a job, as far as its journal tells of them.
use Rattle.std.specs.Prelude.{ℕ, ◌≡◌, ◌≤◌, ◌<◌, ◌⊎◌, Bool, true, false, List, [], ◌∷◌, ◌++◌, Option, Some, None, IfSome, is_some, length, map, slice_get}
use Rattle.std.specs.List.{filter_map}
use Rattle.std.specs.Option.{option_map}
use Rattle.sc_base.specs.Counts.{Rose}
use Rattle.sc_base.specs.Outside.{FilesState}
use Rattle.sc_base.specs.Trees.{Path, Tree}
use Rattle.sc_value.specs.Printing.{printed_lines}
use Rattle.sc_lineage.specs.Actions.{local_results}
use Rattle.sc_lineage.specs.Saves.{dir_of_action}
use Rattle.sc_lineage.specs.ScriptData.{WorkData}
use Rattle.sc_ids.specs.declared.attempts.AttemptId.{AttemptId}
use Rattle.sc_ids.specs.declared.attempts.Mark.{Mark}
use Rattle.sc_ids.specs.declared.failures.Counts.{Counts}
use Rattle.sc_ids.specs.declared.failures.Fault.{Fault}
use Rattle.sc_files.specs.Calls.{counts_of}
use Rattle.sc_output.specs.Calls.{IsOpen}
use Rattle.sc_output.specs.Names.{IsWithinTypes}
use Rattle.sc_staging.specs.Done.{Deed, Done, HasFiles, HaveRenamed, broke, done_by, renamed, text_of, wrote}
use Rattle.sc_staging.specs.Opening.{opened_tree}
use Rattle.sc_staging.specs.Outputs.{GoesOnIn}
use Rattle.sc_staging.specs.Parts.{part_rename}
use Rattle.sc_staging.specs.StagingData.{StagingData}
use Rattle.sc_commit.specs.CommitLaws.{winner_of}
use Rattle.sc_commit.specs.declared.committers.Committer.{Committer}
use Rattle.sc_core.specs.CoreData.{CoreData}
use Rattle.sc_core.specs.Journals.{Replays}
use Rattle.sc_core.specs.Saving.{is_given, is_granted, saver_phase}
use Rattle.sc_core.specs.declared.answers.Answer.{Answer}
use Rattle.sc_core.specs.declared.answers.Answer.TheVariants as says
use Rattle.sc_core.specs.declared.answers.SideAnswer.{SideAnswer}
use Rattle.sc_core.specs.declared.answers.SideAnswer.TheVariants as sides
use Rattle.sc_core.specs.declared.entries.Entry.{Entry}
use Rattle.sc_core.specs.declared.events.Event.{Event}
use Rattle.sc_core.specs.declared.events.Event.TheVariants.{Side}
use Rattle.sc_core.specs.declared.events.SideEvent.{SideEvent}
use Rattle.sc_core.specs.declared.events.SideEvent.TheVariants.{Move, Stage}
use Rattle.sc_jobs.specs.JobData.{goal_action}
use Rattle.sc_jobs.specs.declared.goals.Goal.{Goal}
use Rattle.sc_desk.specs.Begins.{Begins}
use Rattle.sc_desk.specs.DeskData.{DeskData, PassedData, core_of}
use Rattle.sc_desk.specs.Entries.{Enters}
use Rattle.sc_desk.specs.Saving.{MovesPart, StagesPart}
use Rattle.sc_desk.specs.Sound.{IsSoundDesk}
use Rattle.sc_desk.specs.declared.receipts.Noted.{Noted}

-- ---- what attempts did

-- what an attempt did with its part, as an answer tells: one that is over did nothing
abbrev pub deed_by : SideAnswer → Option Deed
deed_by sides.Staged = Some wrote
deed_by sides.Moved = Some renamed
deed_by (sides.Fault fault) = Some broke
deed_by said = None

abbrev pub deed_in_side : SideEvent → SideAnswer → Option Done
deed_in_side (Stage attempt outcome) said = option_map (done_by attempt) (deed_by said)
deed_in_side (Move attempt outcome) said = option_map (done_by attempt) (deed_by said)
deed_in_side event said = None

-- what was done in an event, if it was a call on the files
abbrev pub deed_in : Event → Answer → Option Done
deed_in (Side event) (says.Side said) = deed_in_side event said
deed_in event answer = None

-- what was done by attempts in the entries of a journal, in order
abbrev pub deeds_of : List Entry → List Done
deeds_of entries = filter_map (λ e. deed_in e.event e.answer) entries

-- ---- which of these failed

-- the fault that a call on the files was, as an answer tells
abbrev pub fault_by : SideAnswer → Option Fault
fault_by (sides.Fault fault) = Some fault
fault_by said = None

abbrev pub fault_in_side : SideEvent → SideAnswer → Option Fault
fault_in_side (Stage attempt outcome) said = fault_by said
fault_in_side (Move attempt outcome) said = fault_by said
fault_in_side event said = None

-- the fault that an entry tells of, if it tells of one
abbrev pub fault_in : Event → Answer → Option Fault
fault_in (Side event) (says.Side said) = fault_in_side event said
fault_in event answer = None

-- the faults that the entries of a journal tell of, in order
abbrev pub faults_of : List Entry → List Fault
faults_of entries = filter_map (λ e. fault_in e.event e.answer) entries

-- What a fault tells of is a call that wasn't done: no count fell over it, and that of faults rose,
-- or that of clashes, which comes only where the files don't show.
pub record TellsOfCall (shows : Bool) (fault : Fault) : Type 0 where
  pub faults : fault.before.faults ≤ fault.after.faults
  pub clashes : fault.before.clashes ≤ fault.after.clashes
  pub cause : Rose fault.before.faults fault.after.faults
      ⊎ ((shows ≡ false) × Rose fault.before.clashes fault.after.clashes)

-- from these counts to those nothing was counted but these faults: each begins with what was
-- counted up to the one before
abbrev pub AreInRow : Bool → Counts → List Fault → Counts → Type 0
AreInRow shows from [] to = to ≡ from
AreInRow shows from (fault ∷ faults) to =
    (fault.before ≡ from) × TellsOfCall shows fault × AreInRow shows fault.after faults to

-- from one moment to another the files, which show as they did, have counted just these faults
pub record AreCounted (before : FilesState) (faults : List Fault) (after : FilesState)
    : Type 0 where
  pub shows : is_some after.shown ≡ is_some before.shown
  pub row : AreInRow (is_some before.shown) (counts_of before) faults (counts_of after)

-- From one moment of a desk to a later one the files have counted just the faults that its journal
-- tells of since.
pub record CountsGoOn (d after : DeskData) (before then : FilesState) : Type 0 where
  pub faults : List Fault
  pub told : faults_of after.journal.entries ≡ faults_of d.journal.entries ++ faults
  pub counted : AreCounted before faults then

-- ---- which files stand

-- the directory that a job saves to, if it saves
abbrev pub dir_of_job : WorkData → Goal → Option Path
dir_of_job work goal = dir_of_action (goal_action work goal)

-- the texts of the parts of a job that saves, in order, by what is computed for its partitions
abbrev pub part_texts : WorkData → Goal → List (List ℕ)
part_texts work goal = map (λ s. printed_lines s.rows) (local_results work (goal_action work goal))

-- The files of a job while it runs. They are open for the directory that it saves to, or put aside
-- where it saves nothing. Where those of a save show, its directories are there, and the files of
-- attempts by what each of them did last.
pub record FilesStand (work : WorkData) (d : DeskData) (dir : Option Path) (files : FilesState)
    : Type 0 where
  pub opened_for : dir ≡ dir_of_job work d.job.goal
  pub standing : IfSome dir
      (λ dir. IfSome files.shown
      (HasFiles dir (part_texts work d.job.goal) (deeds_of d.journal.entries)))

-- each partition of a save has its winner, in order
abbrev pub AreWinners : List Committer → List AttemptId → Type 0
AreWinners committers winners =
    (length winners ≡ length committers)
    × ((p : ℕ) → p < length committers → winner_of committers p ≡ slice_get winners p)

-- a desk's journal tells how its core came to be
abbrev pub HasReplay : DeskData → Type 0
HasReplay d = Replays d.journal.opening d.journal.entries (core_of d)

-- How the files of a job stand, call by call, and what is so of its winners at its end.
pub record FilesGoOn : Type 0 where
  -- they stand where the job begins: where it saves, both directories were made
  pub begun : (work : WorkData) (passed : PassedData) (last : Option CoreData) (goal : Goal)
      (d : DeskData) (dir : Option Path) (files : FilesState) → Begins work passed last goal d
      → dir ≡ dir_of_job work goal
      → IfSome dir (λ dir. IfSome files.shown (λ t. (u : Tree) × (t ≡ opened_tree dir u)))
      → FilesStand work d dir files
  -- and behind each entry: of a part that is written,
  pub staged : (work : WorkData) (d after : DeskData) (by : Mark) (a : AttemptId)
      (text : List ℕ) (before then : StagingData) (noted : Noted) → IsWithinTypes a
      → (is_given (saver_phase (core_of d) a) ≡ true
      → text ≡ text_of (part_texts work d.job.goal) a)
      → StagesPart d by a text before then noted after
      → FilesStand work d (Some before.dir) before.files
      → FilesStand work after (Some then.dir) then.files
      × GoesOnIn (Some before.dir) before.files then.files
  -- of one that is moved, which was written,
  pub moved : (work : WorkData) (d after : DeskData) (by : Mark) (a : AttemptId)
      (before then : StagingData) (noted : Noted) → IsWithinTypes a → IsSoundDesk work d
      → HasReplay d → MovesPart d by a before then noted after
      → FilesStand work d (Some before.dir) before.files
      → FilesStand work after (Some then.dir) then.files
      × GoesOnIn (Some before.dir) before.files then.files
  pub may_move : (work : WorkData) (d : DeskData) (a : AttemptId) (dir : Path)
      (files : FilesState) → IsWithinTypes a → IsSoundDesk work d → HasReplay d
      → is_granted (saver_phase (core_of d) a) ≡ true → FilesStand work d (Some dir) files
      → IfSome files.shown (IsOpen (part_rename dir a))
  -- and of all else
  pub entered : (work : WorkData) (d after : DeskData) (by : Mark) (event : Event)
      (answer : Answer) (dir : Option Path) (files : FilesState) → Enters d by event answer after
      → deed_in event answer ≡ None → FilesStand work d dir files
      → FilesStand work after dir files
  -- the winners of a job that is done moved their parts
  pub won : (work : WorkData) (d : DeskData) (winners : List AttemptId) → IsSoundDesk work d
      → HasReplay d → AreWinners (core_of d).committers winners
      → HaveRenamed (deeds_of d.journal.entries) winners
