-- What the running of a work's actions does to a sink and to files.
use Rattle.std.specs.Prelude.{ℕ, ◌+◌, ◌≡◌, ◌≢◌, ◌≤◌, ◌⊎◌, List, [], ◌∷◌, ◌++◌, length, take, Some, slice_get, Result, Ok, Err}
use Rattle.std.specs.List.{All}
use Rattle.std.specs.Option.{option_to_list}
use Rattle.sc_base.specs.Counts.{Rose}
use Rattle.sc_base.specs.Outside.{FilesState, IsLaterFiles, SinkState, with_more}
use Rattle.sc_base.specs.Trees.{Tree}
use Rattle.sc_base.specs.declared.refusals.OrMemory.{OrMemory}
use Rattle.sc_base.specs.declared.refusals.OrMemory.TheVariants.{Fault, OutOfMemory}
use Rattle.sc_lineage.specs.Actions.{action_outcome, action_text, faults as faulty, prints, some_text, texts_by, HasText}
use Rattle.sc_lineage.specs.Saves.{AreApart, saved_by}
use Rattle.sc_lineage.specs.ScriptData.{ActionData, WorkData}
use Rattle.sc_lineage.specs.declared.nodes.DriverFault.{DriverFault}
use Rattle.sc_compute.specs.declared.evaluation.Evaluated.{Evaluated}
use Rattle.sc_compute.specs.declared.evaluation.Evaluated.TheVariants as evaluated
use Rattle.sc_core.specs.declared.journals.JobHistory.{JobHistory}
use Rattle.sc_context.specs.Aborts.{IsAborted, IsHalted}
use Rattle.sc_context.specs.Contexts.{ContextData, Stops}
use Rattle.sc_context.specs.Files.{HasCounted, HaveLeft, StopsFiles}
use Rattle.sc_context.specs.Histories.{HasCome, HasDone}
use Rattle.sc_context.specs.Progress.{Progress, first_progress}
use Rattle.sc_context.specs.declared.stops.JobFault.{JobFault}
use Rattle.sc_context.specs.declared.stops.JobFault.TheVariants as faults
use Rattle.sc_print.specs.declared.faults.PrintFault.{PrintFault}
use Rattle.sc_print.specs.declared.faults.PrintFault.TheVariants.{Aborted, Device, Driver, Exists, Write}

-- the first k actions have texts, and a sink took each that isn't empty by one write
pub record HasPrinted (work : WorkData) (before after : SinkState) (k : ℕ) : Type 0 where
  pub within : k ≤ length work.script.actions
  pub texts : All (HasText work) (take k work.script.actions)
  pub pieces : after.pieces ≡ with_more before.pieces (texts_by work k)
  pub quiet : after.faults ≡ before.faults

-- all actions have texts, and a sink took them
abbrev pub PrintsAll : WorkData → SinkState → SinkState → Type 0
PrintsAll work before after = HasPrinted work before after (length work.script.actions)

-- action k has this fault of the driver; the texts before it stand
pub record StopsAtDriver (work : WorkData) (before after : SinkState) (k : ℕ) (fault : DriverFault)
    : Type 0 where
  pub action : ActionData
  pub is_action : slice_get work.script.actions k ≡ Some action
  pub faults_so : action_outcome work action ≡ faulty fault
  pub printed : HasPrinted work before after k

-- the sink failed at the text of an action; the texts before it stand, and a prefix of its own
pub record StopsAtWrite (work : WorkData) (before after : SinkState) : Type 0 where
  pub k : ℕ
  pub action : ActionData
  pub is_action : slice_get work.script.actions k ≡ Some action
  pub texts : All (HasText work) (take k work.script.actions)
  pub printed : List ℕ
  pub prints_so : action_outcome work action ≡ prints printed
  pub not_empty : printed ≢ []
  pub n : ℕ
  pub pieces : after.pieces ≡ with_more before.pieces (texts_by work k ++ take n printed ∷ [])
  pub rose : Rose before.faults after.faults

-- ---- files

-- The jobs of the first k actions are done, and those that save have left the files so. Where these
-- show, and the saved directories are kept apart, there is what the saves among these actions leave
-- by the sequential meaning, and nothing else has changed.
pub record HasDoneOver (work : WorkData) (before after : FilesState)
    (histories given_up : List JobHistory) (k : ℕ) : Type 0 where
  pub progress : Progress
  pub come : HasCome work (first_progress work) histories given_up progress
  pub at : progress.actions ≡ k
  pub left : HaveLeft work (first_progress work) histories given_up progress come before after
  pub later : IsLaterFiles before after
  pub saved : (opening : Tree) → before.shown ≡ Some opening → AreApart work.script opening
      → after.shown ≡ Some (saved_by work k opening)

-- The first k actions are done, and the next one came to no end: how the files stand then, and what
-- they have counted since these actions were done.
pub record EndsOver (work : WorkData) (before after : FilesState)
    (histories given_up : List JobHistory) (k : ℕ) (why : OrMemory JobFault) : Type 0 where
  pub front : List JobHistory
  pub given_front : List JobHistory
  pub mid : FilesState
  pub done : HasDoneOver work before mid front given_front k
  pub more : List JobHistory
  pub all : histories ≡ front ++ more
  pub given : List JobHistory
  pub all_given : given_up ≡ given_front ++ given
  pub over : StopsFiles work given k mid after why
  pub counted : HasCounted more given why mid after

-- ---- how it ends

-- memory ran out: some actions are printed, and the jobs of these are done and perhaps those of one
-- more, which wasn't printed
pub record CutsShort (work : WorkData) (before after : SinkState) (files then : FilesState)
    (histories given_up : List JobHistory) : Type 0 where
  pub k : ℕ
  pub printed : HasPrinted work before after k
  pub actions : ℕ
  pub printed_all : k ≤ actions
  pub but_one : actions ≤ k + 1
  pub jobs : IsHalted work actions histories given_up
  pub over : EndsOver work files then histories given_up actions OutOfMemory

-- What the running of a work's actions answers, by what the sink has then taken, by how the jobs
-- went, and those that were given up, and what these left of the files: all actions have texts; a
-- job for the next one was aborted; its directory was there, or a call on its files failed; its
-- results have no value together; the sink failed; or memory ran out.
abbrev pub Prints : WorkData → SinkState → SinkState → FilesState → FilesState
    → Result (Unit {0}) (OrMemory PrintFault) → List JobHistory → List JobHistory → Type 0
Prints work before after files then (Ok done) histories given_up =
    PrintsAll work before after
    × HasDoneOver work files then histories given_up (length work.script.actions)
Prints work before after files then (Err (Fault (Aborted k abort))) histories given_up =
    HasPrinted work before after k × IsAborted work k histories given_up abort
    × EndsOver work files then histories given_up k (Fault (faults.Aborted abort))
Prints work before after files then (Err (Fault (Exists k path))) histories given_up =
    HasPrinted work before after k × HasDone work histories given_up k
    × EndsOver work files then histories given_up k (Fault (faults.Exists path))
Prints work before after files then (Err (Fault (Device k path))) histories given_up =
    HasPrinted work before after k × IsHalted work k histories given_up
    × EndsOver work files then histories given_up k (Fault (faults.Device path))
Prints work before after files then (Err (Fault (Driver k fault))) histories given_up =
    StopsAtDriver work before after k fault × HasDoneOver work files then histories given_up (k + 1)
Prints work before after files then (Err (Fault Write)) histories given_up =
    (stops : StopsAtWrite work before after)
    × HasDoneOver work files then histories given_up (stops.k + 1)
Prints work before after files then (Err OutOfMemory) histories given_up =
    CutsShort work before after files then histories given_up

-- the text of an action, where it isn't empty, was taken by one write
pub record PrintsText (text : List ℕ) (before after : SinkState) : Type 0 where
  pub pieces : after.pieces ≡ with_more before.pieces (option_to_list (some_text (Some text)))
  pub quiet : after.faults ≡ before.faults

-- the sink failed at a text that isn't empty, and took a prefix of it
pub record FailsInText (text : List ℕ) (before after : SinkState) : Type 0 where
  pub not_empty : text ≢ []
  pub n : ℕ
  pub pieces : after.pieces ≡ with_more before.pieces (take n text ∷ [])
  pub rose : Rose before.faults after.faults

-- what the writing of a text answers
abbrev pub Writes : List ℕ → SinkState → SinkState → Result (Unit {0}) (OrMemory PrintFault)
    → Type 0
Writes text before after (Ok done) = PrintsText text before after
Writes text before after (Err (Fault (Aborted k abort))) = ⊥
Writes text before after (Err (Fault (Exists k path))) = ⊥
Writes text before after (Err (Fault (Device k path))) = ⊥
Writes text before after (Err (Fault (Driver k fault))) = ⊥
Writes text before after (Err (Fault Write)) = FailsInText text before after
Writes text before after (Err OutOfMemory) = after ≡ before

-- what an action gave that is done: a text, a saved directory, or a fault of the driver
abbrev pub IsValue : Evaluated → Type 0
IsValue (evaluated.Prints text) = Unit {0}
IsValue evaluated.Saves = Unit {0}
IsValue (evaluated.Faults fault) = Unit {0}
IsValue (evaluated.Never p) = ⊥

-- what the writing of what the action of a number gave answers: of a save nothing is written, and
-- of a fault, which is told, neither
abbrev pub WritesValue : ℕ → Evaluated → SinkState → SinkState
    → Result (Unit {0}) (OrMemory PrintFault) → Type 0
WritesValue k (evaluated.Prints text) before after answer = Writes text before after answer
WritesValue k evaluated.Saves before after answer = (answer ≡ Ok tt) × (after ≡ before)
WritesValue k (evaluated.Faults fault) before after answer =
    (answer ≡ Err (Fault (Driver k fault))) × (after ≡ before)
WritesValue k (evaluated.Never p) before after answer = ⊥

-- one action more was printed, whose jobs are done
pub record PrintsNext (work : WorkData) (before after : SinkState) (c next : ContextData)
    : Type 0 where
  pub text : List ℕ
  pub action : ActionData
  pub is_action : slice_get work.script.actions c.progress.actions ≡ Some action
  pub prints_so : action_text work action ≡ Some text
  pub printed : PrintsText text before after
  pub one_more : next.progress.actions ≡ c.progress.actions + 1
  pub more : List JobHistory
  pub all : next.histories ≡ c.histories ++ more
  pub given : List JobHistory
  pub all_given : next.given_up ≡ c.given_up ++ given
  pub come : HasCome work c.progress more given next.progress
  pub left : HaveLeft work c.progress more given next.progress come c.files next.files

-- the jobs of the next action are done
pub record GoesOneFurther (work : WorkData) (c : ContextData)
    (histories given_up : List JobHistory) (files : FilesState) : Type 0 where
  pub next : Progress
  pub one_more : next.actions ≡ c.progress.actions + 1
  pub more : List JobHistory
  pub all : histories ≡ c.histories ++ more
  pub given : List JobHistory
  pub all_given : given_up ≡ c.given_up ++ given
  pub come : HasCome work c.progress more given next
  pub left : HaveLeft work c.progress more given next come c.files files

-- what is told where a context ran no further
abbrev pub fault_of : ℕ → OrMemory JobFault → OrMemory PrintFault
fault_of k (Fault (faults.Aborted abort)) = Fault (Aborted k abort)
fault_of k (Fault (faults.Exists path)) = Fault (Exists k path)
fault_of k (Fault (faults.Device path)) = Fault (Device k path)
fault_of k OutOfMemory = OutOfMemory

-- What ends the running at the next action, by how the jobs went, those that were given up too, and
-- what they left of the files.
abbrev pub StopsNext : WorkData → SinkState → SinkState → ContextData → FilesState
    → OrMemory PrintFault → List JobHistory → List JobHistory → Type 0
StopsNext work before after c files (Fault (Aborted n abort)) histories given_up =
    (n ≡ c.progress.actions) × (after ≡ before)
    × Stops work c (Fault (faults.Aborted abort)) histories given_up files
StopsNext work before after c files (Fault (Exists n path)) histories given_up =
    (n ≡ c.progress.actions) × (after ≡ before)
    × Stops work c (Fault (faults.Exists path)) histories given_up files
StopsNext work before after c files (Fault (Device n path)) histories given_up =
    (n ≡ c.progress.actions) × (after ≡ before)
    × Stops work c (Fault (faults.Device path)) histories given_up files
StopsNext work before after c files (Fault (Driver n fault)) histories given_up =
    (n ≡ c.progress.actions) × (after ≡ before) × GoesOneFurther work c histories given_up files
    × ((action : ActionData) × (slice_get work.script.actions c.progress.actions ≡ Some action)
    × (action_outcome work action ≡ faulty fault))
StopsNext work before after c files (Fault Write) histories given_up =
    GoesOneFurther work c histories given_up files
    × ((text : List ℕ) × (action : ActionData)
    × (slice_get work.script.actions c.progress.actions ≡ Some action)
    × (action_outcome work action ≡ prints text) × FailsInText text before after)
StopsNext work before after c files OutOfMemory histories given_up =
    (after ≡ before)
    × (Stops work c OutOfMemory histories given_up files
    ⊎ GoesOneFurther work c histories given_up files)
