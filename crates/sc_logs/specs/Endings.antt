-- How a job ended, as the logs of its executors tell.
use Rattle.std.specs.Prelude.{ℕ, ◌≡◌, ◌<◌, ◌⊎◌, true, false, List, All, Contains, Option, Some, None, length}
use Rattle.sc_ids.specs.declared.attempts.Mark.TheVariants.{Exec}
use Rattle.sc_core.specs.CoreData.{CoreData, job_runs}
use Rattle.sc_core.specs.Journals.{Replays}
use Rattle.sc_core.specs.Sound.{IsSoundCore}
use Rattle.sc_core.specs.declared.answers.Answer.{Answer}
use Rattle.sc_core.specs.declared.answers.Answer.TheVariants as says
use Rattle.sc_core.specs.declared.entries.Entry.{Entry}
use Rattle.sc_core.specs.declared.events.Event.TheVariants.{Side}
use Rattle.sc_core.specs.declared.events.SideEvent.TheVariants.{Leave}
use Rattle.sc_logs.specs.Folds.{has_asked_as, has_left, last_take}
use Rattle.sc_logs.specs.Logs.{Interleaves}
use Rattle.sc_logs.specs.declared.logs.ExecLog.{ExecLog}

-- there is no more to do for an executor whose last Take was answered so: the job has ended,
-- somebody left early, or it was told lost itself
abbrev pub IsLast : Option Answer → Type 0
IsLast answer =
    (answer ≡ Some says.Ended)
    ⊎ (((first : ℕ) × (answer ≡ Some (says.Stopped first))) ⊎ (answer ≡ Some says.Lost))

-- an executor worked until there was no more to do for it
pub record IsWorkedOut (l : ExecLog) : Type 0 where
  -- so its last Take was answered
  pub last : IsLast (last_take None l.entries.items)
  -- it asked for itself alone
  pub asks : has_asked_as l.exec l.entries.items ≡ true
  -- and didn't leave early
  pub stays : has_left l.entries.items ≡ false

-- who leaves early says so itself
abbrev pub LeavesItself : Entry → Type 0
LeavesItself e = (exec : ℕ) → e.event ≡ Side (Leave exec) → e.by ≡ Exec exec

-- each executor of the run has a log
abbrev pub HaveLogs : CoreData → List ExecLog → Type 0
HaveLogs c logs =
    (exec : ℕ) → exec < length c.dag.tracker.trust
    → (l : ExecLog) × Contains logs l × (l.exec ≡ exec)

-- A job at whose beginning nobody had left has ended, where its entries are an interleaving of the
-- logs of all executors, and each worked until there was no more to do for it.
abbrev pub WorkedJobsHaveEnded : Type 0
WorkedJobsHaveEnded =
    (opening end : CoreData) (entries : List Entry) (logs : List ExecLog) → IsSoundCore opening
    → opening.left_first ≡ None → Replays opening entries end → All LeavesItself entries
    → Interleaves entries logs → HaveLogs end logs → All IsWorkedOut logs
    → job_runs end ≡ false
