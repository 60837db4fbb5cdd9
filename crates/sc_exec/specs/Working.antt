-- What an executor leaves that works turn by turn.
use Rattle.std.specs.Prelude.{ℕ, ◌≡◌, ◌<◌, List, [], ◌∷◌}
use Rattle.sc_ids.specs.declared.attempts.AttemptId.{AttemptId}
use Rattle.sc_lineage.specs.ScriptData.{WorkData}
use Rattle.sc_core.specs.declared.answers.SideAnswer.{SideAnswer}
use Rattle.sc_core.specs.declared.answers.SideAnswer.TheVariants.{Over}
use Rattle.sc_logs.specs.declared.logs.ExecLog.{ExecLog}
use Rattle.sc_exec.specs.Lefts.{IsBusy, IsCause, IsHindrance}
use Rattle.sc_exec.specs.Logging.{HasRoom}
use Rattle.sc_exec.specs.Receipts.{Awaits}
use Rattle.sc_exec.specs.Workers.{HasCause}
use Rattle.sc_exec.specs.declared.lefts.Left.{Left}
use Rattle.sc_exec.specs.declared.lefts.Left.TheVariants as lefts
use Rattle.sc_exec.specs.declared.work.Turn.{Turn}
use Rattle.sc_exec.specs.declared.work.Turn.TheVariants as turns
use Rattle.sc_exec.specs.declared.workers.Worker.{Worker}

-- ---- one attempt

-- which attempts are owed a report once this one did something beside the reports, which was
-- answered so: none where it was over
abbrev pub owed_by : AttemptId → SideAnswer → List AttemptId
owed_by a Over = []
owed_by a said = a ∷ []

-- ---- turns

-- what an executor says that leaves of its own accord: it has a task out that it reported, or
-- something keeps it from going on
abbrev pub IsReasonToLeave : WorkData → ExecLog → Left → Type 0
IsReasonToLeave work log (lefts.Busy held) = IsBusy held log
IsReasonToLeave work log left = IsHindrance work log left

-- how a turn ends: the executor is at work still, and waits to hear of its report, if it pushed
-- one, or has its cause
abbrev pub IsTurn : WorkData → Turn → ExecLog → Type 0
IsTurn work (turns.Again sent) log = Awaits sent log
IsTurn work (turns.Over left) log = IsCause work log left

-- ---- executors

-- one of so many executors did nothing yet, and its log has room
pub record IsFresh (executors : ℕ) (w : Worker) : Type 0 where
  pub entries : w.log.entries.items ≡ []
  pub room : HasRoom w.log
  pub known : w.log.exec < executors
  -- where it doesn't come to work, that is for want of memory
  pub left : w.left ≡ lefts.NoMemory

-- it has worked since
abbrev pub HasWorked : WorkData → Worker → Worker → Type 0
HasWorked work w after = (after.log.exec ≡ w.log.exec) × HasCause work after
