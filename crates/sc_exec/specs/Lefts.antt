-- Why an executor takes no more tasks, as its log tells.
use Rattle.std.specs.Prelude.{ℕ, ◌≡◌, ◌<◌, ◌⊎◌, true, false, List, [], ◌∷◌, Contains, Some, None}
use Rattle.sc_ids.specs.declared.attempts.AttemptId.{AttemptId}
use Rattle.sc_ids.specs.declared.blocks.Loc.{Loc}
use Rattle.sc_lineage.specs.ScriptData.{WorkData}
use Rattle.sc_plan.specs.declared.orders.Order.{Order}
use Rattle.sc_tracker.specs.declared.outputs.Location.TheVariants.{Here}
use Rattle.sc_core.specs.HandOuts.{HandOutData}
use Rattle.sc_core.specs.declared.answers.Answer.{Answer}
use Rattle.sc_core.specs.declared.answers.Answer.TheVariants as says
use Rattle.sc_desk.specs.Orders.{IsDueOrder}
use Rattle.sc_logs.specs.Folds.{has_asked_as, has_left, last_take, owed_after}
use Rattle.sc_exec.specs.Draining.{IsMet}
use Rattle.sc_exec.specs.Places.{IsMisplaced}
use Rattle.sc_exec.specs.declared.lefts.Left.{Left}
use Rattle.sc_exec.specs.declared.lefts.Left.TheVariants as lefts
use Rattle.sc_exec.specs.declared.lefts.Stranger.TheVariants as strangers
use Rattle.sc_logs.specs.declared.logs.ExecLog.{ExecLog}

-- ---- what an executor was told

-- the last Take of a log was answered so
abbrev pub WasTold : Answer → ExecLog → Type 0
WasTold answer log = last_take None log.entries.items ≡ Some answer

-- a log whose last Take was answered the same
abbrev pub IsToldTheSame : ExecLog → ExecLog → Type 0
IsToldTheSame log then =
    last_take None then.entries.items ≡ last_take None log.entries.items

-- the last Take of a log was answered with a task of this attempt
abbrev pub HasTask : AttemptId → ExecLog → Type 0
HasTask a log = (h : HandOutData) × WasTold (says.Task h) log × (h.attempt ≡ a)

-- An executor is at work: it asked for itself alone and didn't leave, and these attempts are owed a
-- report.
pub record IsAtWork (owed : List AttemptId) (log : ExecLog) : Type 0 where
  pub owes : owed_after [] log.entries.items ≡ owed
  pub stays : has_left log.entries.items ≡ false
  pub asks : has_asked_as log.exec log.entries.items ≡ true

-- ---- where it is sent

-- a block that a task reads, which was handed out so, lies on this executor
abbrev pub ReadsAt : HandOutData → ℕ → Type 0
ReadsAt h exec = (loc : Loc) × Contains h.inputs (Here loc) × (loc.exec ≡ exec)

-- with such a task an executor is sent to its own store and to where the blocks lie
abbrev pub IsSentWith : HandOutData → ℕ → ℕ → Type 0
IsSentWith h exec place = (place ≡ exec) ⊎ ReadsAt h place

-- an order of the fault plan, for an executor of the work, is due once so many reports were told
pub record IsDue (work : WorkData) (order : Order) : Type 0 where
  pub known : order.exec < work.limits.executors
  pub told : ℕ
  pub due : IsDueOrder work.plan told order.kind order

-- the desk sent an executor to a place: with the task that its last Take was answered with, or by
-- an order
abbrev pub WasSent : WorkData → ExecLog → ℕ → Type 0
WasSent work log place =
    ((h : HandOutData) × WasTold (says.Task h) log × IsSentWith h log.exec place)
    ⊎ ((order : Order) × IsDue work order × (order.exec ≡ place))

-- ---- why it takes no more tasks

-- it has pushed the report of its task, and the desk has no receipt of it
abbrev pub IsUnheardOf : AttemptId → ExecLog → Type 0
IsUnheardOf held log = HasTask held log × (owed_after [] log.entries.items ≡ held ∷ [])

-- it has this attempt out: it was told so that asked for a task, though none of its attempts was
-- owed a report; or the report of its task was pushed, and no receipt came of it
abbrev pub IsBusy : AttemptId → ExecLog → Type 0
IsBusy held log =
    (WasTold (says.Busy held) log × (owed_after [] log.entries.items ≡ []))
    ⊎ IsUnheardOf held log

-- What keeps an executor from going on. Where it was sent is another one's store; or the desk
-- refused the report of its task; or a store was found past the wipes that are due, or without its
-- block, at a place where the task reads; or the desk refused a report that was drained, whoever
-- posted it; or memory ran out. All but the last only the call makes that meets it.
abbrev pub IsHindrance : WorkData → ExecLog → Left → Type 0
IsHindrance work log (lefts.Stranger (strangers.Store misplaced)) =
    IsMisplaced misplaced.place misplaced × WasSent work log misplaced.place
IsHindrance work log (lefts.Stranger (strangers.Report refused)) =
    (h : HandOutData) × WasTold (says.Task h) log × (refused.attempt ≡ h.attempt)
IsHindrance work log (lefts.Early early) =
    (h : HandOutData) × WasTold (says.Task h) log × ReadsAt h early.exec
    × (early.due < early.found)
IsHindrance work log (lefts.Drained strange) = IsMet strange
IsHindrance work log (lefts.Absent absence) =
    (h : HandOutData) × WasTold (says.Task h) log × Contains h.inputs (Here absence.loc)
IsHindrance work log lefts.NoMemory = Unit {0}
IsHindrance work log left = ⊥

-- what keeps who drained the queue of reports from going on
abbrev pub HasDrained : Left → Type 0
HasDrained (lefts.Drained strange) = IsMet strange
HasDrained lefts.NoMemory = Unit {0}
HasDrained left = ⊥

-- The cause of each end. There was no more to do for it, and it stayed to the end; or it had a task
-- out that it had reported; or something kept it from going on.
abbrev pub IsCause : WorkData → ExecLog → Left → Type 0
IsCause work log lefts.JobEnded = WasTold says.Ended log × IsAtWork [] log
IsCause work log (lefts.Stopped exec) = WasTold (says.Stopped exec) log × IsAtWork [] log
IsCause work log lefts.Lost = WasTold says.Lost log × IsAtWork [] log
IsCause work log (lefts.Busy held) = IsBusy held log
IsCause work log left = IsHindrance work log left
