-- What an executor gets that begins a turn at the desk.
use Rattle.std.specs.Prelude.{ℕ, ◌≡◌, ◌<◌, ◌⊎◌, [], ◌∷◌, All, None, Some}
use Rattle.sc_tracker.specs.declared.outputs.Location.{Location}
use Rattle.sc_tracker.specs.declared.outputs.Location.TheVariants.{Here, Missing}
use Rattle.sc_lineage.specs.ScriptData.{WorkData}
use Rattle.sc_core.specs.declared.answers.Answer.TheVariants as says
use Rattle.sc_jobs.specs.JobData.{JobData}
use Rattle.sc_desk.specs.DeskData.{DeskData, core_of}
use Rattle.sc_desk.specs.Dues.{IsDueLoss, IsDueReport, IsOrdered}
use Rattle.sc_desk.specs.declared.takes.Taken.{Taken}
use Rattle.sc_desk.specs.declared.takes.Taken.TheVariants as takes
use Rattle.sc_exec.specs.Lefts.{IsAtWork, IsDue, WasTold}
use Rattle.sc_exec.specs.Logging.{IsSameLog, IsTimed, LosesBoth, ReleasesBoth, TakesBoth}
use Rattle.sc_exec.specs.declared.turns.Asked.{Asked}
use Rattle.sc_exec.specs.declared.turns.Asked.TheVariants as askeds
use Rattle.sc_logs.specs.declared.logs.ExecLog.{ExecLog}

-- a block that a task reads lies on one of so many executors, or lay somewhere
abbrev pub LiesOrLay : ℕ → Location → Type 0
LiesOrLay executors (Here loc) = loc.exec < executors
LiesOrLay executors (Missing (Some last)) = Unit {0}
LiesOrLay executors (Missing None) = ⊥

-- what an executor was told that asked for a task: a task of the job is owed a report from now on,
-- and where it reads are executors of the work
abbrev pub IsTold : {W : _} → WorkData → JobData → Taken W → ExecLog → Type 0
IsTold work job (takes.Task t) log =
    (t.job ≡ job) × WasTold (says.Task t.hand_out) log × IsAtWork (t.hand_out.attempt ∷ []) log
    × All (LiesOrLay work.limits.executors) t.hand_out.inputs
IsTold work job (takes.Wait out) log = IsAtWork [] log
IsTold work job (takes.Busy held) log = WasTold (says.Busy held) log × IsAtWork [] log
IsTold work job takes.Lost log = WasTold says.Lost log × IsAtWork [] log
IsTold work job (takes.Stopped exec) log = WasTold (says.Stopped exec) log × IsAtWork [] log
IsTold work job takes.Ended log = WasTold says.Ended log × IsAtWork [] log
IsTold work job (takes.Aborted why) log = IsAtWork [] log

-- the same, or an order of the fault plan that is due, which leaves nothing in the log, or that
-- something was told
abbrev pub IsAsked : {W : _} → WorkData → JobData → Asked W → ExecLog → Type 0
IsAsked work job askeds.Told log = IsAtWork [] log
IsAsked work job (askeds.Order order) log = IsDue work order × IsAtWork [] log
IsAsked work job (askeds.Taken taken) log = IsTold work job taken log

-- ---- what comes next

-- where this executor asks no loss is due, and no report
abbrev pub HasToldAll : DeskData → ℕ → Type 0
HasToldAll d exec = IsDueLoss (core_of d) None × IsDueReport (core_of d) exec None

-- a loss that is due is told, or where none is a report that is
abbrev pub TellsDue : DeskData → ExecLog → DeskData → ExecLog → Type 0
TellsDue d log after then =
    ((exec : ℕ) × IsDueLoss (core_of d) (Some exec) × LosesBoth d log exec after then)
    ⊎ (IsDueLoss (core_of d) None × ((key : ℕ)
    × IsDueReport (core_of d) log.exec (Some key) × ReleasesBoth d log key after then))

-- with no order due either, the time is entered where slow tasks get copies, and then the executor
-- asks for a task
pub record AsksAt {W : _} (work : WorkData) (d : DeskData) (log : ExecLog) (taken : Taken W)
    (after : DeskData) (then : ExecLog) : Type 0 where
  pub ordered : DeskData
  pub no_order : IsOrdered work d None ordered
  pub timed : DeskData
  pub timed_log : ExecLog
  pub is_timed : IsTimed ordered log timed timed_log
  pub takes : TakesBoth timed timed_log taken after then

-- What comes next in an executor's turn: what is due is told, the losses first; where nothing is,
-- it gets an order that is due; and where none is, it asks for a task.
abbrev pub BeginsTurn : {W : _} → WorkData → DeskData → ExecLog → Asked W → DeskData → ExecLog
    → Type 0
BeginsTurn work d log askeds.Told after then = TellsDue d log after then
BeginsTurn work d log (askeds.Order order) after then =
    HasToldAll d log.exec × IsOrdered work d (Some order) after × IsSameLog log then
BeginsTurn work d log (askeds.Taken taken) after then =
    HasToldAll d log.exec × AsksAt work d log taken after then
