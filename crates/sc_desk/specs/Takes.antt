-- What an executor that asks for a task gets.
use Rattle.std.specs.Prelude.{ℕ, ◌≡◌, None}
use Rattle.sc_ids.specs.declared.attempts.Mark.{Mark}
use Rattle.sc_core.specs.CoreData.{under_way}
use Rattle.sc_core.specs.Takes.{IsAsking}
use Rattle.sc_core.specs.Waits.{IsForOthers}
use Rattle.sc_core.specs.declared.answers.Abort.TheVariants.{Budget}
use Rattle.sc_core.specs.declared.answers.Answer.{Answer}
use Rattle.sc_core.specs.declared.answers.Answer.TheVariants as says
use Rattle.sc_core.specs.declared.events.Event.TheVariants.{Take}
use Rattle.sc_jobs.specs.JobData.{JobData}
use Rattle.sc_net.specs.Tasks.{IsTaskOf, task_data}
use Rattle.sc_desk.specs.DeskData.{DeskData, core_of}
use Rattle.sc_desk.specs.Entries.{Enters}
use Rattle.sc_desk.specs.Shelves.{shelf_in}
use Rattle.sc_desk.specs.declared.takes.Taken.{Taken}
use Rattle.sc_desk.specs.declared.takes.Taken.TheVariants as takes

-- what an executor gets is what the core answers; a task is one of the desk's job
abbrev pub IsTaken : {W : _} → JobData → Taken W → Answer → Type 0
IsTaken job (takes.Task t) (says.Task h) = t ≡ task_data job h
IsTaken job (takes.Wait out) (says.Wait attempt) = out ≡ attempt
IsTaken job (takes.Busy held) (says.Busy attempt) = held ≡ attempt
IsTaken job takes.Lost says.Lost = Unit {0}
IsTaken job (takes.Stopped exec) (says.Stopped first) = exec ≡ first
IsTaken job takes.Ended says.Ended = Unit {0}
IsTaken job (takes.Aborted why) (says.Aborted cause) = why ≡ cause
IsTaken job taken answer = ⊥

-- an executor asks: what it gets, by what the core answers, and what that leaves
abbrev pub TakesLogged : {W : _} → DeskData → Mark → ℕ → Taken W → Answer → DeskData → Type 0
TakesLogged d by exec taken answer after =
    IsTaken d.job taken answer × Enters d by (Take exec) answer after
    × (after.results ≡ d.results) × (after.shelf ≡ shelf_in (core_of after) d.shelf)

-- the same for one who keeps no log of answers
abbrev pub Takes : {W : _} → DeskData → Mark → ℕ → Taken W → DeskData → Type 0
Takes d by exec taken after = (answer : Answer) × TakesLogged d by exec taken answer after

-- an executor that is to wait does so for others: the attempt is out on another executor, which
-- isn't lost, or its report is to be told later
abbrev pub WaitsForOthers : {W : _} → DeskData → ℕ → Taken W → Type 0
WaitsForOthers d exec (takes.Wait out) = IsForOthers (core_of d) exec out
WaitsForOthers d exec taken = Unit {0}

-- an executor gets a task, or the job ends by its budget
abbrev pub GetsOrEnds : {W : _} → Taken W → Type 0
GetsOrEnds (takes.Task t) = Unit {0}
GetsOrEnds (takes.Aborted Budget) = Unit {0}
GetsOrEnds taken = ⊥

-- Nobody is stuck: where the job runs, nobody left early and nothing is under way, an executor that
-- isn't lost and asks gets a task, or the job ends by its budget.
abbrev pub IsNeverStuck : {W : _} → DeskData → ℕ → Taken W → Type 0
IsNeverStuck d exec taken =
    IsAsking (core_of d) exec → under_way (core_of d) ≡ None → GetsOrEnds taken

-- an answer is one to an executor that asks, where a task is one of the job
abbrev pub IsGivable : JobData → Answer → Type 0
IsGivable job (says.Task h) = IsTaskOf job h
IsGivable job (says.Wait out) = Unit {0}
IsGivable job (says.Busy held) = Unit {0}
IsGivable job says.Lost = Unit {0}
IsGivable job (says.Stopped first) = Unit {0}
IsGivable job says.Ended = Unit {0}
IsGivable job (says.Aborted why) = Unit {0}
IsGivable job answer = ⊥
