-- How many tasks a journal hands out.
use Rattle.std.specs.Prelude.{ℕ, ◌+◌, ◌≡◌, Bool, false, List, Option, count_by}
use Rattle.sc_ids.specs.Graphs.{StageData}
use Rattle.sc_ids.specs.declared.limits.Limits.{Limits}
use Rattle.sc_plan.specs.declared.lines.PlanLine.{PlanLine}
use Rattle.sc_core.specs.CoreData.{CoreData}
use Rattle.sc_core.specs.Journals.{Replays}
use Rattle.sc_core.specs.Openings.{IsOpening}
use Rattle.sc_core.specs.Owners.{has_task}
use Rattle.sc_core.specs.declared.answers.Abort.TheVariants.{Budget}
use Rattle.sc_core.specs.declared.answers.Answer.{Answer}
use Rattle.sc_core.specs.declared.answers.JobState.TheVariants as jobs
use Rattle.sc_core.specs.declared.entries.Entry.{Entry}
use Rattle.sc_core.specs.declared.events.Event.{Event}
use Rattle.sc_core.specs.declared.events.Event.TheVariants.{Take}

-- an executor asked and got a task
abbrev pub gives_task : Event → Answer → Bool
gives_task (Take exec) answer = has_task answer
gives_task event answer = false

abbrev pub is_hand_out : Entry → Bool
is_hand_out e = gives_task e.event e.answer

-- how many tasks some entries hand out
abbrev pub hand_outs_in : List Entry → ℕ
hand_outs_in entries = count_by is_hand_out entries

-- as many tasks were handed out as a job may
abbrev pub ShowsBudget : Limits → List Entry → Type 0
ShowsBudget limits entries = hand_outs_in entries ≡ limits.hand_outs

-- a core counts the tasks that its journal hands out
abbrev pub HandOutsAreCounted : Type 0
HandOutsAreCounted =
    (opening end : CoreData) (entries : List Entry) → Replays opening entries end
    → end.handed ≡ opening.handed + hand_outs_in entries

-- a journal changes no limit
abbrev pub LimitsStay : Type 0
LimitsStay =
    (opening end : CoreData) (entries : List Entry) → Replays opening entries end
    → end.dag.limits ≡ opening.dag.limits

-- a job that is aborted by its budget has handed out as many tasks as it may
abbrev pub BudgetsAreShown : Type 0
BudgetsAreShown =
    (graph : List StageData) (limits : Limits) (saves : Bool) (plan : List PlanLine)
    (last : Option CoreData) (opening end : CoreData) (entries : List Entry)
    → IsOpening graph limits saves plan last opening
    → Replays opening entries end → end.job ≡ jobs.Aborted Budget → ShowsBudget limits entries
