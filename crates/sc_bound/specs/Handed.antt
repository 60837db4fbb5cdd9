-- What a job has handed out in all.
use Rattle.std.specs.Prelude.{ℕ, ◌≡◌, Bool, List, Option}
use Rattle.std.specs.List.{sum_by}
use Rattle.sc_ids.specs.Graphs.{StageData}
use Rattle.sc_ids.specs.declared.limits.Limits.{Limits}
use Rattle.sc_plan.specs.declared.lines.PlanLine.{PlanLine}
use Rattle.sc_taskset.specs.TaskSetData.{TaskSetData}
use Rattle.sc_dag.specs.DagData.{DagData, StageState}
use Rattle.sc_core.specs.CoreData.{CoreData}
use Rattle.sc_core.specs.Journals.{Replays}
use Rattle.sc_core.specs.Openings.{IsOpening}
use Rattle.sc_core.specs.Sound.{IsSoundCore}
use Rattle.sc_core.specs.declared.entries.Entry.{Entry}

-- how many tasks a set has handed out, by how often each of its tasks was
abbrev pub given_in_set : TaskSetData → ℕ
given_in_set set = sum_by (λ t. t.given) set.tasks

-- all task sets of a stage, and of a job
abbrev pub given_in_state : StageState → ℕ
given_in_state state = sum_by (λ a. given_in_set a.set) state.attempts

abbrev pub given_in_all : DagData → ℕ
given_in_all d = sum_by given_in_state d.states

-- A job counts as many hand-outs as its task sets do, in all attempts of all its stages.
abbrev pub HandedIsGiven : Type 0
HandedIsGiven =
    (graph : List StageData) (limits : Limits) (saves : Bool) (plan : List PlanLine)
    (last : Option CoreData) (opening end : CoreData) (entries : List Entry)
    → IsOpening graph limits saves plan last opening → IsSoundCore opening
    → Replays opening entries end → end.handed ≡ given_in_all end.dag
