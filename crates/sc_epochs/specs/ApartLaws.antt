-- Laws of the attempts of stages in worlds.
use Rattle.std.specs.Prelude.{ℕ, ◌≤◌, ◌+◌, All, Bool, List, Option, length}
use Rattle.sc_ids.specs.Graphs.{StageData}
use Rattle.sc_ids.specs.declared.limits.Limits.{Limits}
use Rattle.sc_lineage.specs.ScriptData.{WorkData}
use Rattle.sc_plan.specs.Orders.{planned_losses}
use Rattle.sc_plan.specs.declared.lines.PlanLine.{PlanLine}
use Rattle.sc_core.specs.CoreData.{CoreData}
use Rattle.sc_core.specs.Journals.{Replays}
use Rattle.sc_core.specs.Openings.{IsOpening}
use Rattle.sc_history.specs.Trackers.{times_forgotten}
use Rattle.sc_world.specs.Runs.{IsWorld}
use Rattle.sc_world.specs.Steps.{Goes}
use Rattle.sc_world.specs.WorldData.{WorldData, core_in}
use Rattle.sc_world.specs.declared.steps.Applied.{Applied}
use Rattle.sc_world.specs.declared.steps.Step.{Step}
use Rattle.sc_epochs.specs.Apart.{AreBornApart, BornOrder, OwnWereThere, sets_of}
use Rattle.sc_epochs.specs.Found.{FindsStale}
use Rattle.sc_epochs.specs.Worlds.{ComesAbout}

-- no stage of a job that begins lacks what was there, or was tried twice in one epoch
abbrev pub OpeningsAreApart : Type 0
OpeningsAreApart =
    (graph : List StageData) (limits : Limits) (saves : Bool) (plan : List PlanLine)
    (last : Option CoreData) (c : CoreData) → IsOpening graph limits saves plan last c
    → AreBornApart c.dag

-- In a world whose epochs find what may be lost no step tries a stage again in the epoch in which
-- it was tried last.
abbrev pub StepsKeepApart : Type 0
StepsKeepApart =
    (work : WorkData) (w after : WorldData) (step : Step) (answer : Applied) → IsWorld work w
    → FindsStale w → Goes work w step answer after → AreBornApart (core_in w).dag
    → AreBornApart (core_in after).dag

-- In every world that a job comes to, what a map stage lacks and its newest task set doesn't want
-- was lost since that set began.
abbrev pub OutputsWereThere : Type 0
OutputsWereThere =
    (work : WorkData) (w : WorldData) → ComesAbout work w → OwnWereThere (core_in w).dag

-- And outputs were forgotten between any two attempts of a stage: the epoch, which counts how often
-- they were, is above that of the attempt before wherever another one begins.
abbrev pub AttemptsAreApart : Type 0
AttemptsAreApart = (work : WorkData) (w : WorldData) → ComesAbout work w → BornOrder (core_in w).dag

-- So a stage has one attempt in a job, and one more at most for each entry that forgets outputs.
abbrev pub AttemptsAreFew : Type 0
AttemptsAreFew =
    (work : WorkData) (w : WorldData) (s : ℕ) → ComesAbout work w
    → (is : Replays w.desk.journal.opening w.desk.journal.entries (core_in w))
    → length (sets_of (core_in w).dag s)
    ≤ 1 + times_forgotten w.desk.journal.opening w.desk.journal.entries (core_in w) is

-- and no more than one, and one for each loss that the plan lets come
abbrev pub AttemptsArePlanned : Type 0
AttemptsArePlanned =
    (work : WorkData) (w : WorldData) (s : ℕ) → ComesAbout work w
    → length (sets_of (core_in w).dag s) ≤ 1 + planned_losses work.plan

-- the same of all stages of a job, by what becomes of them
abbrev pub StagesArePlanned : Type 0
StagesArePlanned =
    (work : WorkData) (w : WorldData) → ComesAbout work w
    → All (λ state. length state.attempts ≤ 1 + planned_losses work.plan) (core_in w).dag.states
