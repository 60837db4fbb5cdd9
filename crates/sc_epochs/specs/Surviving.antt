-- What a job in a world hands out at most, and which faults abort none.
use Rattle.std.specs.Prelude.{ℕ, ◌<◌, ◌≤◌, ◌≡◌, ◌≢◌, None}
use Rattle.sc_ids.specs.LimitRanges.{AreLimits}
use Rattle.sc_lineage.specs.ScriptData.{WorkData}
use Rattle.sc_plan.specs.Orders.{loss_of, planned_losses}
use Rattle.sc_core.specs.declared.answers.Abort.TheVariants.{Budget, NoExecutor, StageLimit}
use Rattle.sc_core.specs.declared.answers.JobState.TheVariants as jobs
use Rattle.sc_bound.specs.Bounds.{hand_out_bound}
use Rattle.sc_world.specs.WorldData.{WorldData, core_in}
use Rattle.sc_epochs.specs.Worlds.{ComesAbout}

-- In every world that a job comes to, it has handed out no more tasks than the bound.
abbrev pub HandOutsAreBounded : Type 0
HandOutsAreBounded =
    (work : WorkData) (w : WorldData) → AreLimits work.limits → ComesAbout work w
    → (core_in w).handed ≤ hand_out_bound w.desk.job.graph work.plan work.limits

-- So where a job may hand out as many, its budget aborts none.
abbrev pub BoundsNeedNoMore : Type 0
BoundsNeedNoMore =
    (work : WorkData) (w : WorldData) → AreLimits work.limits → ComesAbout work w
    → hand_out_bound w.desk.job.graph work.plan work.limits ≤ work.limits.hand_outs
    → (core_in w).job ≢ jobs.Aborted Budget

-- Where the plan lets outputs be forgotten fewer times than attempts of a stage may fail, no job in
-- a world is aborted for failed attempts of a stage.
abbrev pub FewLossesAbortNone : Type 0
FewLossesAbortNone =
    (work : WorkData) (w : WorldData) (stage : ℕ) → ComesAbout work w
    → planned_losses work.plan < work.limits.stage_attempts
    → (core_in w).job ≢ jobs.Aborted (StageLimit stage)

-- Where the plan has no line that loses one of the run's executors, no job in a world is aborted
-- for want of executors.
abbrev pub SparedExecutorsGoOn : Type 0
SparedExecutorsGoOn =
    (work : WorkData) (w : WorldData) (exec : ℕ) → ComesAbout work w
    → exec < work.limits.executors → loss_of work.plan exec ≡ None
    → (core_in w).job ≢ jobs.Aborted NoExecutor
