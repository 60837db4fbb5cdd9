-- The core of a job that begins.
use Rattle.std.specs.Prelude.{ℕ, ◌≡◌, ◌↔◌, List, [], Bool, true, false, Option, Some, None, replicate}
use Rattle.std.specs.Option.{option_map}
use Rattle.sc_commit.specs.declared.committers.Committer.{Committer}
use Rattle.sc_commit.specs.declared.committers.Committer.TheVariants.{Nobody}
use Rattle.sc_dag.specs.DagData.{DagData, stage_at, with_tracker}
use Rattle.sc_dag.specs.Openings.{Opens}
use Rattle.sc_dag.specs.Submission.{IsSubmitted, this_stage}
use Rattle.sc_ids.specs.Graphs.{StageData}
use Rattle.sc_ids.specs.declared.limits.Limits.{Limits}
use Rattle.sc_plan.specs.declared.lines.PlanLine.{PlanLine}
use Rattle.sc_tracker.specs.TrackerData.{TrackerData, tracker_data}
use Rattle.sc_tracker.specs.Tracking.{unregistered}
use Rattle.sc_tracker.specs.Trust.{untold}
use Rattle.sc_core.specs.CoreData.{CoreData, core_data, result_stage, with_dag}
use Rattle.sc_core.specs.declared.answers.JobState.TheVariants as jobs

-- the tracker that is carried on from the job before, or a new one
abbrev pub tracker_behind : Option CoreData → Limits → TrackerData
tracker_behind None limits = tracker_data [] (replicate limits.executors untold) 0
tracker_behind (Some last) limits = last.dag.tracker

-- how many reports were told before, and the greatest tick
abbrev pub told_before : Option CoreData → ℕ
told_before None = 0
told_before (Some last) = last.told

abbrev pub now_before : Option CoreData → ℕ
now_before None = 0
now_before (Some last) = last.now

-- the plan of the run, which is carried on from the job before
abbrev pub plan_behind : Option CoreData → List PlanLine → List PlanLine
plan_behind None plan = plan
plan_behind (Some last) plan = last.plan

-- A core of which nothing is registered any more, as where all stores are new. All else stays: what
-- was heard of the executors, what was told, and how many attempts its stages had.
abbrev pub unregistered_core : CoreData → CoreData
unregistered_core c = with_dag c (with_tracker c.dag (unregistered c.dag.tracker))

-- who may commit as a job begins: nobody, with a place for each result task of a job that saves,
-- and none of any other
abbrev pub committers_for : Bool → DagData → List Committer
committers_for false d = []
committers_for true d = replicate (stage_at d (result_stage d)).tasks Nobody

-- The core of a job with these stages, which saves its results or doesn't, in a run under this
-- plan, behind another job of the run or none: its result stage is submitted, and nothing else has
-- happened.
pub record IsOpening (graph : List StageData) (limits : Limits) (saves : Bool)
    (plan : List PlanLine) (last : Option CoreData) (c : CoreData) : Type 0 where
  pub dag : DagData
  pub opens : Opens graph (option_map (λ l. l.dag) last) (tracker_behind last limits) dag
  pub limits_are : dag.limits ≡ limits
  pub submits : IsSubmitted dag (this_stage (result_stage dag)) c.dag
  pub told : c.told ≡ told_before last
  pub now : c.now ≡ now_before last
  pub handed : c.handed ≡ 0
  pub job : c.job ≡ jobs.Running
  pub left_first : c.left_first ≡ None
  pub running : c.running ≡ []
  pub shelf : c.shelf ≡ []
  pub next_key : c.next_key ≡ 0
  pub committers : c.committers ≡ committers_for saves c.dag
  pub plan_is : c.plan ≡ plan_behind last plan

-- The core of such a job before its result stage is submitted. No stage has a task set or a failed
-- attempt, no attempt is out, and nobody has a grant. The tracker, how many reports were told, the
-- greatest tick, the plan, and the number of each stage's next attempt are carried on from the job
-- before.
pub record IsUnsubmitted (graph : List StageData) (limits : Limits) (saves : Bool)
    (plan : List PlanLine) (last : Option CoreData) (c : CoreData) : Type 0 where
  -- each stage is blank, with as many attempts before as in all jobs so far, and there is room for
  -- its outputs in the tracker
  pub stages : Opens graph (option_map (λ l. l.dag) last) (tracker_behind last limits) c.dag
  pub limits_are : c.dag.limits ≡ limits
  pub told : c.told ≡ told_before last
  pub now : c.now ≡ now_before last
  pub plan_is : c.plan ≡ plan_behind last plan
  pub job : c.job ≡ jobs.Running
  pub none_handed : c.handed ≡ 0
  pub none_out : c.running ≡ []
  pub none_shelved : c.shelf ≡ []
  pub no_key : c.next_key ≡ 0
  pub none_left : c.left_first ≡ None
  pub no_grant : c.committers ≡ committers_for saves c.dag

-- one core is another one whose result stage is submitted, and is the same in all else
pub record SubmitsResult (c after : CoreData) : Type 0 where
  pub submits : IsSubmitted c.dag (this_stage (result_stage c.dag)) after.dag
  pub others : after ≡ with_dag c after.dag

-- The stages of a job that begins with these limits, behind those of another job or none, once the
-- result stage is submitted.
pub record BeginsWith (graph : List StageData) (limits : Limits) (last : Option DagData)
    (t : TrackerData) (after : DagData) : Type 0 where
  pub dag : DagData
  pub opens : Opens graph last t dag
  pub limits_are : dag.limits ≡ limits
  pub submits : IsSubmitted dag (this_stage (result_stage dag)) after

-- all of the core of a job that begins but its stages: what goes on from the job before, and else
-- nothing
abbrev pub begun_core : Bool → List PlanLine → Option CoreData → DagData → CoreData
begun_core saves plan last dag =
    core_data (told_before last) (now_before last) 0 jobs.Running None [] [] 0
    (committers_for saves dag) dag (plan_behind last plan)

-- A job begins behind another one or none, with this tracker in place of what is carried on.
pub record BeginsBehind (graph : List StageData) (limits : Limits) (saves : Bool)
    (plan : List PlanLine) (last : Option CoreData) (t : TrackerData) (c : CoreData) : Type 0 where
  pub stages : BeginsWith graph limits (option_map (λ l. l.dag) last) t c.dag
  pub others : c ≡ begun_core saves plan last c.dag

-- a core is that of a job that begins exactly where it was unsubmitted, and its result stage is
-- submitted
abbrev pub OpeningsAreSubmissions : Type 0
OpeningsAreSubmissions =
    (graph : List StageData) (limits : Limits) (saves : Bool) (plan : List PlanLine)
    (last : Option CoreData) (c : CoreData)
    → IsOpening graph limits saves plan last c
    ↔ ((before : CoreData) × IsUnsubmitted graph limits saves plan last before
    × SubmitsResult before c)
