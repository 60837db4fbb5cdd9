-- What holds of every desk.
use Rattle.std.specs.Prelude.{ℕ, ◌≡◌, ◌≢◌, ◌≤◌, ◌<◌, All, Bool, true, false, List, [], ◌∷◌, Option, Some, None, IfSome, is_some, length, map}
use Rattle.sc_base.specs.Lists.{at_or}
use Rattle.sc_expr.specs.declared.exprs.Raise.{Raise}
use Rattle.sc_ids.specs.Failures.{HasRisen}
use Rattle.sc_ids.specs.declared.attempts.AttemptId.{AttemptId}
use Rattle.sc_ids.specs.declared.failures.FailureCause.{FailureCause}
use Rattle.sc_ids.specs.declared.failures.FailureCause.TheVariants as causes
use Rattle.sc_plan.specs.Attempts.{is_failed}
use Rattle.sc_plan.specs.PlanLines.{place_of}
use Rattle.sc_lineage.specs.ScriptData.{WorkData}
use Rattle.sc_lineage.specs.Targets.{own_value, result_target}
use Rattle.sc_compute.specs.Results.{HandsOver}
use Rattle.sc_compute.specs.declared.results.TaskResult.{TaskResult}
use Rattle.sc_stagecut.specs.Carrying.{AreRightBounds, IsCarriedFor}
use Rattle.sc_dag.specs.DagData.{DagData, stage_at}
use Rattle.sc_dag.specs.Openings.{AreNumbered}
use Rattle.sc_dag.specs.Outputs.{is_done}
use Rattle.sc_tracker.specs.TrackerData.{trust_of}
use Rattle.sc_core.specs.CoreData.{CoreData, shelved_of, job_runs, result_stage}
use Rattle.sc_core.specs.Journals.{Replays}
use Rattle.sc_core.specs.Openings.{IsOpening}
use Rattle.sc_core.specs.Sound.{IsSoundCore}
use Rattle.sc_core.specs.declared.answers.Answer.{Answer}
use Rattle.sc_core.specs.declared.answers.Answer.TheVariants as says
use Rattle.sc_core.specs.declared.entries.Entry.{Entry}
use Rattle.sc_core.specs.declared.events.Event.{Event}
use Rattle.sc_core.specs.declared.events.Event.TheVariants.{Post, Release, Side}
use Rattle.sc_core.specs.declared.events.FileOutcome.{FileOutcome}
use Rattle.sc_core.specs.declared.events.FileOutcome.TheVariants.{Done, Failed}
use Rattle.sc_core.specs.declared.events.Outcome.{Outcome}
use Rattle.sc_core.specs.declared.events.Outcome.TheVariants as outcomes
use Rattle.sc_core.specs.declared.events.SideEvent.{SideEvent}
use Rattle.sc_core.specs.declared.events.SideEvent.TheVariants.{Move, Stage}
use Rattle.sc_jobs.specs.Fitting.{FitsWork}
use Rattle.sc_jobs.specs.JobData.{HasTask, JobData, blocks_read, goal_action, saves, target_of}
use Rattle.sc_net.specs.Reports.{IsWithoutRaise}
use Rattle.sc_desk.specs.DeskData.{DeskData, core_of}
use Rattle.sc_desk.specs.Dues.{IsInTime, wipes_due}
use Rattle.sc_desk.specs.Shelves.{IsShelvedOf, as_shelved}

-- ---- results

-- this is handed over for a partition, whose result doesn't raise
abbrev pub IsResult : WorkData → JobData → ℕ → TaskResult → Type 0
IsResult work job p given = HandsOver work (result_target (goal_action work job.goal) p) given

-- what is kept of the result of a partition
abbrev pub result_at : List (Option TaskResult) → ℕ → Option TaskResult
result_at results p = at_or results p None

-- how many results the job of a core has
abbrev pub result_count : DagData → ℕ
result_count d = (stage_at d (result_stage d)).tasks

-- the result of a partition is there
abbrev pub has_result : DagData → ℕ → Bool
has_result d p = is_done d (result_stage d) p

-- every partition has its result
abbrev pub AreAllResults : WorkData → JobData → List (Option TaskResult) → Type 0
AreAllResults work job results =
    (p : ℕ) → p < length results
    → (given : TaskResult) × (result_at results p ≡ Some given) × IsResult work job p given

-- ---- failures

-- what an attempt is to compute raises so, and nothing that it reads raises
pub record HasRaised (work : WorkData) (job : JobData) (a : AttemptId) (raise : Raise)
    : Type 0 where
  pub task : HasTask job.graph a.stage a.partition
  pub own : (own_value work (target_of work job a.stage a.partition)).raise ≡ Some raise
  pub inputs : All (IsWithoutRaise work) (blocks_read job.graph a.stage)

-- The evidence of a failure that is posted once so many reports were told: its cause is the plan's,
-- or the attempt's own, or a generation of a store that a wipe has brought; or the job saves, and
-- over a call on the files a count of theirs rose, or the attempt was denied.
abbrev pub FailedFor : WorkData → JobData → ℕ → AttemptId → FailureCause → Type 0
FailedFor work job told a causes.Planned = is_failed work.plan (place_of a) ≡ true
FailedFor work job told a (causes.Raised raise) = HasRaised work job a raise
FailedFor work job told a (causes.Gone exec wanted found) = found ≤ wipes_due work told exec
FailedFor work job told a (causes.Metadata last) = Unit {0}
FailedFor work job told a (causes.Device fault) = HasRisen fault × (saves work job.goal ≡ true)
FailedFor work job told a causes.Denied = saves work job.goal ≡ true

abbrev pub EndedFor : WorkData → JobData → ℕ → AttemptId → Outcome → Type 0
EndedFor work job told a (outcomes.Map loc) = Unit {0}
EndedFor work job told a outcomes.Result = Unit {0}
EndedFor work job told a (outcomes.Failed cause) = FailedFor work job told a cause

-- a call on the files that failed has its evidence
abbrev pub HasFailedFor : FileOutcome → Type 0
HasFailedFor Done = Unit {0}
HasFailedFor (Failed fault) = HasRisen fault

-- so has what happens beside the reports
abbrev pub IsEvidentAside : SideEvent → Type 0
IsEvidentAside (Stage attempt wrote) = HasFailedFor wrote
IsEvidentAside (Move attempt renamed) = HasFailedFor renamed
IsEvidentAside event = Unit {0}

-- what happens in a state has its evidence: a report that is posted, and not ignored, is true of
-- its attempt, and so is one that is told late; and a call on the files that failed raised a count
abbrev pub IsEvident : WorkData → JobData → CoreData → Event → Answer → Type 0
IsEvident work job c (Post a outcome) answer =
    answer ≢ says.Ignored → EndedFor work job c.told a outcome
IsEvident work job c (Release key) answer =
    IfSome (shelved_of c key) (λ s. EndedFor work job c.told s.attempt s.outcome)
IsEvident work job c (Side event) answer = IsEvidentAside event
IsEvident work job c event answer = Unit {0}

-- each entry of a journal has its evidence, by the state before it
abbrev pub AreEvident : (work : WorkData) (job : JobData) (c : CoreData) (entries : List Entry)
    (end : CoreData) → Replays c entries end → Type 0
AreEvident work job c [] end is = Unit {0}
AreEvident work job c (entry ∷ entries) end (mid, step, rest) =
    IsEvident work job c entry.event entry.answer
    × AreEvident work job mid entries end rest

-- ---- desks

-- no generation was seen that no wipe has brought
abbrev pub IsSeenDue : WorkData → CoreData → Type 0
IsSeenDue work c =
    (exec : ℕ) → (trust_of c.dag.tracker exec).seen ≤ wipes_due work c.told exec

-- every desk
pub record IsSoundDesk (work : WorkData) (d : DeskData) : Type 0 where
  -- its job began behind another one or none, under the plan of the work
  pub last : Option CoreData
  pub opened : IsOpening d.job.graph work.limits (saves work d.job.goal) work.plan last
      d.journal.opening
  -- with a core that is sound
  pub began : IsSoundCore d.journal.opening
  -- the core has the job's stages by their numbers, the work's limits and plan, and its executors
  pub stages : AreNumbered d.job.graph (core_of d).dag.stages
  pub limits : (core_of d).dag.limits ≡ work.limits
  pub plan : (core_of d).plan ≡ work.plan
  pub execs : length (core_of d).dag.tracker.trust ≡ work.limits.executors
  -- there is a place for each result, which has it exactly where the core has it
  pub places : length d.results ≡ result_count (core_of d).dag
  pub won : (p : ℕ) → is_some (result_at d.results p) ≡ has_result (core_of d).dag p
  -- and it is what its task is to hand over
  pub own : (p : ℕ) → IfSome (result_at d.results p) (IsResult work d.job p)
  -- the shelf has the reports that the core is to be told of later, and these are true
  pub shelf : map as_shelved d.shelf ≡ (core_of d).shelf
  pub shelved : All (IsShelvedOf work d.job) d.shelf
  -- until the job's end, when all are dropped
  pub over : job_runs (core_of d) ≡ false → d.shelf ≡ []
  -- no generation was seen, or is to be told of, that no wipe has brought
  pub seen : IsSeenDue work (core_of d)
  pub in_time : All (λ s. IsInTime work (core_of d).told s.report.finding) d.shelf
  -- each failure that was posted has its evidence
  pub evidence : (is : Replays d.journal.opening d.journal.entries (core_of d))
      → AreEvident work d.job d.journal.opening d.journal.entries (core_of d) is
  -- what is carried on serves the work's next job
  pub carried : IsCarriedFor work.script.nodes d.carried
  pub bounds : AreRightBounds work d.carried
  pub fits : FitsWork work (core_of d).dag.tracker
  pub many : length d.ordered ≡ work.limits.executors
