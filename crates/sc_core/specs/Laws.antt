-- Laws of cores: what holds whatever happens to them.
use Rattle.std.specs.Prelude.{ℕ, ◌+◌, ◌-◌, ◌*◌, ◌<◌, ◌≤◌, ◌≡◌, ◌≢◌, ◌↔◌, List, Bool, true, false, not, Option, Some, None, IfSome, filter, length}
use Rattle.std.specs.List.{AllPairs}
use Rattle.sc_dag.specs.DagData.{DagData, stage_at}
use Rattle.sc_dag.specs.Offers.{HasNone}
use Rattle.sc_dag.specs.Openings.{FitsJob, IsJob}
use Rattle.sc_dag.specs.Outputs.{is_done}
use Rattle.sc_dag.specs.Reports.{has_failed_often, set_of}
use Rattle.sc_ids.specs.Graphs.{StageData}
use Rattle.sc_ids.specs.declared.attempts.AttemptId.{AttemptId}
use Rattle.sc_ids.specs.declared.limits.Limits.{Limits}
use Rattle.sc_plan.specs.declared.lines.PlanLine.{PlanLine}
use Rattle.sc_plan.specs.declared.lines.PlanLine.TheVariants as lines
use Rattle.sc_taskset.specs.Lookups.{task_at}
use Rattle.sc_taskset.specs.TaskSetData.{TaskData, TaskSetData}
use Rattle.sc_tracker.specs.TrackerData.{TrackerData, trust_of}
use Rattle.sc_tracker.specs.Trust.{are_lost}
use Rattle.sc_core.specs.CoreData.{CoreData, job_runs, result_stage, running_of, under_way}
use Rattle.sc_core.specs.Journals.{Replays}
use Rattle.sc_core.specs.Openings.{IsOpening, tracker_behind, unregistered_core}
use Rattle.sc_core.specs.Saving.{is_staged, saver_phase}
use Rattle.sc_core.specs.Sides.{IsAside}
use Rattle.sc_core.specs.Sound.{HasLive, IsSoundCore, LeavesWell}
use Rattle.sc_core.specs.Steps.{Steps, is_enabled}
use Rattle.sc_core.specs.Takes.{IsAsking}
use Rattle.sc_core.specs.declared.answers.Abort.TheVariants.{Budget, NoExecutor, StageLimit, TaskLimit}
use Rattle.sc_core.specs.declared.answers.Answer.{Answer}
use Rattle.sc_core.specs.declared.answers.Answer.TheVariants as says
use Rattle.sc_core.specs.declared.answers.SideAnswer.TheVariants as sides
use Rattle.sc_core.specs.declared.answers.JobState.TheVariants as jobs
use Rattle.sc_core.specs.declared.entries.Entry.{Entry}
use Rattle.sc_core.specs.declared.events.Event.{Event}
use Rattle.sc_core.specs.declared.events.Event.TheVariants.{Post, Side, Take}
use Rattle.sc_core.specs.declared.events.SideEvent.{SideEvent}
use Rattle.sc_core.specs.declared.events.SideEvent.TheVariants.{Ask}
use Rattle.sc_core.specs.declared.running.Running.{Running}

-- an event has one answer in a state, and leaves one state
abbrev pub StepsAgree : Type 0
StepsAgree =
    (c : CoreData) (event : Event) (a b : Answer) (x y : CoreData) → IsSoundCore c
    → Steps c event a x → Steps c event b y → (a ≡ b) × (x ≡ y)

-- every event that is enabled keeps what holds of every core
abbrev pub StepsKeepSound : Type 0
StepsKeepSound =
    (c after : CoreData) (event : Event) (answer : Answer) → IsSoundCore c
    → Steps c event answer after → IsSoundCore after

-- so every journal does
abbrev pub ReplaysKeepSound : Type 0
ReplaysKeepSound =
    (opening end : CoreData) (entries : List Entry) → IsSoundCore opening
    → Replays opening entries end → IsSoundCore end

-- in the first job somebody is live, where there are executors
abbrev pub FirstHasLive : Type 0
FirstHasLive = (limits : Limits) → 0 < limits.executors → HasLive (tracker_behind None limits)

-- a sound core leaves what the job behind it rests on
abbrev pub SoundCoresLeaveWell : Type 0
SoundCoresLeaveWell = (c : CoreData) → IsSoundCore c → LeavesWell c

-- so does one of which nothing is registered any more, and the same executors are live
abbrev pub UnregisteredLeaveWell : Type 0
UnregisteredLeaveWell =
    (c : CoreData)
    → (LeavesWell c → LeavesWell (unregistered_core c))
    × (HasLive c.dag.tracker → HasLive (unregistered_core c).dag.tracker)

-- the core of a job that begins where somebody is live is sound
abbrev pub OpeningsAreSound : Type 0
OpeningsAreSound =
    (graph : List StageData) (limits : Limits) (saves : Bool) (plan : List PlanLine)
    (last : Option CoreData) (c : CoreData)
    → IsJob graph → FitsJob (tracker_behind last limits) graph → IfSome last LeavesWell
    → HasLive (tracker_behind last limits) → IsOpening graph limits saves plan last c
    → IsSoundCore c

-- and a journal leaves one state
abbrev pub ReplaysAgree : Type 0
ReplaysAgree =
    (opening x y : CoreData) (entries : List Entry) → IsSoundCore opening
    → Replays opening entries x → Replays opening entries y → x ≡ y

-- an event that is enabled has an answer
abbrev pub EventsAreAnswered : Type 0
EventsAreAnswered =
    (c : CoreData) (event : Event) → IsSoundCore c → is_enabled c event ≡ true
    → (answer : Answer) × (after : CoreData) × Steps c event answer after

-- where an executor asks and no stage has a task for it, an attempt is under way
abbrev pub WaitsHaveCause : Type 0
WaitsHaveCause =
    (c : CoreData) (exec : ℕ) → IsSoundCore c → job_runs c ≡ true → HasNone c.dag exec c.now
    → under_way c ≢ None

-- an answer gives a task, or ends the job by its budget
abbrev pub GivesOrEnds : Answer → Type 0
GivesOrEnds (says.Task h) = Unit {0}
GivesOrEnds (says.Aborted Budget) = Unit {0}
GivesOrEnds answer = ⊥

-- A job never sticks: where it runs, nobody left early and nothing is under way, an executor that
-- isn't lost and asks gets a task, or the job ends by its budget.
abbrev pub NeverStuck : Type 0
NeverStuck =
    (c after : CoreData) (exec : ℕ) (answer : Answer) → IsSoundCore c → IsAsking c exec
    → under_way c ≡ None → Steps c (Take exec) answer after → GivesOrEnds answer

-- a job that is done has the result of each partition
abbrev pub DoneJobsAreWhole : Type 0
DoneJobsAreWhole =
    (c : CoreData) (p : ℕ) → IsSoundCore c → c.job ≡ jobs.Done
    → p < (stage_at c.dag (result_stage c.dag)).tasks → is_done c.dag (result_stage c.dag) p ≡ true

-- so many failures of a partition were counted in a task set, each of another attempt
abbrev pub HasFailedOften : Option TaskSetData → ℕ → Type 0
HasFailedOften None p = ⊥
HasFailedOften (Some set) p = HasFailedSo set.limits.task_failures (task_at p set.tasks)
  where
    HasFailedSo : ℕ → Option TaskData → Type 0
    HasFailedSo limit None = ⊥
    HasFailedSo limit (Some task) =
        (limit ≤ length task.failures) × AllPairs (λ m n. m ≢ n) task.failures

-- the same in the task set of a number
abbrev pub HasFailedAt : DagData → ℕ → ℕ → ℕ → Type 0
HasFailedAt d stage number p =
    HasFailedOften (set_of d (record {
      stage = stage;
      stage_attempt = number;
      partition = p;
      nth = 0;
    })) p

-- a job is aborted for the failures of a partition only where there are as many as that
abbrev pub TaskLimitsAreReached : Type 0
TaskLimitsAreReached =
    (c after : CoreData) (event : Event) (stage number p : ℕ)
    → IsSoundCore c
    → Steps c event (says.Aborted (TaskLimit stage number p)) after
    → HasFailedAt after.dag stage number p

-- a job is aborted for failed attempts of a stage only where there are as many as that
abbrev pub StageLimitsAreReached : Type 0
StageLimitsAreReached =
    (c after : CoreData) (event : Event) (stage : ℕ)
    → Steps c event (says.Aborted (StageLimit stage)) after
    → has_failed_often after.dag stage ≡ true

-- and for want of executors only where every one was told lost
abbrev pub NoExecutorsAreLeft : Type 0
NoExecutorsAreLeft =
    (c after : CoreData) (event : Event) → Steps c event (says.Aborted NoExecutor) after
    → are_lost after.dag.tracker.trust ≡ true

-- a line of a plan loses an executor that wasn't told lost yet
abbrev pub is_untold : TrackerData → PlanLine → Bool
is_untold t (lines.Lose exec after told) = not (trust_of t exec).lost
is_untold t line = false

-- how much may still happen: hand-outs that are left, attempts that are out, reports that are to
-- be told later, and losses; of a report that is posted there are two at most
abbrev pub left_to_do : CoreData → ℕ
left_to_do c =
    4 * (c.dag.limits.hand_outs - c.handed) + 3 * length (filter (λ r. r.is_out) c.running)
    + length c.shelf + length (filter (is_untold c.dag.tracker) c.plan)

-- an answer that only says how things are
abbrev pub changes_nothing : Answer → Bool
changes_nothing (says.Wait out) = true
changes_nothing (says.Busy held) = true
changes_nothing says.Lost = true
changes_nothing (says.Stopped exec) = true
changes_nothing says.Ended = true
changes_nothing says.Ignored = true
changes_nothing answer = false

-- an event only asks how things are, happens beside the reports, or is a report that nobody waits
-- for: what isn't out has reported before
abbrev pub spends_nothing : CoreData → Event → Answer → Bool
spends_nothing c (Take exec) answer = changes_nothing answer
spends_nothing c (Post a outcome) answer = not (is_out_in (running_of c a))
  where
    is_out_in : Option Running → Bool
    is_out_in None = false
    is_out_in (Some r) = r.is_out
spends_nothing c (Side event) answer = true
spends_nothing c event answer = false

-- in a job that goes on, every other event leaves less to do
abbrev pub StepsAreSpent : Type 0
StepsAreSpent =
    (c after : CoreData) (event : Event) (answer : Answer) → IsSoundCore c
    → Steps c event answer after → spends_nothing c event answer ≡ false → job_runs after ≡ true
    → left_to_do after < left_to_do c

-- an attempt of a save that asks whether it may commit is over exactly where it doesn't come next
abbrev pub AsksAreOver : Type 0
AsksAreOver =
    (c after : CoreData) (a : AttemptId) (answer : Answer) → IsSoundCore c
    → Steps c (Side (Ask a)) answer after
    → (answer ≡ says.Side sides.Over) ↔ (is_staged (saver_phase c a) ≡ false)

-- What happens beside the reports changes nothing else, and leaves as much to do.
abbrev pub SideEventsStayAside : Type 0
SideEventsStayAside =
    (c after : CoreData) (event : SideEvent) (answer : Answer) → Steps c (Side event) answer after
    → IsAside c after × (left_to_do after ≡ left_to_do c)
