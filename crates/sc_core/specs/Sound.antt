-- What holds of every core.
use Rattle.std.specs.Prelude.{ℕ, ◌^◌, ◌<◌, ◌≤◌, ◌≡◌, ◌≢◌, ◌⊎◌, ◌==◌, ◌&&◌, List, Bool, true, false, Option, Some, None, All, IfSome, is_some, length, nat_lt, slice_get}
use Rattle.std.specs.List.{AllPairs, list_any}
use Rattle.std.specs.Option.{option_map}
use Rattle.sc_base.specs.Lists.{at_or}
use Rattle.sc_commit.specs.CommitFacts.{IsSoundCommit}
use Rattle.sc_commit.specs.CommitLaws.{holder_of, winner_of}
use Rattle.sc_commit.specs.Committers.{committer_at}
use Rattle.sc_commit.specs.Committing.{denies, holds, is_same}
use Rattle.sc_dag.specs.DagData.{DagData, no_stage, stage_at}
use Rattle.sc_dag.specs.Outputs.{held_in, is_complete, is_done}
use Rattle.sc_dag.specs.Reports.{set_of}
use Rattle.sc_dag.specs.Settled.{IsSettled, IsUnderWay}
use Rattle.sc_dag.specs.Sound.{IsSoundDag, runner_of}
use Rattle.sc_dag.specs.Submission.{is_map}
use Rattle.sc_ids.specs.declared.attempts.AttemptId.{AttemptId}
use Rattle.sc_ids.specs.declared.blocks.BlockId.{BlockId}
use Rattle.sc_plan.specs.Orders.{loss_of}
use Rattle.sc_taskset.specs.Lookups.{task_at}
use Rattle.sc_taskset.specs.TaskSetData.{TaskData, TaskSetData}
use Rattle.sc_tracker.specs.TrackerData.{TrackerData, output_of, trust_of}
use Rattle.sc_tracker.specs.TrackerFacts.{IsSoundTracker}
use Rattle.sc_tracker.specs.Trust.{is_marked}
use Rattle.sc_tracker.specs.declared.outputs.Location.{Location}
use Rattle.sc_tracker.specs.declared.outputs.Location.TheVariants.{Here, Missing}
use Rattle.sc_core.specs.CoreData.{CoreData, is_of, job_runs, result_stage, running_of}
use Rattle.sc_core.specs.HandOuts.{HandOutData}
use Rattle.sc_core.specs.declared.answers.Abort.TheVariants.{NoExecutor}
use Rattle.sc_core.specs.declared.answers.JobState.TheVariants as jobs
use Rattle.sc_core.specs.Losses.{is_due_after}
use Rattle.sc_core.specs.Posts.{fits, is_save}
use Rattle.sc_core.specs.declared.running.Phase.{Phase}
use Rattle.sc_core.specs.declared.running.Phase.TheVariants as phases
use Rattle.sc_core.specs.declared.running.Running.{Running}
use Rattle.sc_core.specs.declared.running.Shelved.{Shelved}

-- ---- what was handed out

-- the epoch in which the task set of an attempt began
abbrev pub born_of : DagData → AttemptId → Option ℕ
born_of d a = option_map (λ set. set.born) (set_of d a)

-- An input of an attempt that was handed out in an epoch, whose task set began in another one.
-- Where it lay, on an executor of the run, it was of no generation below the one that is seen there
-- now, unless an event came there since. Where it was missing, an event had come since the set
-- began.
abbrev pub IsInput : TrackerData → ℕ → ℕ → Location → Type 0
IsInput t born epoch (Here loc) =
    (loc.exec < length t.trust)
    × (((trust_of t loc.exec).seen ≤ loc.generation)
    ⊎ (is_marked (trust_of t loc.exec).mark epoch ≡ true))
IsInput t born epoch (Missing last) = born < epoch

-- what a running attempt was handed out with
pub record WasHandedOut (d : DagData) (h : HandOutData) : Type 0 where
  pub born : ℕ
  pub is_born : born_of d h.attempt ≡ Some born
  -- not before its task set began, and no later than now
  pub begun : born ≤ h.epoch
  pub past : h.epoch ≤ d.tracker.epoch
  pub inputs : All (IsInput d.tracker born h.epoch) h.inputs

-- an executor is one of the run, and wasn't told lost
pub record IsLive (t : TrackerData) (exec : ℕ) : Type 0 where
  pub there : exec < length t.trust
  pub live : (trust_of t exec).lost ≡ false

-- registered outputs lie on executors that are live
abbrev pub AreOnLive : TrackerData → Type 0
AreOnLive t = (block : BlockId) → IfSome (output_of t block).here (λ loc. IsLive t loc.exec)

-- somebody is live
abbrev pub HasLive : TrackerData → Type 0
HasLive t = (exec : ℕ) × IsLive t exec

-- ---- what runs

-- a running attempt runs in its task set too, on its executor, which is one of the run and isn't
-- lost
pub record RunsWell (c : CoreData) (r : Running) : Type 0 where
  pub in_set : runner_of c.dag r.hand_out.attempt ≡ Some r.exec
  pub there : r.exec < length c.dag.tracker.trust
  pub live : (trust_of c.dag.tracker r.exec).lost ≡ false
  pub handed_out : WasHandedOut c.dag r.hand_out

-- two running attempts are different ones, and where both are out on different executors
pub record AreTwo (q r : Running) : Type 0 where
  pub attempts : is_same q.hand_out.attempt r.hand_out.attempt ≡ false
  pub execs : q.is_out ≡ true → r.is_out ≡ true → q.exec ≢ r.exec

-- a job that runs goes on
pub record GoesOn (c : CoreData) : Type 0 where
  -- no stage is forgotten
  pub settled : IsSettled c.dag
  -- the result stage isn't complete, and goes on
  pub result : IsUnderWay c.dag (result_stage c.dag)

-- ---- the job

-- what runs, and how far the job is
pub record IsSoundJob (c : CoreData) : Type 0 where
  pub dag : IsSoundDag c.dag
  -- the last stage is the result stage, and all others of the job are map stages
  pub result : is_map (stage_at c.dag (result_stage c.dag)).target ≡ false
  pub maps : (s : ℕ) → s ≢ result_stage c.dag
      → (is_map (stage_at c.dag s).target ≡ true) ⊎ (stage_at c.dag s ≡ no_stage)
  -- what runs, runs in its task set, and what runs in a task set is known
  pub running : All (RunsWell c) c.running
  pub known : (a : AttemptId) (exec : ℕ) → runner_of c.dag a ≡ Some exec
      → running_of c a ≢ None
  -- what is registered lies on executors that are live
  pub placed : AreOnLive c.dag.tracker
  -- an executor has one attempt out
  pub apart : AllPairs AreTwo c.running
  -- no more was handed out than is allowed
  pub budget : c.handed ≤ c.dag.limits.hand_outs
  -- a job that runs goes on, and one that is done has all its results
  pub goes_on : job_runs c ≡ true → GoesOn c
  pub done : c.job ≡ jobs.Done → is_complete c.dag (result_stage c.dag) ≡ true

-- ---- what is to be told later

-- a task was handed out under a number
abbrev pub given_among : Option TaskData → ℕ → Bool
given_among None nth = false
given_among (Some task) nth = nat_lt nth task.given

abbrev pub given_in : Option TaskSetData → AttemptId → Bool
given_in None a = false
given_in (Some set) a = given_among (task_at a.partition set.tasks) a.nth

-- an attempt was handed out
abbrev pub was_given : DagData → AttemptId → Bool
was_given d a = given_in (set_of d a) a

-- a report of an attempt is to be told later
abbrev pub is_shelved : List Shelved → AttemptId → Bool
is_shelved shelf a = list_any (λ s. is_same s.attempt a) shelf

-- a running attempt of which this report is to be told isn't out, and the report fits it
pub record AwaitsTelling (c : CoreData) (s : Shelved) (r : Running) : Type 0 where
  pub is_in : r.is_out ≡ false
  pub fit : fits c r s.outcome ≡ true

-- a report that is to be told later
pub record IsShelvedWell (c : CoreData) (s : Shelved) : Type 0 where
  -- its key isn't given again
  pub below : s.key < c.next_key
  -- its attempt was handed out, so none that comes is of its numbers
  pub given : was_given c.dag s.attempt ≡ true
  -- its attempt, where it runs still, waits for it
  pub runs : All (λ r. is_of s.attempt r ≡ true → AwaitsTelling c s r) c.running

-- the reports that are to be told later
pub record IsSoundShelf (c : CoreData) : Type 0 where
  -- an attempt that runs is out, or its report is to be told later
  pub out : All (λ r. r.is_out ≡ false → is_shelved c.shelf r.hand_out.attempt ≡ true) c.running
  pub each : All (IsShelvedWell c) c.shelf
  pub rising : AllPairs (λ s t. s.key < t.key) c.shelf

-- ---- saving

-- an attempt holds the grant of its partition
abbrev pub has_grant : CoreData → AttemptId → Bool
has_grant c a = holds a (committer_at c.committers a.partition)

-- How far an attempt can have come that holds its grant or doesn't. One whose call on the files
-- failed may hold it still.
abbrev pub IsAsFar : Phase → Bool → Type 0
IsAsFar phases.Given granted = granted ≡ false
IsAsFar phases.Staged granted = granted ≡ false
IsAsFar phases.Granted granted = granted ≡ true
IsAsFar phases.Denied granted = granted ≡ false
IsAsFar phases.Moved granted = granted ≡ true
IsAsFar (phases.Faulted fault) granted = Unit {0}

-- a running attempt has come as far as its grant tells, and past its beginning only where it is one
-- of a save's result stage
pub record SavesWell (c : CoreData) (r : Running) : Type 0 where
  pub saver : r.phase ≢ phases.Given
      → (is_save c.committers ≡ true) × (r.hand_out.attempt.stage ≡ result_stage c.dag)
  pub far : IsAsFar r.phase (has_grant c r.hand_out.attempt)

-- who holds a grant runs, and is of the result stage
pub record HoldsWell (c : CoreData) (holder : AttemptId) : Type 0 where
  pub stage : holder.stage ≡ result_stage c.dag
  pub runs : running_of c holder ≢ None

-- who has won was handed out, is of the result stage, and runs no more
pub record HasWon (c : CoreData) (winner : AttemptId) : Type 0 where
  pub given : was_given c.dag winner ≡ true
  pub stage : winner.stage ≡ result_stage c.dag
  pub over : running_of c winner ≡ None

-- a live grant of the result stage has denied an attempt of a partition
abbrev pub is_denied_in : CoreData → ℕ → ℕ → Bool
is_denied_in c s p = (s == result_stage c.dag) && denies (committer_at c.committers p)

-- who may commit, in a job that runs
pub record IsSoundSave (c : CoreData) : Type 0 where
  pub commit : IsSoundCommit c.committers
  -- a save has a place for each result task
  pub places : is_save c.committers ≡ true
      → length c.committers ≡ (stage_at c.dag (result_stage c.dag)).tasks
  pub phases : All (SavesWell c) c.running
  pub holders : (p : ℕ) → IfSome (holder_of c.committers p) (HoldsWell c)
  pub winners : (p : ℕ) → IfSome (winner_of c.committers p) (HasWon c)
  -- a partition of a save has its result exactly where one has won, so where there is a grant it
  -- has none
  pub won : is_save c.committers ≡ true → (p : ℕ)
      → is_some (winner_of c.committers p) ≡ is_done c.dag (result_stage c.dag) p
  -- held back is exactly what a live grant denies
  pub mirrors : (s p : ℕ)
      → at_or (held_in (slice_get c.dag.states s)) p false ≡ is_denied_in c s p

-- ---- what was told

-- who was told lost was planned to be, and as many reports were told as come before that
abbrev pub AreLostAsPlanned : CoreData → Type 0
AreLostAsPlanned c =
    (exec : ℕ) → (trust_of c.dag.tracker exec).lost ≡ true
    → is_due_after (loss_of c.plan exec) c.told ≡ true

-- somebody is live, unless the job was aborted since nobody was
abbrev pub IsStaffed : CoreData → Type 0
IsStaffed c = c.job ≢ jobs.Aborted NoExecutor → HasLive c.dag.tracker

-- ---- between jobs

-- What a core leaves to the job behind it: of all that holds of a core, what that one's beginning
-- rests on.
pub record LeavesWell (c : CoreData) : Type 0 where
  pub tracker : IsSoundTracker c.dag.tracker
  -- what is registered lies on executors that are live
  pub placed : AreOnLive c.dag.tracker
  -- who was told lost was planned to be
  pub lost : AreLostAsPlanned c
  -- the count of what was told is within its type
  pub told : c.told < 2 ^ 64

-- ---- every core

pub record IsSoundCore (c : CoreData) : Type 0 where
  pub job : IsSoundJob c
  -- after the job's end nothing is told any more
  pub shelf : job_runs c ≡ true → IsSoundShelf c
  -- and who may commit isn't asked any more
  pub save : job_runs c ≡ true → IsSoundSave c
  pub lost : AreLostAsPlanned c
  -- the count of what was told is within its type
  pub told : c.told < 2 ^ 64
  pub staffed : IsStaffed c
