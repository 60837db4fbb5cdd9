-- What a report is answered that is told to the core, and what that leaves.
use Rattle.std.specs.Prelude.{ℕ, ◌≡◌, ◌&&◌, not, Bool, true, false, Option, Some, None, if◌then◌else◌, slice_get}
use Rattle.sc_commit.specs.Committers.{committer_at}
use Rattle.sc_commit.specs.Committing.{after_end, holds}
use Rattle.sc_commit.specs.declared.committers.Ending.{Ending}
use Rattle.sc_commit.specs.declared.committers.Ending.TheVariants as endings
use Rattle.sc_dag.specs.DagData.{DagData}
use Rattle.sc_dag.specs.Losses.{after_seen}
use Rattle.sc_dag.specs.Outputs.{is_complete}
use Rattle.sc_dag.specs.Reports.{CompletesMap, FailsStage, after_failed, after_hold, after_map_success, after_result_success, is_finished_short, is_of_newest, map_success_of, reaches_limit_in, result_success_of, set_of}
use Rattle.sc_dag.specs.Submission.{IsSubmitted, this_stage}
use Rattle.sc_dag.specs.declared.reports.Success.{Success}
use Rattle.sc_dag.specs.declared.reports.Success.TheVariants as successes
use Rattle.sc_ids.specs.declared.attempts.AttemptId.{AttemptId}
use Rattle.sc_ids.specs.declared.blocks.Loc.{Loc}
use Rattle.sc_ids.specs.declared.failures.FailureCause.{FailureCause}
use Rattle.sc_ids.specs.declared.failures.FailureCause.TheVariants as causes
use Rattle.sc_taskset.specs.TaskSetData.{TaskSetData}
use Rattle.sc_taskset.specs.declared.tasks.Verdict.{Verdict}
use Rattle.sc_taskset.specs.declared.tasks.Verdict.TheVariants as verdicts
use Rattle.sc_tracker.specs.Trust.{is_newer}
use Rattle.sc_core.specs.CoreData.{CoreData, ended, taken_off, told_once, with_dag}
use Rattle.sc_core.specs.declared.answers.Abort.{Abort}
use Rattle.sc_core.specs.declared.answers.Abort.TheVariants.{StageLimit, TaskLimit}
use Rattle.sc_core.specs.declared.answers.Answer.{Answer}
use Rattle.sc_core.specs.declared.answers.Answer.TheVariants as says
use Rattle.sc_core.specs.declared.answers.JobState.TheVariants as jobs
use Rattle.sc_core.specs.declared.events.Outcome.{Outcome}
use Rattle.sc_core.specs.declared.events.Outcome.TheVariants as outcomes
use Rattle.sc_core.specs.declared.running.Running.{Running}

-- the answer to a success
abbrev pub success_answer : Success → Answer
success_answer successes.Repeated = says.Repeated
success_answer successes.Registered = says.Registered
success_answer successes.Bogus = says.Bogus
success_answer successes.Finished = says.Finished

-- ---- a map success

-- A stage is looked at after a map success, which left it complete or not, and finished short or
-- not: a complete one is told so, and one that is finished short of outputs is submitted again.
abbrev pub LooksAgain : Bool → Bool → DagData → ℕ → DagData → Type 0
LooksAgain true short mid s after = CompletesMap mid s after
LooksAgain false true mid s after = IsSubmitted mid (this_stage s) after
LooksAgain false false mid s after = after ≡ mid

-- a repeated success looks at nothing
abbrev pub FollowsUp : Success → DagData → ℕ → DagData → Type 0
FollowsUp successes.Repeated mid s after = after ≡ mid
FollowsUp success mid s after =
    LooksAgain (is_complete mid s) (is_finished_short mid s) mid s after

abbrev pub TellsMap : CoreData → Running → Loc → Answer → CoreData → Type 0
TellsMap c r loc answer after =
    (dag : DagData)
    × FollowsUp (map_success_of c.dag r.hand_out.attempt loc r.hand_out.epoch)
    (after_map_success c.dag r.hand_out.attempt loc r.hand_out.epoch c.now)
    r.hand_out.attempt.stage dag
    × (answer ≡ success_answer (map_success_of c.dag r.hand_out.attempt loc r.hand_out.epoch))
    × (after ≡ with_dag c dag)

-- ---- grants

-- an attempt has ended: a grant that it held is freed, and its partition no longer held back
abbrev pub released : CoreData → AttemptId → Ending → CoreData
released c a how =
    record c {
      committers = after_end c.committers a how;
      dag = if holds a (committer_at c.committers a.partition)
          then after_hold c.dag a.stage a.partition false else c.dag;
    }

-- ---- a result

-- a job whose result stage is complete is done
abbrev pub done_if : Bool → CoreData → CoreData
done_if true c = ended c jobs.Done
done_if false c = c

abbrev pub with_result_of : CoreData → AttemptId → CoreData
with_result_of c a = with_dag c (after_result_success c.dag a c.now)

abbrev pub after_result : Success → CoreData → AttemptId → CoreData
after_result successes.Repeated c a = with_result_of c a
after_result success c a =
    let next = with_result_of (released c a endings.Succeeded) a in
    done_if (is_complete next.dag a.stage) next

abbrev pub TellsResult : CoreData → Running → Answer → CoreData → Type 0
TellsResult c r answer after =
    (answer ≡ success_answer (result_success_of c.dag r.hand_out.attempt))
    × (after ≡ after_result (result_success_of c.dag r.hand_out.attempt) c r.hand_out.attempt)

-- ---- a failure

abbrev pub is_zombie_in : Option TaskSetData → Bool
is_zombie_in None = true
is_zombie_in (Some set) = set.is_zombie

-- what every failure leaves
abbrev pub after_failure : CoreData → AttemptId → FailureCause → CoreData
after_failure c a cause = released (with_dag c (after_failed c.dag a cause)) a endings.Failed

abbrev pub limit_of : AttemptId → Abort
limit_of a = TaskLimit a.stage a.stage_attempt a.partition

-- What becomes of the stage of an attempt that misses an input, where it is the newest attempt of
-- a stage that isn't complete: it has failed, and is submitted again or aborts the job.
abbrev pub FailsOrAborts : CoreData → AttemptId → Verdict → DagData → Answer → CoreData → Type 0
FailsOrAborts c a verdicts.Again dag answer after =
    (answer ≡ says.Resubmitted) × (after ≡ with_dag c dag)
FailsOrAborts c a verdicts.Limit dag answer after =
    (answer ≡ says.Aborted (StageLimit a.stage))
    × (after ≡ ended (with_dag c dag) (jobs.Aborted (StageLimit a.stage)))

abbrev pub MissesIf : Bool → CoreData → AttemptId → Answer → CoreData → Type 0
MissesIf true c a answer after =
    (verdict : Verdict) × (dag : DagData)
    × FailsStage c.dag a.stage a.stage_attempt verdict dag
    × FailsOrAborts c a verdict dag answer after
MissesIf false c a answer after = (answer ≡ says.Again) × (after ≡ c)

abbrev pub Misses : CoreData → AttemptId → Answer → CoreData → Type 0
Misses c a answer after =
    MissesIf (is_of_newest c.dag a && not (is_complete c.dag a.stage)) c a answer after

-- A fetch found a newer generation than it was sent to. Where it is newer than all that was seen,
-- the outputs there are forgotten. Where it isn't, it tells nothing to a zombie.
abbrev pub IsGone : Bool → Bool → CoreData → AttemptId → ℕ → ℕ → Answer → CoreData → Type 0
IsGone true zombie c a exec found answer after =
    Misses (with_dag c (after_seen c.dag exec found)) a answer after
IsGone false true c a exec found answer after = (answer ≡ says.Again) × (after ≡ c)
IsGone false false c a exec found answer after = Misses c a answer after

-- what the cause brings about, where the failure isn't the last that is allowed
abbrev pub FailsBy : FailureCause → Bool → CoreData → AttemptId → Answer → CoreData → Type 0
FailsBy (causes.Gone exec wanted found) zombie c a answer after =
    IsGone (is_newer (slice_get c.dag.tracker.trust exec) found) zombie c a exec found answer after
FailsBy (causes.Metadata last) zombie c a answer after = Misses c a answer after
FailsBy cause zombie c a answer after = (answer ≡ says.Again) × (after ≡ c)

abbrev pub TellsFailureIf : Bool → CoreData → AttemptId → FailureCause → Answer → CoreData → Type 0
TellsFailureIf true c a cause answer after =
    (answer ≡ says.Aborted (limit_of a))
    × (after ≡ ended (after_failure c a cause) (jobs.Aborted (limit_of a)))
TellsFailureIf false c a cause answer after =
    FailsBy cause (is_zombie_in (set_of c.dag a)) (after_failure c a cause) a answer after

abbrev pub TellsFailure : CoreData → Running → FailureCause → Answer → CoreData → Type 0
TellsFailure c r cause answer after =
    TellsFailureIf (reaches_limit_in (set_of c.dag r.hand_out.attempt) r.hand_out.attempt cause)
    c r.hand_out.attempt cause answer after

-- ---- any report

-- a report of an attempt that ran, and runs no more in this state
abbrev pub Tells : CoreData → Running → Outcome → Answer → CoreData → Type 0
Tells c r (outcomes.Map loc) answer after = TellsMap c r loc answer after
Tells c r outcomes.Result answer after = TellsResult c r answer after
Tells c r (outcomes.Failed cause) answer after = TellsFailure c r cause answer after

-- a report of an attempt that may run is told to it: of one that doesn't it is counted alone
abbrev pub TellsTo :
    Option Running → CoreData → AttemptId → Outcome → Answer → CoreData → Type 0
TellsTo None c a outcome answer after = (answer ≡ says.Ignored) × (after ≡ told_once c)
TellsTo (Some r) c a outcome answer after = Tells (taken_off c a) r outcome answer after
