-- How a job ends by a report.
use Rattle.std.proofs.Common.{◌≡◌, ◌⊎◌, inl, inr, ◌&&◌, not, Bool, true, false, slice_get, ap}
use Rattle.sc_ids.specs.declared.attempts.AttemptId.{AttemptId}
use Rattle.sc_ids.specs.declared.failures.FailureCause.{FailureCause}
use Rattle.sc_ids.specs.declared.failures.FailureCause.TheVariants as causes
use Rattle.sc_commit.specs.declared.committers.Ending.TheVariants as endings
use Rattle.sc_taskset.specs.declared.tasks.Verdict.{Verdict}
use Rattle.sc_taskset.specs.declared.tasks.Verdict.TheVariants as verdicts
use Rattle.sc_tracker.specs.Trust.{is_newer}
use Rattle.sc_dag.specs.DagData.{DagData}
use Rattle.sc_dag.specs.Losses.{after_seen}
use Rattle.sc_dag.specs.Outputs.{is_complete}
use Rattle.sc_dag.specs.Reports.{is_of_newest, reaches_limit_in, result_success_of, set_of}
use Rattle.sc_dag.specs.declared.reports.Success.{Success}
use Rattle.sc_dag.specs.declared.reports.Success.TheVariants as successes
use Rattle.sc_core.specs.CoreData.{CoreData, with_dag}
use Rattle.sc_core.specs.Tells.{FailsBy, FailsOrAborts, IsGone, Misses, MissesIf, Tells, TellsFailure, TellsFailureIf, TellsResult, after_failure, after_result, done_if, is_zombie_in, limit_of, released, with_result_of}
use Rattle.sc_core.specs.declared.answers.Abort.{Abort}
use Rattle.sc_core.specs.declared.answers.Abort.TheVariants.{StageLimit}
use Rattle.sc_core.specs.declared.answers.Answer.{Answer}
use Rattle.sc_core.specs.declared.answers.Answer.TheVariants as says
use Rattle.sc_core.specs.declared.answers.JobState.TheVariants as jobs
use Rattle.sc_core.specs.declared.events.Outcome.{Outcome}
use Rattle.sc_core.specs.declared.events.Outcome.TheVariants as outcomes
use Rattle.sc_core.specs.declared.running.Running.{Running}

-- a job is aborted, and so it is answered
pub record Aborts (why : Abort) (answer : Answer) (after : CoreData) : Type 0 where
  pub answer_is : answer ≡ says.Aborted why
  pub job : after.job ≡ jobs.Aborted why

-- a job goes on as it was, is done, or is aborted for the failures of a task or of a stage
abbrev pub EndsBy : CoreData → AttemptId → Answer → CoreData → Type 0
EndsBy c a answer after =
    (after.job ≡ c.job)
    ⊎ ((after.job ≡ jobs.Done)
    ⊎ (Aborts (limit_of a) answer after ⊎ Aborts (StageLimit a.stage) answer after))

result_ends : (c after : CoreData) (r : Running) (answer : Answer) → TellsResult c r answer after
    → EndsBy c r.hand_out.attempt answer after
result_ends c after r answer (told, is) = by (result_success_of c.dag a) is
  where
    a : AttemptId
    a = r.hand_out.attempt

    next : CoreData
    next = with_result_of (released c r.hand_out.attempt endings.Succeeded) r.hand_out.attempt

    won : (b : Bool) → after ≡ done_if b next → EndsBy c a answer after
    won true e = inr (inl (ap (λ (x : CoreData). x.job) e))
    won false e = inl (ap (λ (x : CoreData). x.job) e)

    by : (s : Success) → after ≡ after_result s c a → EndsBy c a answer after
    by successes.Repeated e = inl (ap (λ (x : CoreData). x.job) e)
    by successes.Registered e = won (is_complete next.dag a.stage) e
    by successes.Bogus e = won (is_complete next.dag a.stage) e
    by successes.Finished e = won (is_complete next.dag a.stage) e

misses_ends : (c after : CoreData) (a : AttemptId) (answer : Answer) → Misses c a answer after
    → EndsBy c a answer after
misses_ends c after a answer miss =
    by (is_of_newest c.dag a && not (is_complete c.dag a.stage)) miss
  where
    verdict_ends : (verdict : Verdict) (d : DagData) → FailsOrAborts c a verdict d answer after
        → EndsBy c a answer after
    verdict_ends verdicts.Again d (told, is) = inl (ap (λ (x : CoreData). x.job) is)
    verdict_ends verdicts.Limit d (told, is) =
        inr (inr (inr (record { answer_is = told; job = ap (λ (x : CoreData). x.job) is })))

    by : (b : Bool) → MissesIf b c a answer after → EndsBy c a answer after
    by true (verdict, d, f, or) = verdict_ends verdict d or
    by false (told, is) = inl (ap (λ (x : CoreData). x.job) is)

cause_ends :
    (c after : CoreData) (a : AttemptId) (cause : FailureCause) (zombie : Bool) (answer : Answer)
    → FailsBy cause zombie c a answer after → EndsBy c a answer after
cause_ends c after a (causes.Gone exec wanted found) zombie answer h =
    by (is_newer (slice_get c.dag.tracker.trust exec) found) zombie h
  where
    by : (x y : Bool) → IsGone x y c a exec found answer after → EndsBy c a answer after
    by true y k = misses_ends (with_dag c (after_seen c.dag exec found)) after a answer k
    by false true (told, is) = inl (ap (λ (x : CoreData). x.job) is)
    by false false k = misses_ends c after a answer k
cause_ends c after a (causes.Metadata last) zombie answer h = misses_ends c after a answer h
cause_ends c after a causes.Planned zombie answer (told, is) =
    inl (ap (λ (x : CoreData). x.job) is)
cause_ends c after a (causes.Raised raise) zombie answer (told, is) =
    inl (ap (λ (x : CoreData). x.job) is)
cause_ends c after a (causes.Device fault) zombie answer (told, is) =
    inl (ap (λ (x : CoreData). x.job) is)
cause_ends c after a causes.Denied zombie answer (told, is) = inl (ap (λ (x : CoreData). x.job) is)

failure_ends : (c after : CoreData) (r : Running) (cause : FailureCause) (answer : Answer)
    → TellsFailure c r cause answer after → EndsBy c r.hand_out.attempt answer after
failure_ends c after r cause answer tells = by (reaches_limit_in (set_of c.dag a) a cause) tells
  where
    a : AttemptId
    a = r.hand_out.attempt

    by : (b : Bool) → TellsFailureIf b c a cause answer after → EndsBy c a answer after
    by true (told, is) =
        inr (inr (inl (record { answer_is = told; job = ap (λ (x : CoreData). x.job) is })))
    by false h =
        cause_ends (after_failure c a cause) after a cause (is_zombie_in (set_of c.dag a)) answer h

-- a report that is told
pub tells_ends :
    (c after : CoreData) (r : Running) (outcome : Outcome) (answer : Answer)
    → Tells c r outcome answer after → EndsBy c r.hand_out.attempt answer after
tells_ends c after r (outcomes.Map loc) answer (next, up, told, is) =
    inl (ap (λ (x : CoreData). x.job) is)
tells_ends c after r outcomes.Result answer h = result_ends c after r answer h
tells_ends c after r (outcomes.Failed cause) answer h = failure_ends c after r cause answer h
