-- Only a result makes a job done.
use Rattle.std.proofs.Common.{◌≡◌, ◌∙◌, ◌&&◌, Bool, true, false, not, true≢false, slice_get, ap, sym}
use Rattle.sc_ids.specs.declared.attempts.AttemptId.{AttemptId}
use Rattle.sc_ids.specs.declared.failures.FailureCause.{FailureCause}
use Rattle.sc_ids.specs.declared.failures.FailureCause.TheVariants as causes
use Rattle.sc_taskset.specs.declared.tasks.Verdict.{Verdict}
use Rattle.sc_taskset.specs.declared.tasks.Verdict.TheVariants as verdicts
use Rattle.sc_tracker.specs.Trust.{is_newer}
use Rattle.sc_dag.specs.DagData.{DagData}
use Rattle.sc_dag.specs.Losses.{after_seen}
use Rattle.sc_dag.specs.Outputs.{is_complete}
use Rattle.sc_dag.specs.Reports.{is_of_newest, reaches_limit_in, set_of}
use Rattle.sc_core.specs.CoreData.{CoreData, is_running_job, job_runs, with_dag}
use Rattle.sc_core.specs.Tells.{FailsBy, FailsOrAborts, IsGone, Misses, MissesIf, TellsFailure, TellsFailureIf, after_failure, is_zombie_in}
use Rattle.sc_core.specs.declared.answers.Abort.{Abort}
use Rattle.sc_core.specs.declared.answers.Answer.{Answer}
use Rattle.sc_core.specs.declared.answers.JobState.{JobState}
use Rattle.sc_core.specs.declared.answers.JobState.TheVariants as jobs
use Rattle.sc_core.specs.declared.running.Running.{Running}

-- the state of a job is another one than done
is_done_job : JobState → Bool
is_done_job jobs.Done = true
is_done_job job = false

pub aborted_undone : (job : JobState) (why : Abort) → job ≡ jobs.Aborted why → job ≡ jobs.Done → ⊥
unfolding is_done_job
aborted_undone job why aborted done = true≢false (ap is_done_job (sym done ∙ aborted))

pub running_undone : (job : JobState) → job ≡ jobs.Running → job ≡ jobs.Done → ⊥
unfolding is_done_job
running_undone job running done = true≢false (ap is_done_job (sym done ∙ running))

pub running_unaborted : (job : JobState) (why : Abort) → job ≡ jobs.Running
    → job ≡ jobs.Aborted why → ⊥
running_unaborted job why running aborted =
    true≢false (sym (ap is_running_job running) ∙ ap is_running_job aborted)

-- a job that runs isn't done where it is as it was
pub still_runs : (c after : CoreData) → job_runs c ≡ true → after.job ≡ c.job
    → after.job ≡ jobs.Done → ⊥
still_runs c after runs job done = true≢false (sym runs ∙ ap is_running_job (sym job ∙ done))

-- ---- failures

-- it is done only where it was
abbrev DoneBefore : CoreData → CoreData → Type 0
DoneBefore c after = after.job ≡ jobs.Done → c.job ≡ jobs.Done

as_before : (c after : CoreData) → after.job ≡ c.job → DoneBefore c after
as_before c after same done = sym same ∙ done

misses_before : (c after : CoreData) (a : AttemptId) (answer : Answer) → Misses c a answer after
    → DoneBefore c after
misses_before c after a answer miss =
    by (is_of_newest c.dag a && not (is_complete c.dag a.stage)) miss
  where
    verdict_before : (verdict : Verdict) (d : DagData) → FailsOrAborts c a verdict d answer after
        → DoneBefore c after
    verdict_before verdicts.Again d (told, is) =
        as_before c after (ap (λ (x : CoreData). x.job) is)
    verdict_before verdicts.Limit d (told, is) =
        λ done. absurd (aborted_undone after.job _ (ap (λ (x : CoreData). x.job) is) done)

    by : (b : Bool) → MissesIf b c a answer after → DoneBefore c after
    by true (verdict, d, f, or) = verdict_before verdict d or
    by false (told, is) = as_before c after (ap (λ (x : CoreData). x.job) is)

cause_before :
    (c after : CoreData) (a : AttemptId) (cause : FailureCause) (zombie : Bool) (answer : Answer)
    → FailsBy cause zombie c a answer after → DoneBefore c after
cause_before c after a (causes.Gone exec wanted found) zombie answer h =
    by (is_newer (slice_get c.dag.tracker.trust exec) found) zombie h
  where
    by : (x y : Bool) → IsGone x y c a exec found answer after → DoneBefore c after
    by true y k = misses_before (with_dag c (after_seen c.dag exec found)) after a answer k
    by false true (told, is) = as_before c after (ap (λ (x : CoreData). x.job) is)
    by false false k = misses_before c after a answer k
cause_before c after a (causes.Metadata last) zombie answer h = misses_before c after a answer h
cause_before c after a causes.Planned zombie answer (told, is) =
    as_before c after (ap (λ (x : CoreData). x.job) is)
cause_before c after a (causes.Raised raise) zombie answer (told, is) =
    as_before c after (ap (λ (x : CoreData). x.job) is)
cause_before c after a (causes.Device fault) zombie answer (told, is) =
    as_before c after (ap (λ (x : CoreData). x.job) is)
cause_before c after a causes.Denied zombie answer (told, is) =
    as_before c after (ap (λ (x : CoreData). x.job) is)

-- so a failure that is told leaves no job done
pub failure_undone : (c after : CoreData) (r : Running) (cause : FailureCause) (answer : Answer)
    → TellsFailure c r cause answer after → DoneBefore c after
failure_undone c after r cause answer tells =
    by (reaches_limit_in (set_of c.dag r.hand_out.attempt) r.hand_out.attempt cause) tells
  where
    a : AttemptId
    a = r.hand_out.attempt

    by : (b : Bool) → TellsFailureIf b c a cause answer after → DoneBefore c after
    by true (told, is) =
        λ done. absurd (aborted_undone after.job _ (ap (λ (x : CoreData). x.job) is) done)
    by false h =
        cause_before (after_failure c a cause) after a cause (is_zombie_in (set_of c.dag a)) answer
        h
