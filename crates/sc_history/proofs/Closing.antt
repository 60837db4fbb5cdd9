-- What a job that is aborted for the failed attempts of a stage leaves of it.
use Rattle.std.proofs.Common.{◌≡◌, ◌⊎◌, inl, inr, ℕ, ◌&&◌, not, Bool, true, false, slice_get, refl, ap, sym, subst, ◌∙◌, rules}
use Rattle.sc_ids.specs.declared.attempts.AttemptId.{AttemptId}
use Rattle.sc_ids.specs.declared.failures.FailureCause.{FailureCause}
use Rattle.sc_ids.specs.declared.failures.FailureCause.TheVariants as causes
use Rattle.sc_taskset.specs.declared.tasks.Verdict.{Verdict}
use Rattle.sc_taskset.specs.declared.tasks.Verdict.TheVariants as verdicts
use Rattle.sc_tracker.specs.Trust.{is_newer}
use Rattle.sc_dag.specs.DagData.{DagData, with_state}
use Rattle.sc_dag.specs.Losses.{after_seen}
use Rattle.sc_dag.specs.Outputs.{is_complete}
use Rattle.sc_dag.specs.Reports.{FailsStage, has_failed_often, is_of_newest, reaches_limit_in, result_success_of, set_of, with_failed}
use Rattle.sc_dag.specs.declared.reports.Success.{Success}
use Rattle.sc_dag.specs.declared.reports.Success.TheVariants as successes
use Rattle.sc_dag.proofs.Calm.{complete_with}
use Rattle.sc_dag.proofs.Tests.{both_right, clash, not_true}
use Rattle.sc_commit.specs.declared.committers.Ending.TheVariants as endings
use Rattle.sc_core.specs.CoreData.{CoreData, is_running_job, job_runs, with_dag}
use Rattle.sc_core.specs.Posts.{PostsIf}
use Rattle.sc_core.specs.Releases.{ReleasesIf}
use Rattle.sc_core.specs.Steps.{Steps}
use Rattle.sc_core.specs.Tells.{FailsBy, FailsOrAborts, IsGone, Misses, MissesIf, Tells, TellsFailureIf, after_failure, after_result, done_if, is_zombie_in, released, with_result_of}
use Rattle.sc_core.specs.declared.answers.Abort.TheVariants.{StageLimit}
use Rattle.sc_core.specs.declared.answers.Abort.TheVariants as aborts
use Rattle.sc_core.specs.declared.answers.Answer.{Answer}
use Rattle.sc_core.specs.declared.answers.JobState.TheVariants as jobs
use Rattle.sc_core.specs.declared.events.Event.{Event}
use Rattle.sc_core.specs.declared.events.Event.TheVariants.{Post, Release, Side, Take, TellLost}
use Rattle.sc_core.specs.declared.events.Outcome.{Outcome}
use Rattle.sc_core.specs.declared.events.Outcome.TheVariants as outcomes
use Rattle.sc_core.specs.declared.running.Running.{Running}
use Rattle.sc_history.proofs.Events.{Comes, losses_come, posts_come, releases_come, sides_come}
use Rattle.sc_core.proofs.SideCases.{ended_aside}
use Rattle.sc_core.proofs.TakeCases.{TakesSo, takes_so}

-- a stage isn't complete, and failed as often as is allowed
pub record IsClosed (d : DagData) (s : ℕ) : Type 0 where
  pub lacks : is_complete d s ≡ false
  pub often : has_failed_often d s ≡ true

-- the stage for which a job was aborted
abbrev pub HasClosed : CoreData → Type 0
HasClosed c = (s : ℕ) → c.job ≡ jobs.Aborted (StageLimit s) → IsClosed c.dag s

-- a job that runs isn't aborted
runs_on : (c after : CoreData) → job_runs c ≡ true → after.job ≡ c.job → HasClosed after
runs_on c after runs same s e = absurd (search (rules, runs, same, e))

misses_close : (c after : CoreData) (a : AttemptId) (answer : Answer) → job_runs c ≡ true
    → Misses c a answer after → HasClosed after
misses_close c after a answer runs miss =
    by (is_of_newest c.dag a && not (is_complete c.dag a.stage)) refl miss
  where
    marked : DagData
    marked = with_state c.dag a.stage (with_failed a.stage_attempt)

    closed : (is_of_newest c.dag a && not (is_complete c.dag a.stage)) ≡ true
        → has_failed_often (with_state c.dag a.stage (with_failed a.stage_attempt)) a.stage ≡ true
        → IsClosed (with_state c.dag a.stage (with_failed a.stage_attempt)) a.stage
    closed e often =
        record {
          lacks = complete_with c.dag a.stage a.stage (with_failed a.stage_attempt) (λ state. refl)
              ∙ not_true (is_complete c.dag a.stage) (both_right (is_of_newest c.dag a) _ e);
          often = often;
        }

    verdict_closes : (verdict : Verdict) (d : DagData)
        → (is_of_newest c.dag a && not (is_complete c.dag a.stage)) ≡ true
        → FailsStage c.dag a.stage a.stage_attempt verdict d
        → FailsOrAborts c a verdict d answer after → HasClosed after
    verdict_closes verdicts.Again d e f (told, is) =
        runs_on c after runs (ap (λ (x : CoreData). x.job) is)
    verdict_closes verdicts.Limit d e (often, same) (told, is) =
        λ s j.
        (let job = ap (λ (x : CoreData). x.job) is in
        let at : s ≡ a.stage = search (rules, job, j) in
        subst (λ (x : DagData). IsClosed x s)
        (sym (ap (λ (x : CoreData). x.dag) is ∙ same))
        (subst (λ (r : ℕ). IsClosed marked r) (sym at) (closed e often)))

    by : (b : Bool) → (is_of_newest c.dag a && not (is_complete c.dag a.stage)) ≡ b
        → MissesIf b c a answer after → HasClosed after
    by true e (verdict, d, f, or) = verdict_closes verdict d e f or
    by false e (told, is) = runs_on c after runs (ap (λ (x : CoreData). x.job) is)

failures_close : (b : Bool) (c after : CoreData) (a : AttemptId) (cause : FailureCause)
    (answer : Answer) → job_runs c ≡ true → TellsFailureIf b c a cause answer after
    → HasClosed after
failures_close b c after a cause answer runs h = by b h
  where
    failed : CoreData
    failed = after_failure c a cause

    gone : (exec found : ℕ) (x y : Bool) → IsGone x y failed a exec found answer after
        → HasClosed after
    gone exec found true y k =
        misses_close (with_dag failed (after_seen failed.dag exec found)) after a answer runs k
    gone exec found false true (told, is) =
        runs_on c after runs (ap (λ (x : CoreData). x.job) is)
    gone exec found false false k = misses_close failed after a answer runs k

    caused : (cause : FailureCause) (zombie : Bool) → FailsBy cause zombie failed a answer after
        → HasClosed after
    caused (causes.Gone exec wanted found) zombie k =
        gone exec found (is_newer (slice_get failed.dag.tracker.trust exec) found) zombie k
    caused (causes.Metadata last) zombie k = misses_close failed after a answer runs k
    caused causes.Planned zombie (told, is) = runs_on c after runs (ap (λ (x : CoreData). x.job) is)
    caused (causes.Raised raise) zombie (told, is) =
        runs_on c after runs (ap (λ (x : CoreData). x.job) is)
    caused (causes.Device fault) zombie (told, is) =
        runs_on c after runs (ap (λ (x : CoreData). x.job) is)
    caused causes.Denied zombie (told, is) = runs_on c after runs (ap (λ (x : CoreData). x.job) is)

    by : (b : Bool) → TellsFailureIf b c a cause answer after → HasClosed after
    by true (told, is) =
        λ s j. absurd (let job = ap (λ (x : CoreData). x.job) is in search (rules, job, j))
    by false k = caused cause (is_zombie_in (set_of c.dag a)) k

tells_close : (c after : CoreData) (r : Running) (outcome : Outcome) (answer : Answer)
    → job_runs c ≡ true → Tells c r outcome answer after → HasClosed after
tells_close c after r (outcomes.Map loc) answer runs (next, up, told, is) =
    runs_on c after runs (ap (λ (x : CoreData). x.job) is)
tells_close c after r outcomes.Result answer runs (told, is) =
    by (result_success_of c.dag r.hand_out.attempt) is
  where
    next : CoreData
    next = with_result_of (released c r.hand_out.attempt endings.Succeeded) r.hand_out.attempt

    won : (b : Bool) → after ≡ done_if b next → HasClosed after
    won true e =
        λ s j. absurd (let job = ap (λ (x : CoreData). x.job) e in search (rules, job, j))
    won false e = runs_on c after runs (ap (λ (x : CoreData). x.job) e)

    by : (s : Success) → after ≡ after_result s c r.hand_out.attempt → HasClosed after
    by successes.Repeated e = runs_on c after runs (ap (λ (x : CoreData). x.job) e)
    by successes.Registered e = won (is_complete next.dag r.hand_out.attempt.stage) e
    by successes.Bogus e = won (is_complete next.dag r.hand_out.attempt.stage) e
    by successes.Finished e = won (is_complete next.dag r.hand_out.attempt.stage) e
tells_close c after r (outcomes.Failed cause) answer runs h =
    failures_close
    (reaches_limit_in (set_of c.dag r.hand_out.attempt) r.hand_out.attempt cause) c after
    r.hand_out.attempt cause answer runs h

-- ---- events

-- once a job has ended nothing changes
pub ended_stays : (c after : CoreData) (event : Event) (answer : Answer) → job_runs c ≡ false
    → Steps c event answer after → after ≡ c
ended_stays c after (Take exec) answer ended step = by (takes_so c after exec answer step)
  where
    never : job_runs c ≡ true → after ≡ c
    never runs = absurd (search (rules, runs, ended))

    by : TakesSo c after exec answer → after ≡ c
    by (inl t) = never t.asking.runs
    by (inr (inl b)) = never b.asking.runs
    by (inr (inr same)) = same.is
ended_stays c after (Post a outcome) answer ended step = by (job_runs c) ended step
  where
    by : (b : Bool) → b ≡ false → PostsIf b c a outcome answer after → after ≡ c
    by false e (told, is) = is
    by true e h = absurd (search (rules, e))
ended_stays c after (Release key) answer ended step = by (job_runs c) ended step
  where
    by : (b : Bool) → b ≡ false → ReleasesIf b c key answer after → after ≡ c
    by false e (told, is) = is
    by true e h = absurd (search (rules, e))
ended_stays c after (Side event) answer ended step = ended_aside c after event answer ended step
ended_stays c after (TellLost exec) answer ended step =
    absurd (clash (losses_come c after exec answer step).runs ended)

comes_close : (c after : CoreData) (event : Event) (answer : Answer) → job_runs c ≡ true
    → Comes c after event answer → HasClosed after
comes_close c after event answer runs (inl q) = runs_on c after runs q.job
comes_close c after event answer runs (inr h) =
    tells_close h.mid after h.one h.outcome answer (ap is_running_job h.job ∙ runs) h.tells

running_closes : (c after : CoreData) (event : Event) (answer : Answer) → job_runs c ≡ true
    → Steps c event answer after → HasClosed after
running_closes c after (Take exec) answer runs step = by (takes_so c after exec answer step)
  where
    by : TakesSo c after exec answer → HasClosed after
    by (inl t) = runs_on c after runs (ap (λ (x : CoreData). x.job) t.is)
    by (inr (inl b)) =
        λ s j. absurd (let job = ap (λ (x : CoreData). x.job) b.is in search (rules, job, j))
    by (inr (inr same)) = runs_on c after runs (ap (λ (x : CoreData). x.job) same.is)
running_closes c after (Post a outcome) answer runs step =
    comes_close c after (Post a outcome) answer runs (posts_come c after a outcome answer step)
running_closes c after (Release key) answer runs step =
    comes_close c after (Release key) answer runs (releases_come c after key answer step)
running_closes c after (Side event) answer runs step =
    comes_close c after (Side event) answer runs (sides_come c after event answer step)
running_closes c after (TellLost exec) answer runs step =
    by (losses_come c after exec answer step).job
  where
    by : (after.job ≡ c.job) ⊎ (after.job ≡ jobs.Aborted aborts.NoExecutor) → HasClosed after
    by (inl same) = runs_on c after runs same
    by (inr none) = λ s j. absurd (search (rules, none, j))

pub steps_close : (c after : CoreData) (event : Event) (answer : Answer)
    → Steps c event answer after → HasClosed c → HasClosed after
steps_close c after event answer step closed = by (job_runs c) refl
  where
    by : (b : Bool) → job_runs c ≡ b → HasClosed after
    by true e = running_closes c after event answer e step
    by false e = subst (λ x. HasClosed x) (sym (ended_stays c after event answer e step)) closed
