-- A job is aborted only for what its answer says.
use Rattle.std.proofs.Common.{◌≡◌, ◌≢◌, ℕ, ◌&&◌, not, Bool, true, false, Option, Some, None, slice_get, refl, ap, sym, subst, ◌∙◌, rules}
use Rattle.sc_ids.specs.declared.attempts.AttemptId.{AttemptId}
use Rattle.sc_ids.specs.declared.failures.FailureCause.{FailureCause}
use Rattle.sc_ids.specs.declared.failures.FailureCause.TheVariants as causes
use Rattle.sc_taskset.specs.declared.tasks.Verdict.{Verdict}
use Rattle.sc_taskset.specs.declared.tasks.Verdict.TheVariants as verdicts
use Rattle.sc_tracker.specs.Trust.{are_lost, is_newer}
use Rattle.sc_dag.specs.DagData.{DagData}
use Rattle.sc_dag.specs.Losses.{after_seen}
use Rattle.sc_dag.specs.Outputs.{is_complete}
use Rattle.sc_dag.specs.Reports.{FailsStage, has_failed_often, is_of_newest, map_success_of, reaches_limit_in, result_success_of, set_of}
use Rattle.sc_dag.specs.declared.reports.Success.{Success}
use Rattle.sc_dag.specs.declared.reports.Success.TheVariants as successes
use Rattle.sc_core.specs.CoreData.{CoreData, job_runs, running_of, shelved_if, shelved_of, with_dag, without_shelved, taken_off}
use Rattle.sc_core.specs.Laws.{NoExecutorsAreLeft, StageLimitsAreReached}
use Rattle.sc_core.specs.Losses.{LosesOrAborts, without_executor}
use Rattle.sc_core.specs.Posts.{PostsBy, PostsIf, PostsOf, comes_twice, delay_for}
use Rattle.sc_core.specs.Releases.{ReleasesIf, ReleasesOf}
use Rattle.sc_core.specs.Steps.{Steps}
use Rattle.sc_core.specs.Tells.{FailsBy, FailsOrAborts, IsGone, Misses, MissesIf, Tells, TellsFailureIf, TellsTo, after_failure, is_zombie_in, limit_of, success_answer}
use Rattle.sc_core.specs.declared.answers.Abort.{Abort}
use Rattle.sc_core.specs.declared.answers.Abort.TheVariants as aborts
use Rattle.sc_core.specs.declared.answers.Answer.TheVariants as says
use Rattle.sc_core.specs.declared.events.Event.{Event}
use Rattle.sc_core.specs.declared.events.Event.TheVariants.{Post, Release, Side, Take, TellLost}
use Rattle.sc_core.specs.declared.events.Outcome.{Outcome}
use Rattle.sc_core.specs.declared.events.Outcome.TheVariants as outcomes
use Rattle.sc_core.specs.declared.running.Running.{Running}
use Rattle.sc_core.specs.declared.running.Shelved.{Shelved}

-- what a job that is aborted shows
abbrev EndsAs : Abort → DagData → Type 0
EndsAs (aborts.TaskLimit stage number p) d = Unit {0}
EndsAs (aborts.StageLimit stage) d = has_failed_often d stage ≡ true
EndsAs aborts.NoExecutor d = are_lost d.tracker.trust ≡ true
EndsAs aborts.Budget d = Unit {0}

no_success : (s : Success) (why : Abort) → says.Aborted why ≢ success_answer s
no_success successes.Repeated why e = search (rules, e)
no_success successes.Registered why e = search (rules, e)
no_success successes.Bogus why e = search (rules, e)
no_success successes.Finished why e = search (rules, e)

misses_end : (c after : CoreData) (a : AttemptId) (why : Abort)
    → Misses c a (says.Aborted why) after → EndsAs why after.dag
misses_end c after a why miss =
    by (is_of_newest c.dag a && not (is_complete c.dag a.stage)) miss
  where
    verdict_of : (verdict : Verdict) (d : DagData)
        → FailsStage c.dag a.stage a.stage_attempt verdict d
        → FailsOrAborts c a verdict d (says.Aborted why) after → EndsAs why after.dag
    verdict_of verdicts.Limit d (often, is) (e, left) =
        let same : why ≡ aborts.StageLimit a.stage = search (rules, e) in
        subst (λ w. EndsAs w after.dag) (sym same)
        (ap (λ (x : CoreData). has_failed_often x.dag a.stage) left
        ∙ ap (λ (x : DagData). has_failed_often x a.stage) is ∙ often)
    verdict_of verdicts.Again d f (e, is) = absurd (search (rules, e))

    by : (b : Bool) → MissesIf b c a (says.Aborted why) after → EndsAs why after.dag
    by true (verdict, d, f, or) = verdict_of verdict d f or
    by false (e, is) = absurd (search (rules, e))

causes_end : (c after : CoreData) (a : AttemptId) (cause : FailureCause) (zombie : Bool)
    (why : Abort) → FailsBy cause zombie c a (says.Aborted why) after → EndsAs why after.dag
causes_end c after a (causes.Gone exec wanted found) zombie why h =
    by (is_newer (slice_get c.dag.tracker.trust exec) found) zombie h
  where
    by : (x y : Bool) → IsGone x y c a exec found (says.Aborted why) after → EndsAs why after.dag
    by true y k = misses_end (with_dag c (after_seen c.dag exec found)) after a why k
    by false true (e, is) = absurd (search (rules, e))
    by false false k = misses_end c after a why k
causes_end c after a (causes.Metadata last) zombie why h = misses_end c after a why h
causes_end c after a causes.Planned zombie why (e, is) = absurd (search (rules, e))
causes_end c after a (causes.Raised raise) zombie why (e, is) = absurd (search (rules, e))
causes_end c after a (causes.Device fault) zombie why (e, is) = absurd (search (rules, e))
causes_end c after a causes.Denied zombie why (e, is) = absurd (search (rules, e))

tells_end : (m after : CoreData) (r : Running) (outcome : Outcome) (why : Abort)
    → Tells m r outcome (says.Aborted why) after → EndsAs why after.dag
tells_end m after r (outcomes.Map loc) why (next, up, e, is) =
    absurd (no_success (map_success_of m.dag r.hand_out.attempt loc r.hand_out.epoch) why e)
tells_end m after r outcomes.Result why (e, is) =
    absurd (no_success (result_success_of m.dag r.hand_out.attempt) why e)
tells_end m after r (outcomes.Failed cause) why told =
    by (reaches_limit_in (set_of m.dag a) a cause) told
  where
    a : AttemptId
    a = r.hand_out.attempt

    by : (b : Bool) → TellsFailureIf b m a cause (says.Aborted why) after → EndsAs why after.dag
    by true (e, is) =
        let same : why ≡ limit_of a = search (rules, e) in
        subst (λ w. EndsAs w after.dag) (sym same) tt
    by false h =
        causes_end (after_failure m a cause) after a cause (is_zombie_in (set_of m.dag a)) why h

told_end : (o : Option Running) (m after : CoreData) (a : AttemptId) (outcome : Outcome)
    (why : Abort) → TellsTo o m a outcome (says.Aborted why) after → EndsAs why after.dag
told_end None m after a outcome why (e, is) = absurd (search (rules, e))
told_end (Some r) m after a outcome why h = tells_end (taken_off m a) after r outcome why h

steps_end : (c after : CoreData) (event : Event) (why : Abort)
    → Steps c event (says.Aborted why) after → EndsAs why after.dag
steps_end c after (Take exec) aborts.Budget step = tt
steps_end c after (Take exec) (aborts.TaskLimit stage number p) step = absurd step
steps_end c after (Take exec) (aborts.StageLimit stage) step = absurd step
steps_end c after (Take exec) aborts.NoExecutor step = absurd step
steps_end c after (Post a outcome) why step = by (job_runs c) step
  where
    posts : (delay : Option ℕ) → PostsBy delay c a outcome (says.Aborted why) after
        → EndsAs why after.dag
    posts None h =
        let next = shelved_if (comes_twice c a) c a outcome 0 in
        told_end (running_of next a) next after a outcome why h
    posts (Some delay) (e, is) = absurd (search (rules, e))

    of : (o : Option Running) → PostsOf o c a outcome (says.Aborted why) after
        → EndsAs why after.dag
    of None (e, is) = absurd (search (rules, e))
    of (Some r) (fit, h) = posts (delay_for c a) h

    by : (b : Bool) → PostsIf b c a outcome (says.Aborted why) after → EndsAs why after.dag
    by false (e, is) = absurd (search (rules, e))
    by true h = of (running_of c a) h
steps_end c after (Release key) why step = by (job_runs c) step
  where
    of : (o : Option Shelved) → ReleasesOf o c key (says.Aborted why) after → EndsAs why after.dag
    of None bad = absurd bad
    of (Some s) h =
        told_end (running_of c s.attempt) (without_shelved c key) after s.attempt s.outcome why h

    by : (b : Bool) → ReleasesIf b c key (says.Aborted why) after → EndsAs why after.dag
    by false (e, is) = absurd (search (rules, e))
    by true h = of (shelved_of c key) h
steps_end c after (Side event) why (said, told, step) = absurd (search (rules, told))
steps_end c after (TellLost exec) why (may, step) =
    by (are_lost next.dag.tracker.trust) refl step
  where
    next : CoreData
    next = without_executor c exec

    by : (b : Bool) → are_lost next.dag.tracker.trust ≡ b
        → LosesOrAborts b next (says.Aborted why) after → EndsAs why after.dag
    by true lost (e, is) =
        let same : why ≡ aborts.NoExecutor = search (rules, e) in
        subst (λ w. EndsAs w after.dag) (sym same)
        (ap (λ (x : CoreData). are_lost x.dag.tracker.trust) is ∙ lost)
    by false lost (e, is) = absurd (search (rules, e))

pub stage_limits_are_reached : StageLimitsAreReached
stage_limits_are_reached c after event stage step =
    steps_end c after event (aborts.StageLimit stage) step

pub no_executors_are_left : NoExecutorsAreLeft
no_executors_are_left c after event step = steps_end c after event aborts.NoExecutor step
