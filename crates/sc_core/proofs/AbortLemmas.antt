-- A job is aborted for the failures of a partition only where there are as many as are allowed.
use Rattle.std.proofs.Common.{◌≡◌, ◌≢◌, ℕ, ◌&&◌, not, All, Bool, true, false, if◌then◌else◌, Option, Some, None, option_map, slice_get, refl, ap, sym, ◌∙◌, arith, rules, true≢false}
use Rattle.std.proofs.lemmas.Bool.Decides.{nat_tests}
use Rattle.sc_ids.specs.declared.attempts.AttemptId.{AttemptId}
use Rattle.sc_ids.specs.declared.failures.FailureCause.{FailureCause}
use Rattle.sc_ids.specs.declared.failures.FailureCause.TheVariants as causes
use Rattle.sc_commit.specs.Committers.{committer_at}
use Rattle.sc_commit.specs.Committing.{holds}
use Rattle.sc_taskset.specs.Lookups.{is_task_of, is_there_and, task_at}
use Rattle.sc_taskset.specs.Reports.{after_held, ended_task, failed_task, held_task, is_counted_in, is_failure, is_last_failure, noted_task, reaches_limit}
use Rattle.sc_taskset.specs.Reports as taskset
use Rattle.sc_taskset.specs.Sound.{IsSoundTask}
use Rattle.sc_taskset.specs.TaskSetData.{TaskData, TaskSetData}
use Rattle.sc_taskset.specs.declared.tasks.Verdict.{Verdict}
use Rattle.sc_taskset.specs.declared.tasks.Verdict.TheVariants as verdicts
use Rattle.sc_taskset.proofs.FindLemmas.{found_is}
use Rattle.sc_tracker.specs.Trust.{is_newer}
use Rattle.sc_dag.specs.DagData.{DagData}
use Rattle.sc_dag.specs.Losses.{after_seen}
use Rattle.sc_dag.specs.Outputs.{is_complete}
use Rattle.sc_dag.specs.Reports.{after_failed, after_hold, is_of_newest, map_success_of, reaches_limit_in, result_success_of, set_of}
use Rattle.sc_dag.specs.declared.reports.Success.{Success}
use Rattle.sc_dag.specs.declared.reports.Success.TheVariants as successes
use Rattle.sc_core.specs.CoreData.{CoreData, job_runs, running_of, shelved_if, shelved_of, taken_off, with_dag, without_shelved}
use Rattle.sc_core.specs.Laws.{HasFailedAt, HasFailedOften, StepsKeepSound, TaskLimitsAreReached}
use Rattle.sc_core.specs.Posts.{PostsBy, PostsIf, PostsOf, comes_twice, delay_for}
use Rattle.sc_tracker.specs.Trust.{are_lost}
use Rattle.sc_core.specs.Losses.{LosesOrAborts, without_executor}
use Rattle.sc_core.specs.Releases.{ReleasesIf, ReleasesOf}
use Rattle.sc_core.specs.Sound.{IsSoundCore, IsSoundJob}
use Rattle.sc_core.specs.Tells.{FailsBy, FailsOrAborts, IsGone, Misses, MissesIf, Tells, TellsFailureIf, TellsTo, after_failure, is_zombie_in, success_answer}
use Rattle.sc_core.specs.declared.answers.Abort.TheVariants.{TaskLimit}
use Rattle.sc_core.specs.declared.answers.Answer.TheVariants as says
use Rattle.sc_core.specs.declared.events.Event.TheVariants.{Post, Release, Side, Take, TellLost}
use Rattle.sc_core.specs.declared.events.Outcome.{Outcome}
use Rattle.sc_core.specs.declared.events.Outcome.TheVariants as outcomes
use Rattle.sc_core.specs.declared.running.Running.{Running}
use Rattle.sc_core.specs.declared.running.Shelved.{Shelved}
use Rattle.sc_core.proofs.LookupLemmas.{set_holds}
use Rattle.sc_core.proofs.LimitLemmas.{has_as_many, held_full, is_full, last_counts, own_set}

-- ---- a job that is aborted for them

-- a success doesn't abort
no_success : (s : Success) (stage number p : ℕ)
    → says.Aborted (TaskLimit stage number p) ≢ success_answer s
no_success successes.Repeated stage number p e = search (rules, e)
no_success successes.Registered stage number p e = search (rules, e)
no_success successes.Bogus stage number p e = search (rules, e)
no_success successes.Finished stage number p e = search (rules, e)

-- nor does what a missing input brings about, but for its stage
no_miss : (c after : CoreData) (a : AttemptId) (stage number p : ℕ)
    → Misses c a (says.Aborted (TaskLimit stage number p)) after → ⊥
no_miss c after a stage number p miss =
    by (is_of_newest c.dag a && not (is_complete c.dag a.stage)) miss
  where
    verdict_of : (verdict : Verdict) (d : DagData)
        → FailsOrAborts c a verdict d (says.Aborted (TaskLimit stage number p)) after → ⊥
    verdict_of verdicts.Limit d (e, is) = search (rules, e)
    verdict_of verdicts.Again d (e, is) = search (rules, e)

    by : (b : Bool) → MissesIf b c a (says.Aborted (TaskLimit stage number p)) after → ⊥
    by true (verdict, d, fails, or) = verdict_of verdict d or
    by false (e, is) = search (rules, e)

no_cause : (c after : CoreData) (a : AttemptId) (cause : FailureCause) (zombie : Bool)
    (stage number p : ℕ)
    → FailsBy cause zombie c a (says.Aborted (TaskLimit stage number p)) after → ⊥
no_cause c after a (causes.Gone exec wanted found) zombie stage number p h =
    by (is_newer (slice_get c.dag.tracker.trust exec) found) zombie h
  where
    by : (x y : Bool)
        → IsGone x y c a exec found (says.Aborted (TaskLimit stage number p)) after → ⊥
    by true y k = no_miss (with_dag c (after_seen c.dag exec found)) after a stage number p k
    by false true (e, is) = search (rules, e)
    by false false k = no_miss c after a stage number p k
no_cause c after a (causes.Metadata last) zombie stage number p h =
    no_miss c after a stage number p h
no_cause c after a causes.Planned zombie stage number p (e, is) = search (rules, e)
no_cause c after a (causes.Raised raise) zombie stage number p (e, is) = search (rules, e)
no_cause c after a (causes.Device fault) zombie stage number p (e, is) = search (rules, e)
no_cause c after a causes.Denied zombie stage number p (e, is) = search (rules, e)

-- the set of the attempt is full after its last failure
failure_full : (c : CoreData) (a : AttemptId) (cause : FailureCause)
    → reaches_limit_in (set_of c.dag a) a cause ≡ true
    → is_full (set_of (after_failure c a cause).dag a) a.partition ≡ true
failure_full c a cause e = by (holds a (committer_at c.committers a.partition))
  where
    failed : DagData
    failed = after_failed c.dag a cause

    one : (o : Option TaskSetData) → reaches_limit_in o a cause ≡ true
        → is_full (option_map (λ set. taskset.after_failure set a.partition a.nth cause) o)
        a.partition ≡ true
    one None h = h
    one (Some set) h = last_counts set a.partition a.nth cause h

    full : is_full (set_of failed a) a.partition ≡ true
    full =
        ap (λ o. is_full o a.partition)
        (own_set c.dag a (λ set. taskset.after_failure set a.partition a.nth cause))
        ∙ one (set_of c.dag a) e

    by : (b : Bool)
        → is_full (set_of (if b then after_hold failed a.stage a.partition false else failed) a)
        a.partition ≡ true
    by true = held_full failed a false a.partition ∙ full
    by false = full

-- so its failures are as many as are allowed, and no two of one attempt
full_fails : (c : CoreData) (a : AttemptId) (p : ℕ) → IsSoundJob c
    → is_full (set_of c.dag a) p ≡ true → HasFailedOften (set_of c.dag a) p
full_fails c a p sound full = by (set_of c.dag a) refl full
  where
    task : (set : TaskSetData) → set_of c.dag a ≡ Some set → (o : Option TaskData)
        → task_at p set.tasks ≡ o
        → is_there_and (has_as_many set.limits.task_failures) o ≡ true
        → HasFailedOften (Some set) p
    task set e None f h = absurd (true≢false (sym h))
    task set e (Some t) f h =
        let is : IsSoundTask t =
        found_is IsSoundTask (is_task_of p) set.tasks t
        (set_holds (λ s. All IsSoundTask s.tasks) (slice_get c.dag.states a.stage)
        a.stage_attempt set (λ i x l. (sound.dag.attempts a.stage i x l).set.sound.tasks) e) f in
        rw f (
          grind (arith, nat_tests, h),
          λ i j d lt l same.
              (let apart = is.once i j d lt l in grind (arith, nat_tests, apart, same)),
        )

    by : (o : Option TaskSetData) → set_of c.dag a ≡ o → is_full o p ≡ true
        → HasFailedOften o p
    by None e h = absurd (true≢false (sym h))
    by (Some set) e h = task set e (task_at p set.tasks) refl h

-- what is told ends the job for the failures of a partition only where there are as many
tells_limit :
    (m after : CoreData) (r : Running) (outcome : Outcome) (stage number p : ℕ) → IsSoundCore after
    → Tells m r outcome (says.Aborted (TaskLimit stage number p)) after
    → HasFailedAt after.dag stage number p
tells_limit m after r (outcomes.Map loc) stage number p sound (next, up, e, is) =
    absurd (no_success (map_success_of m.dag r.hand_out.attempt loc r.hand_out.epoch)
    stage number p e)
tells_limit m after r outcomes.Result stage number p sound (e, is) =
    absurd (no_success (result_success_of m.dag r.hand_out.attempt) stage number p e)
tells_limit m after r (outcomes.Failed cause) stage number p sound told =
    by (reaches_limit_in (set_of m.dag a) a cause) refl told
  where
    a : AttemptId
    a = r.hand_out.attempt

    by : (b : Bool) → reaches_limit_in (set_of m.dag a) a cause ≡ b
        → TellsFailureIf b m a cause (says.Aborted (TaskLimit stage number p)) after
        → HasFailedAt after.dag stage number p
    by true e (told, is) =
        let s : stage ≡ a.stage = search (rules, told) in
        let k : number ≡ a.stage_attempt = search (rules, told) in
        let q : p ≡ a.partition = search (rules, told) in
        rw (s, k, q)
        (full_fails after a a.partition sound.job
        (ap (λ (x : CoreData). is_full (set_of x.dag a) a.partition) is
        ∙ failure_full m a cause e))
    by false e h =
        absurd (no_cause (after_failure m a cause) after a cause (is_zombie_in (set_of m.dag a))
        stage number p h)

pub task_limits_by : StepsKeepSound → TaskLimitsAreReached
task_limits_by steps c after (Take exec) stage number p sound step = absurd step
task_limits_by steps c after (Post a outcome) stage number p sound step = by (job_runs c) step
  where
    after_sound : IsSoundCore after
    after_sound =
        steps c after (Post a outcome) (says.Aborted (TaskLimit stage number p)) sound step

    tells : (m : CoreData) (o : Option Running)
        → TellsTo o m a outcome (says.Aborted (TaskLimit stage number p)) after
        → HasFailedAt after.dag stage number p
    tells m None (told, is) = absurd (search (rules, told))
    tells m (Some r) told =
        tells_limit (taken_off m a) after r outcome stage number p after_sound told

    posts : (delay : Option ℕ)
        → PostsBy delay c a outcome (says.Aborted (TaskLimit stage number p)) after
        → HasFailedAt after.dag stage number p
    posts None told =
        let next = shelved_if (comes_twice c a) c a outcome 0 in
        tells next (running_of next a) told
    posts (Some delay) (told, is) = absurd (search (rules, told))

    of : (o : Option Running)
        → PostsOf o c a outcome (says.Aborted (TaskLimit stage number p)) after
        → HasFailedAt after.dag stage number p
    of None (told, is) = absurd (search (rules, told))
    of (Some r) (fit, told) = posts (delay_for c a) told

    by : (b : Bool) → PostsIf b c a outcome (says.Aborted (TaskLimit stage number p)) after
        → HasFailedAt after.dag stage number p
    by false (told, is) = absurd (search (rules, told))
    by true h = of (running_of c a) h
task_limits_by steps c after (Release key) stage number p sound step = by (job_runs c) step
  where
    next : CoreData
    next = without_shelved c key

    after_sound : IsSoundCore after
    after_sound =
        steps c after (Release key) (says.Aborted (TaskLimit stage number p)) sound step

    late : (s : Shelved) (o : Option Running)
        → TellsTo o next s.attempt s.outcome (says.Aborted (TaskLimit stage number p)) after
        → HasFailedAt after.dag stage number p
    late s None (told, is) = absurd (search (rules, told))
    late s (Some r) told =
        tells_limit (taken_off next s.attempt) after r s.outcome stage number p after_sound told

    of : (o : Option Shelved)
        → ReleasesOf o c key (says.Aborted (TaskLimit stage number p)) after
        → HasFailedAt after.dag stage number p
    of None bad = absurd bad
    of (Some s) told = late s (running_of c s.attempt) told

    by : (b : Bool) → ReleasesIf b c key (says.Aborted (TaskLimit stage number p)) after
        → HasFailedAt after.dag stage number p
    by false (told, is) = absurd (search (rules, told))
    by true h = of (shelved_of c key) h
task_limits_by steps c after (Side event) stage number p sound (said, told, step) =
    absurd (search (rules, told))
task_limits_by steps c after (TellLost exec) stage number p sound (may, step) =
    by (are_lost (without_executor c exec).dag.tracker.trust) step
  where
    by : (b : Bool)
        → LosesOrAborts b (without_executor c exec) (says.Aborted (TaskLimit stage number p)) after
        → HasFailedAt after.dag stage number p
    by true (told, is) = absurd (search (rules, told))
    by false (told, is) = absurd (search (rules, told))
