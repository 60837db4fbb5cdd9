-- An event that is enabled has an answer.
use Rattle.std.proofs.Common.{◌≡◌, ℕ, ◌==◌, ◌&&◌, not, Bool, true, false, Option, Some, None, is_some, slice_get, refl, ap, sym, ◌∙◌, arith, true≢false}
use Rattle.std.proofs.lemmas.Bool.Decides.{nat_tests}
use Rattle.sc_ids.specs.declared.attempts.AttemptId.{AttemptId}
use Rattle.sc_ids.specs.declared.failures.FailureCause.{FailureCause}
use Rattle.sc_ids.specs.declared.failures.FailureCause.TheVariants as causes
use Rattle.sc_commit.specs.declared.committers.Ending.TheVariants as endings
use Rattle.sc_taskset.specs.declared.tasks.Verdict.{Verdict}
use Rattle.sc_taskset.specs.declared.tasks.Verdict.TheVariants as verdicts
use Rattle.sc_tracker.specs.Trust.{is_newer}
use Rattle.sc_dag.specs.DagData.{DagData, stage_at}
use Rattle.sc_dag.specs.Laws.{CallsKeepSound, OthersGoOn}
use Rattle.sc_dag.specs.Losses.{after_seen}
use Rattle.sc_dag.specs.Outputs.{is_complete}
use Rattle.sc_dag.specs.Reports.{after_failed, after_map_success, is_finished_short, is_of_newest, map_success_of, reaches_limit_in, result_success_of, set_of}
use Rattle.sc_dag.specs.Sound.{IsSoundDag, runner_of}
use Rattle.sc_dag.specs.Submission.{is_map, this_stage}
use Rattle.sc_dag.specs.declared.reports.Success.{Success}
use Rattle.sc_dag.specs.declared.reports.Success.TheVariants as successes
use Rattle.sc_dag.proofs.Tests.{both_left, both_right}
use Rattle.sc_core.specs.CoreData.{CoreData, ended, has_key, job_runs, running_of, shelved, shelved_if, shelved_of, taken_off, told_once, with_dag, without_shelved}
use Rattle.sc_core.specs.Laws.{EventsAreAnswered, WaitsHaveCause}
use Rattle.sc_core.specs.Posts.{Posts, PostsBy, PostsIf, PostsOf, TellsNow, comes_twice, delay_for, fits, misfits}
use Rattle.sc_tracker.specs.Trust.{are_lost}
use Rattle.sc_core.specs.Losses.{Loses, without_executor}
use Rattle.sc_core.specs.Releases.{Releases, ReleasesIf, ReleasesOf, has_no_shelved}
use Rattle.sc_core.specs.Sound.{IsShelvedWell, IsSoundCore, IsSoundJob}
use Rattle.sc_core.specs.Tells.{FailsBy, FailsOrAborts, FollowsUp, IsGone, LooksAgain, Misses, MissesIf, Tells, TellsFailureIf, TellsTo, after_failure, after_result, is_zombie_in, limit_of, success_answer}
use Rattle.sc_core.specs.declared.answers.Abort.TheVariants as aborts
use Rattle.sc_core.specs.declared.answers.Answer.{Answer}
use Rattle.sc_core.specs.declared.answers.Answer.TheVariants as says
use Rattle.sc_core.specs.declared.answers.JobState.TheVariants as jobs
use Rattle.sc_core.specs.declared.events.Event.TheVariants.{Post, Release, Side, Take, TellLost}
use Rattle.sc_core.specs.declared.events.Outcome.{Outcome}
use Rattle.sc_core.specs.declared.events.Outcome.TheVariants as outcomes
use Rattle.sc_core.specs.declared.running.Running.{Running}
use Rattle.sc_core.specs.declared.running.Shelved.{Shelved}
use Rattle.sc_taskset.proofs.FindLemmas.{found_is}
use Rattle.sc_core.proofs.ResultLemmas.{frees}
use Rattle.sc_core.proofs.StepLemmas.{posted, shelved_runs}
use Rattle.sc_core.proofs.ShelfLemmas.{awaits_it, fits_still}
use Rattle.sc_core.proofs.SubmitLemmas.{completes, fails, submits}
use Rattle.sc_core.proofs.TakeAnswerLemmas.{takes_there}
use Rattle.sc_core.proofs.SideCases.{steps_aside_there}

-- ---- a report

follow_there : (success : Success) (d : DagData) (s : ℕ) → IsSoundDag d
    → (after : DagData) × FollowsUp success d s after
follow_there success d s sound = by success
  where
    looks : (x y : Bool) → (after : DagData) × LooksAgain x y d s after
    looks true y = completes d s sound
    looks false true = submits d (this_stage s) sound.stages
    looks false false = (d, refl)

    by : (success : Success) → (after : DagData) × FollowsUp success d s after
    by successes.Repeated = (d, refl)
    by successes.Registered = looks (is_complete d s) (is_finished_short d s)
    by successes.Bogus = looks (is_complete d s) (is_finished_short d s)
    by successes.Finished = looks (is_complete d s) (is_finished_short d s)

misses_there : (c : CoreData) (a : AttemptId) → IsSoundDag c.dag
    → (answer : Answer) × (after : CoreData) × Misses c a answer after
misses_there c a sound = by (is_of_newest c.dag a && not (is_complete c.dag a.stage))
  where
    says_so : (verdict : Verdict) (d : DagData)
        → (answer : Answer) × (after : CoreData) × FailsOrAborts c a verdict d answer after
    says_so verdicts.Again d = (says.Resubmitted, with_dag c d, (refl, refl))
    says_so verdicts.Limit d = (
      says.Aborted (aborts.StageLimit a.stage),
      ended (with_dag c d) (jobs.Aborted (aborts.StageLimit a.stage)),
      (refl, refl),
    )

    by : (b : Bool) → (answer : Answer) × (after : CoreData) × MissesIf b c a answer after
    by false = (says.Again, c, (refl, refl))
    by true =
        let f = fails c.dag a.stage a.stage_attempt sound in
        let r = says_so f.0 f.1 in
        (r.0, r.1, (f.0, f.1, f.2, r.2))

causes_there : CallsKeepSound → (c : CoreData) (a : AttemptId) (cause : FailureCause)
    (zombie : Bool) → IsSoundDag c.dag
    → (answer : Answer) × (after : CoreData) × FailsBy cause zombie c a answer after
causes_there calls c a (causes.Gone exec wanted found) zombie sound =
    by (is_newer (slice_get c.dag.tracker.trust exec) found) zombie
  where
    by : (x y : Bool)
        → (answer : Answer) × (after : CoreData) × IsGone x y c a exec found answer after
    by true y =
        misses_there (with_dag c (after_seen c.dag exec found)) a ((calls c.dag sound).8 exec found)
    by false true = (says.Again, c, (refl, refl))
    by false false = misses_there c a sound
causes_there calls c a (causes.Metadata last) zombie sound = misses_there c a sound
causes_there calls c a causes.Planned zombie sound = (says.Again, c, (refl, refl))
causes_there calls c a (causes.Raised raise) zombie sound = (says.Again, c, (refl, refl))
causes_there calls c a (causes.Device fault) zombie sound = (says.Again, c, (refl, refl))
causes_there calls c a causes.Denied zombie sound = (says.Again, c, (refl, refl))

tells_there :
    CallsKeepSound → OthersGoOn → (m : CoreData) (r : Running) (outcome : Outcome)
    → IsSoundDag m.dag → runner_of m.dag r.hand_out.attempt ≡ Some r.exec
    → fits m r outcome ≡ true
    → (answer : Answer) × (after : CoreData) × Tells m r outcome answer after
tells_there calls others m r (outcomes.Map loc) sound runs fit =
    let kind : is_map (stage_at m.dag r.hand_out.attempt.stage).target ≡ true =
    both_left (is_map (stage_at m.dag r.hand_out.attempt.stage).target) (loc.exec == r.exec) fit in
    let on : (loc.exec == r.exec) ≡ true =
    both_right (is_map (stage_at m.dag r.hand_out.attempt.stage).target) (loc.exec == r.exec) fit in
    let exec : loc.exec ≡ r.exec = grind (arith, nat_tests, on) in
    let success = map_success_of m.dag r.hand_out.attempt loc r.hand_out.epoch in
    let mid = after_map_success m.dag r.hand_out.attempt loc r.hand_out.epoch m.now in
    let next =
    follow_there success mid r.hand_out.attempt.stage
    ((calls m.dag sound).2 r.hand_out.attempt loc r.hand_out.epoch m.now kind
    (runs ∙ ap (λ (e : ℕ). Some e) (sym exec))) in (
      success_answer success,
      with_dag m next.0,
      (next.0, next.1, refl, refl),
    )
tells_there calls others m r outcomes.Result sound runs fit =
    let success = result_success_of m.dag r.hand_out.attempt in
    (success_answer success, after_result success m r.hand_out.attempt, (refl, refl))
tells_there calls others m r (outcomes.Failed cause) sound runs fit =
    by (reaches_limit_in (set_of m.dag a) a cause)
  where
    a : AttemptId
    a = r.hand_out.attempt

    left : CoreData
    left = after_failure m r.hand_out.attempt cause

    left_sound : IsSoundDag left.dag
    left_sound =
        (frees calls others (with_dag m (after_failed m.dag r.hand_out.attempt cause))
        r.hand_out.attempt endings.Failed).sound
        ((calls m.dag sound).4 r.hand_out.attempt cause)

    by : (b : Bool)
        → (answer : Answer) × (after : CoreData) × TellsFailureIf b m a cause answer after
    by true =
        (says.Aborted (limit_of a), ended left (jobs.Aborted (limit_of a)), (refl, refl))
    by false = causes_there calls left a cause (is_zombie_in (set_of m.dag a)) left_sound

not_twice : (b : Bool) → not (not b) ≡ true → b ≡ true
not_twice true f = refl
not_twice false f = f

posts_there :
    CallsKeepSound → OthersGoOn → (c : CoreData) (a : AttemptId) (outcome : Outcome)
    → IsSoundCore c → not (job_runs c && misfits c (running_of c a) outcome) ≡ true
    → (answer : Answer) × (after : CoreData) × Posts c a outcome answer after
posts_there calls others c a outcome sound enabled = by (job_runs c) refl enabled
  where
    told : (m : CoreData) (r : Running) → running_of m a ≡ Some r → IsSoundJob m
        → fits m r outcome ≡ true
        → (answer : Answer) × (after : CoreData) × TellsNow m a outcome answer after
    told m r e is fit =
        let t = tells_there calls others (taken_off m a) r outcome is.dag
        (posted m a r is e).well.in_set (fits_still m (taken_off m a) r outcome refl refl fit) in
        (t.0, t.1, rw e t.2)

    tells : (r : Running) → running_of c a ≡ Some r → job_runs c ≡ true
        → fits c r outcome ≡ true → (twice : Bool)
        → (answer : Answer) × (after : CoreData)
        × TellsNow (shelved_if twice c a outcome 0) a outcome answer after
    tells r e job fit false = told c r e sound.job fit
    tells r e job fit true =
        let s = shelved_runs c a r outcome 0 sound job e fit in
        told (shelved c a outcome 0) s.one s.found s.sound.job s.fit

    posts : (r : Running) → running_of c a ≡ Some r → job_runs c ≡ true
        → fits c r outcome ≡ true → (delay : Option ℕ)
        → (answer : Answer) × (after : CoreData) × PostsBy delay c a outcome answer after
    posts r e job fit None = tells r e job fit (comes_twice c a)
    posts r e job fit (Some delay) = (
      says.Shelved,
      shelved_if (comes_twice c a) (shelved c a outcome delay) a outcome delay,
      (refl, refl),
    )

    of : (o : Option Running) → running_of c a ≡ o → job_runs c ≡ true
        → not (misfits c o outcome) ≡ true
        → (answer : Answer) × (after : CoreData) × PostsOf o c a outcome answer after
    of None e job h = (says.Ignored, told_once c, (refl, refl))
    of (Some r) e job h =
        let fit : fits c r outcome ≡ true = not_twice (fits c r outcome) h in
        let t = posts r e job fit (delay_for c a) in (t.0, t.1, (fit, t.2))

    by : (b : Bool) → job_runs c ≡ b → not (b && misfits c (running_of c a) outcome) ≡ true
        → (answer : Answer) × (after : CoreData) × PostsIf b c a outcome answer after
    by false e h = (says.Ignored, c, (refl, refl))
    by true e h = of (running_of c a) refl e h

releases_there :
    CallsKeepSound → OthersGoOn → (c : CoreData) (key : ℕ) → IsSoundCore c
    → not (has_no_shelved c key) ≡ true
    → (answer : Answer) × (after : CoreData) × Releases c key answer after
releases_there calls others c key sound enabled = by (job_runs c) refl enabled
  where
    next : CoreData
    next = without_shelved c key

    late : (s : Shelved) → IsShelvedWell c s → (o : Option Running) → running_of c s.attempt ≡ o
        → (answer : Answer) × (after : CoreData) × TellsTo o next s.attempt s.outcome answer after
    late s well None e = (says.Ignored, told_once next, (refl, refl))
    late s well (Some r) e =
        let await = awaits_it c s r well e in
        tells_there calls others (taken_off next s.attempt) r s.outcome sound.job.dag
        (posted c s.attempt r sound.job e).well.in_set
        (fits_still c (taken_off next s.attempt) r s.outcome refl refl await.fit)

    of : (o : Option Shelved) → shelved_of c key ≡ o → job_runs c ≡ true
        → not (not (is_some o)) ≡ true
        → (answer : Answer) × (after : CoreData) × ReleasesOf o c key answer after
    of None e job h = absurd (true≢false (sym h))
    of (Some s) e job h =
        late s (found_is (IsShelvedWell c) (has_key key) c.shelf s (sound.shelf job).each e)
        (running_of c s.attempt) refl

    by : (b : Bool) → job_runs c ≡ b → not (b && not (is_some (shelved_of c key))) ≡ true
        → (answer : Answer) × (after : CoreData) × ReleasesIf b c key answer after
    by false e h = (says.Ignored, c, (refl, refl))
    by true e h = of (shelved_of c key) refl e h

pub answered_by : CallsKeepSound → OthersGoOn → WaitsHaveCause → EventsAreAnswered
answered_by calls others waits c (Take exec) sound enabled = takes_there waits c exec sound
answered_by calls others waits c (Post a outcome) sound enabled =
    posts_there calls others c a outcome sound enabled
answered_by calls others waits c (Release key) sound enabled =
    releases_there calls others c key sound enabled
answered_by calls others waits c (Side event) sound enabled = steps_aside_there c event
answered_by calls others waits c (TellLost exec) sound enabled =
    by (are_lost (without_executor c exec).dag.tracker.trust) refl
  where
    next : CoreData
    next = without_executor c exec

    by : (b : Bool) → are_lost next.dag.tracker.trust ≡ b
        → (answer : Answer) × (after : CoreData) × Loses c exec answer after
    by true e = (
      says.Aborted aborts.NoExecutor,
      ended next (jobs.Aborted aborts.NoExecutor),
      (enabled, rw e (refl, refl)),
    )
    by false e = (says.Told, next, (enabled, rw e (refl, refl)))
