-- An event has one answer in a state, and leaves one state; so a journal leaves one.
use Rattle.std.proofs.Common.{◌≡◌, ℕ, ◌==◌, ◌&&◌, not, Bool, true, false, [], ◌∷◌, Option, Some, None, slice_get, refl, ap, sym, subst, ◌∙◌, arith}
use Rattle.std.proofs.lemmas.Bool.Decides.{nat_tests}
use Rattle.sc_ids.specs.declared.attempts.AttemptId.{AttemptId}
use Rattle.sc_ids.specs.declared.blocks.Loc.{Loc}
use Rattle.sc_ids.specs.declared.failures.FailureCause.{FailureCause}
use Rattle.sc_ids.specs.declared.failures.FailureCause.TheVariants as causes
use Rattle.sc_commit.specs.declared.committers.Ending.TheVariants as endings
use Rattle.sc_taskset.specs.declared.tasks.Verdict.{Verdict}
use Rattle.sc_taskset.specs.declared.tasks.Verdict.TheVariants as verdicts
use Rattle.sc_tracker.specs.Trust.{is_newer}
use Rattle.sc_dag.specs.DagData.{DagData, stage_at, with_state}
use Rattle.sc_dag.specs.Laws.{CallsKeepSound, OthersGoOn, SubmissionsAgree}
use Rattle.sc_dag.specs.Losses.{after_seen}
use Rattle.sc_dag.specs.Outputs.{is_complete}
use Rattle.sc_dag.specs.Reports.{CompletesMap, FailsStage, after_failed, after_map_success, completed, is_finished_short, is_of_newest, map_success_of, reaches_limit_in, set_of, with_failed}
use Rattle.sc_dag.specs.Sound.{IsSoundDag, runner_of}
use Rattle.sc_dag.specs.Submission.{is_map, this_stage, waiting_stages}
use Rattle.sc_dag.specs.declared.reports.Success.{Success}
use Rattle.sc_dag.specs.declared.reports.Success.TheVariants as successes
use Rattle.sc_dag.proofs.Tests.{both_left, both_right, clash}
use Rattle.sc_core.specs.CoreData.{CoreData, has_key, job_runs, running_of, shelved, shelved_if, shelved_of, taken_off, with_dag, without_shelved}
use Rattle.sc_core.specs.Journals.{Replays}
use Rattle.sc_core.specs.Laws.{ReplaysAgree, StepsAgree, StepsKeepSound}
use Rattle.sc_core.specs.Posts.{PostsBy, PostsIf, PostsOf, TellsNow, comes_twice, delay_for, fits}
use Rattle.sc_tracker.specs.Trust.{are_lost}
use Rattle.sc_core.specs.Losses.{LosesOrAborts, without_executor}
use Rattle.sc_core.specs.Releases.{ReleasesIf, ReleasesOf}
use Rattle.sc_core.specs.Sound.{IsShelvedWell, IsSoundJob}
use Rattle.sc_core.specs.Tells.{FailsBy, FailsOrAborts, FollowsUp, IsGone, LooksAgain, Misses, MissesIf, Tells, TellsFailure, TellsFailureIf, TellsMap, TellsTo, after_failure, is_zombie_in}
use Rattle.sc_core.specs.declared.answers.Answer.{Answer}
use Rattle.sc_core.specs.declared.events.Event.TheVariants.{Post, Release, Side, Take, TellLost}
use Rattle.sc_core.specs.declared.events.Outcome.{Outcome}
use Rattle.sc_core.specs.declared.events.Outcome.TheVariants as outcomes
use Rattle.sc_core.specs.declared.running.Running.{Running}
use Rattle.sc_core.specs.declared.running.Shelved.{Shelved}
use Rattle.sc_taskset.proofs.FindLemmas.{found_is}
use Rattle.sc_core.proofs.TakeAgreeLemmas.{takes_agree}
use Rattle.sc_core.proofs.StepLemmas.{posted, shelved_runs}
use Rattle.sc_core.proofs.ShelfLemmas.{awaits_it, fits_still}
use Rattle.sc_core.proofs.ResultLemmas.{frees}
use Rattle.sc_core.proofs.SideCases.{steps_aside_agree}

-- two answers and what they leave are one
abbrev Same : Answer → Answer → CoreData → CoreData → Type 0
Same a b x y = (a ≡ b) × (x ≡ y)

-- ---- stages

completes_agree :
    SubmissionsAgree → (d x y : DagData) (s : ℕ) → IsSoundDag d → CompletesMap d s x
    → CompletesMap d s y → x ≡ y
completes_agree one d x y s sound a b =
    one (with_state d s completed) x y (waiting_stages (with_state d s completed))
    sound.stages a b

-- how a stage attempt fails, and what that leaves
fails_agree :
    SubmissionsAgree → (d x y : DagData) (s number : ℕ) (v w : Verdict) → IsSoundDag d
    → FailsStage d s number v x → FailsStage d s number w y → (v ≡ w) × (x ≡ y)
fails_agree one d x y s number verdicts.Limit verdicts.Limit sound (e, a) (f, b) =
    (refl, a ∙ sym b)
fails_agree one d x y s number verdicts.Limit verdicts.Again sound (e, a) (f, b) =
    absurd (clash e f)
fails_agree one d x y s number verdicts.Again verdicts.Limit sound (e, a) (f, b) =
    absurd (clash f e)
fails_agree one d x y s number verdicts.Again verdicts.Again sound (e, a) (f, b) = (
  refl,
  one (with_state d s (with_failed number)) x y (this_stage s)
      sound.stages a b,
)

-- what follows a map success
follows_agree :
    SubmissionsAgree → (success : Success) (d x y : DagData) (s : ℕ) → IsSoundDag d
    → FollowsUp success d s x → FollowsUp success d s y → x ≡ y
follows_agree one success d x y s sound a b = by success a b
  where
    looks : (u v : Bool) → LooksAgain u v d s x → LooksAgain u v d s y → x ≡ y
    looks true v e f = completes_agree one d x y s sound e f
    looks false true e f = one d x y (this_stage s) sound.stages e f
    looks false false e f = e ∙ sym f

    by : (success : Success) → FollowsUp success d s x → FollowsUp success d s y → x ≡ y
    by successes.Repeated e f = e ∙ sym f
    by successes.Registered e f = looks (is_complete d s) (is_finished_short d s) e f
    by successes.Bogus e f = looks (is_complete d s) (is_finished_short d s) e f
    by successes.Finished e f = looks (is_complete d s) (is_finished_short d s) e f

-- ---- reports

maps_agree :
    SubmissionsAgree → (c x y : CoreData) (r : Running) (loc : Loc) (a b : Answer)
    → IsSoundDag (after_map_success c.dag r.hand_out.attempt loc r.hand_out.epoch c.now)
    → TellsMap c r loc a x → TellsMap c r loc b y → Same a b x y
maps_agree one c x y r loc a b sound (d, up, e, is) (d', up', e', is') =
    let same : d ≡ d' =
    follows_agree one (map_success_of c.dag r.hand_out.attempt loc r.hand_out.epoch)
    (after_map_success c.dag r.hand_out.attempt loc r.hand_out.epoch c.now) d d'
    r.hand_out.attempt.stage sound up up' in
    (e ∙ sym e', is ∙ ap (λ z. with_dag c z) same ∙ sym is')

misses_agree :
    SubmissionsAgree → (c x y : CoreData) (a : AttemptId) (u v : Answer) → IsSoundDag c.dag
    → Misses c a u x → Misses c a v y → Same u v x y
misses_agree one c x y a u v sound miss other =
    by (is_of_newest c.dag a && not (is_complete c.dag a.stage)) miss other
  where
    verdict_agrees : (w : Verdict) (d : DagData) → FailsOrAborts c a w d u x
        → FailsOrAborts c a w d v y → Same u v x y
    verdict_agrees verdicts.Limit d (e, is) (f, is') = (e ∙ sym f, is ∙ sym is')
    verdict_agrees verdicts.Again d (e, is) (f, is') = (e ∙ sym f, is ∙ sym is')

    by : (b : Bool) → MissesIf b c a u x → MissesIf b c a v y → Same u v x y
    by true (w, d, f, or) (w', d', f', or') =
        let same = fails_agree one c.dag d d' a.stage a.stage_attempt w w' sound f f' in
        verdict_agrees w' d'
        (subst (λ z. FailsOrAborts c a w' z u x) same.1
        (subst (λ z. FailsOrAborts c a z d u x) same.0 or)) or'
    by false (e, is) (f, is') = (e ∙ sym f, is ∙ sym is')

causes_agree :
    CallsKeepSound → SubmissionsAgree → (c x y : CoreData) (a : AttemptId) (cause : FailureCause)
    (zombie : Bool) (u v : Answer) → IsSoundDag c.dag → FailsBy cause zombie c a u x
    → FailsBy cause zombie c a v y → Same u v x y
causes_agree calls one c x y a (causes.Gone exec wanted found) zombie u v sound e f =
    by (is_newer (slice_get c.dag.tracker.trust exec) found) zombie e f
  where
    by : (b z : Bool) → IsGone b z c a exec found u x → IsGone b z c a exec found v y
        → Same u v x y
    by true z g h =
        misses_agree one (with_dag c (after_seen c.dag exec found)) x y a u v
        ((calls c.dag sound).8 exec found) g h
    by false true (g, is) (h, is') = (g ∙ sym h, is ∙ sym is')
    by false false g h = misses_agree one c x y a u v sound g h
causes_agree calls one c x y a (causes.Metadata last) zombie u v sound e f =
    misses_agree one c x y a u v sound e f
causes_agree calls one c x y a causes.Planned zombie u v sound (g, is) (h, is') =
    (g ∙ sym h, is ∙ sym is')
causes_agree calls one c x y a (causes.Raised raise) zombie u v sound (g, is) (h, is') =
    (g ∙ sym h, is ∙ sym is')
causes_agree calls one c x y a (causes.Device fault) zombie u v sound (g, is) (h, is') =
    (g ∙ sym h, is ∙ sym is')
causes_agree calls one c x y a causes.Denied zombie u v sound (g, is) (h, is') =
    (g ∙ sym h, is ∙ sym is')

failures_agree :
    CallsKeepSound → OthersGoOn → SubmissionsAgree → (c x y : CoreData) (r : Running)
    (cause : FailureCause) (u v : Answer) → IsSoundDag c.dag → TellsFailure c r cause u x
    → TellsFailure c r cause v y → Same u v x y
failures_agree calls others one c x y r cause u v sound e f =
    by (reaches_limit_in (set_of c.dag a) a cause) e f
  where
    a : AttemptId
    a = r.hand_out.attempt

    left_sound : IsSoundDag (after_failure c r.hand_out.attempt cause).dag
    left_sound =
        (frees calls others (with_dag c (after_failed c.dag r.hand_out.attempt cause))
        r.hand_out.attempt endings.Failed).sound
        ((calls c.dag sound).4 r.hand_out.attempt cause)

    by : (b : Bool) → TellsFailureIf b c a cause u x → TellsFailureIf b c a cause v y
        → Same u v x y
    by true (g, is) (h, is') = (g ∙ sym h, is ∙ sym is')
    by false g h =
        causes_agree calls one (after_failure c a cause) x y a cause
        (is_zombie_in (set_of c.dag a)) u v left_sound g h

-- ---- events

-- what is told of a running attempt
tells_agree :
    CallsKeepSound → OthersGoOn → SubmissionsAgree → (m x y : CoreData) (r : Running)
    (outcome : Outcome) (a b : Answer) → IsSoundDag m.dag
    → runner_of m.dag r.hand_out.attempt ≡ Some r.exec → fits m r outcome ≡ true
    → Tells m r outcome a x → Tells m r outcome b y → Same a b x y
tells_agree calls others one m x y r (outcomes.Map loc) a b sound runs fit e f =
    let kind : is_map (stage_at m.dag r.hand_out.attempt.stage).target ≡ true =
    both_left (is_map (stage_at m.dag r.hand_out.attempt.stage).target)
    (loc.exec == r.exec) fit in
    let on : (loc.exec == r.exec) ≡ true =
    both_right (is_map (stage_at m.dag r.hand_out.attempt.stage).target)
    (loc.exec == r.exec) fit in
    let exec : loc.exec ≡ r.exec = grind (arith, nat_tests, on) in
    maps_agree one m x y r loc a b
    ((calls m.dag sound).2 r.hand_out.attempt loc r.hand_out.epoch m.now kind
    (runs ∙ ap (λ (e : ℕ). Some e) (sym exec))) e f
tells_agree calls others one m x y r outcomes.Result a b sound runs fit (e, is) (f, is') =
    (e ∙ sym f, is ∙ sym is')
tells_agree calls others one m x y r (outcomes.Failed cause) a b sound runs fit e f =
    failures_agree calls others one m x y r cause a b sound e f

pub steps_agree_by : CallsKeepSound → OthersGoOn → SubmissionsAgree → StepsAgree
steps_agree_by calls others one c (Take exec) a b x y sound s t = takes_agree c exec a b x y s t
steps_agree_by calls others one c (Post at outcome) a b x y sound s t =
    by (job_runs c) refl s t
  where
    told : (m : CoreData) (r : Running) → running_of m at ≡ Some r → IsSoundJob m
        → fits m r outcome ≡ true → TellsNow m at outcome a x → TellsNow m at outcome b y
        → Same a b x y
    told m r e is fit u v =
        tells_agree calls others one (taken_off m at) x y r outcome a b is.dag
        (posted m at r is e).well.in_set
        (fits_still m (taken_off m at) r outcome refl refl fit) (rw e at u) (rw e at v)

    tells : (r : Running) → running_of c at ≡ Some r → job_runs c ≡ true
        → fits c r outcome ≡ true → (twice : Bool)
        → TellsNow (shelved_if twice c at outcome 0) at outcome a x
        → TellsNow (shelved_if twice c at outcome 0) at outcome b y → Same a b x y
    tells r e job fit false u v = told c r e sound.job fit u v
    tells r e job fit true u v =
        let s = shelved_runs c at r outcome 0 sound job e fit in
        told (shelved c at outcome 0) s.one s.found s.sound.job s.fit u v

    posts : (r : Running) → running_of c at ≡ Some r → job_runs c ≡ true
        → fits c r outcome ≡ true → (delay : Option ℕ)
        → PostsBy delay c at outcome a x → PostsBy delay c at outcome b y → Same a b x y
    posts r e job fit None u v = tells r e job fit (comes_twice c at) u v
    posts r e job fit (Some delay) (u, is) (v, is') = (u ∙ sym v, is ∙ sym is')

    of : (o : Option Running) → running_of c at ≡ o → job_runs c ≡ true
        → PostsOf o c at outcome a x → PostsOf o c at outcome b y → Same a b x y
    of None e job (u, is) (v, is') = (u ∙ sym v, is ∙ sym is')
    of (Some r) e job (fit, u) (fit', v) = posts r e job fit (delay_for c at) u v

    by : (z : Bool) → job_runs c ≡ z → PostsIf z c at outcome a x → PostsIf z c at outcome b y
        → Same a b x y
    by false e (u, is) (v, is') = (u ∙ sym v, is ∙ sym is')
    by true e u v = of (running_of c at) refl e u v
steps_agree_by calls others one c (Release key) a b x y sound s t = by (job_runs c) refl s t
  where
    next : CoreData
    next = without_shelved c key

    late : (r : Shelved) → IsShelvedWell c r → (o : Option Running) → running_of c r.attempt ≡ o
        → TellsTo o next r.attempt r.outcome a x → TellsTo o next r.attempt r.outcome b y
        → Same a b x y
    late r well None e (u, is) (v, is') = (u ∙ sym v, is ∙ sym is')
    late r well (Some q) e u v =
        let await = awaits_it c r q well e in
        tells_agree calls others one (taken_off next r.attempt) x y q r.outcome a b sound.job.dag
        (posted c r.attempt q sound.job e).well.in_set
        (fits_still c (taken_off next r.attempt) q r.outcome refl refl await.fit) u v

    of : (o : Option Shelved) → shelved_of c key ≡ o → job_runs c ≡ true
        → ReleasesOf o c key a x → ReleasesOf o c key b y → Same a b x y
    of None e job u v = absurd u
    of (Some r) e job u v =
        late r (found_is (IsShelvedWell c) (has_key key) c.shelf r (sound.shelf job).each e)
        (running_of c r.attempt) refl u v

    by : (z : Bool) → job_runs c ≡ z → ReleasesIf z c key a x → ReleasesIf z c key b y
        → Same a b x y
    by false e (u, is) (v, is') = (u ∙ sym v, is ∙ sym is')
    by true e u v = of (shelved_of c key) refl e u v
steps_agree_by calls others one c (Side event) a b x y sound s t =
    steps_aside_agree c x y event a b s t
steps_agree_by calls others one c (TellLost exec) a b x y sound (may, s) (may', t) =
    by (are_lost (without_executor c exec).dag.tracker.trust) s t
  where
    next : CoreData
    next = without_executor c exec

    by : (z : Bool) → LosesOrAborts z next a x → LosesOrAborts z next b y → Same a b x y
    by true (u, is) (v, is') = (u ∙ sym v, is ∙ sym is')
    by false (u, is) (v, is') = (u ∙ sym v, is ∙ sym is')

pub replays_agree_by : StepsKeepSound → StepsAgree → ReplaysAgree
replays_agree_by keep agree opening x y [] sound e f = e ∙ sym f
replays_agree_by keep agree opening x y (entry ∷ entries) sound (m, s, rest) (n, t, rest') =
    let same : m ≡ n =
    (agree opening entry.event entry.answer entry.answer m n sound s t).1 in
    replays_agree_by keep agree n x y entries
    (keep opening n entry.event entry.answer sound t)
    (subst (λ z. Replays z entries x) same rest) rest'
