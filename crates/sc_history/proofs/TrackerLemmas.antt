-- What events do to what is known of where map outputs lie.
use Rattle.std.proofs.Common.{◌≡◌, ◌⊎◌, inl, inr, ℕ, ◌+◌, ◌==◌, ◌&&◌, ◌||◌, not, Bool, true, false, if◌then◌else◌, [], ◌∷◌, Option, Some, None, slice_get, refl, ap, sym, subst, ◌∙◌, arith, true≢false}
use Rattle.std.specs.List.{list_any}
use Rattle.std.proofs.lemmas.Bool.Decides.{nat_tests}
use Rattle.sc_ids.specs.declared.attempts.AttemptId.{AttemptId}
use Rattle.sc_ids.specs.declared.blocks.BlockId.{BlockId}
use Rattle.sc_ids.specs.declared.blocks.Loc.{Loc}
use Rattle.sc_ids.specs.declared.failures.FailureCause.{FailureCause}
use Rattle.sc_ids.specs.declared.failures.FailureCause.TheVariants as causes
use Rattle.sc_commit.specs.declared.committers.Ending.TheVariants as endings
use Rattle.sc_taskset.specs.declared.tasks.Verdict.{Verdict}
use Rattle.sc_taskset.specs.declared.tasks.Verdict.TheVariants as verdicts
use Rattle.sc_tracker.specs.TrackerData.{TrackerData}
use Rattle.sc_tracker.specs.Tracking.{after_executor_lost, after_gone, is_bogus, registered}
use Rattle.sc_tracker.specs.Trust.{is_live, is_newer}
use Rattle.sc_dag.specs.DagData.{DagData, stage_at}
use Rattle.sc_dag.specs.Losses.{after_lost, after_seen}
use Rattle.sc_dag.specs.Outputs.{is_complete}
use Rattle.sc_dag.specs.Reports.{FailsStage, after_failed, after_map_success, block_by, ended_in_own, is_finished_short, is_of_newest, is_repeat, map_success_of, reaches_limit_in, registered_by, set_of, succeeded_in_both, succeeded_in_own, with_output}
use Rattle.sc_dag.specs.Submission.{is_map}
use Rattle.sc_dag.specs.declared.reports.Success.{Success}
use Rattle.sc_dag.specs.declared.reports.Success.TheVariants as successes
use Rattle.sc_dag.proofs.Tests.{both_left, both_right}
use Rattle.sc_core.proofs.SideLemmas.{held_tracker, steps_aside}
use Rattle.sc_core.specs.CoreData.{CoreData, job_runs, shelved_of, with_dag}
use Rattle.sc_core.specs.Losses.{Loses, attempts_on}
use Rattle.sc_core.specs.Posts.{fits}
use Rattle.sc_core.specs.Sides.{StepsAside}
use Rattle.sc_core.specs.Sound.{IsSoundCore}
use Rattle.sc_core.specs.Steps.{Steps}
use Rattle.sc_core.specs.Takes.{Takes}
use Rattle.sc_core.specs.Tells.{FailsBy, FailsOrAborts, FollowsUp, IsGone, LooksAgain, Misses, MissesIf, Tells, TellsFailure, TellsFailureIf, TellsMap, after_failure, is_zombie_in}
use Rattle.sc_core.specs.declared.answers.Answer.{Answer}
use Rattle.sc_core.specs.declared.events.Event.{Event}
use Rattle.sc_core.specs.declared.events.Event.TheVariants.{Post, Release, Side, Take, TellLost}
use Rattle.sc_core.specs.declared.events.Outcome.{Outcome}
use Rattle.sc_core.specs.declared.events.SideEvent.{SideEvent}
use Rattle.sc_core.specs.declared.events.Outcome.TheVariants as outcomes
use Rattle.sc_core.specs.declared.running.Running.{Running}
use Rattle.sc_core.specs.declared.running.Shelved.{Shelved}
use Rattle.sc_core.proofs.LawLemmas.{steps_keep_sound}
use Rattle.sc_core.proofs.TakeCases.{TakesSo, takes_so}
use Rattle.sc_history.specs.Tellings.{is_heard, telling, tellings_in, told_late}
use Rattle.sc_history.specs.Trackers.{EpochsCount, LosesOne, RegistersOwn, SeesNewer, StepsCountEpochs, StepsTrack, Tracks, finds_newer, forgets, shows_newer, tells_newer, times_forgotten}
use Rattle.sc_history.proofs.CauseCases.{CauseIs, cause_is, gone_reaches_none, tells_heard}
use Rattle.sc_history.proofs.Events.{Comes, IsHeard, IsKnown, losses_come, posts_come, releases_come}
use Rattle.sc_history.proofs.RoomLemmas.{all_tracker, released_tracker, results_same}
use Rattle.sc_history.proofs.StageRoomLemmas.{both_tracker}

-- ---- stages

fails_tracker : (d after : DagData) (s number : ℕ) (verdict : Verdict)
    → FailsStage d s number verdict after → after.tracker ≡ d.tracker
fails_tracker d after s number verdicts.Limit (often, is) = ap (λ (x : DagData). x.tracker) is
fails_tracker d after s number verdicts.Again (often, (looked, are, is)) =
    ap (λ (x : DagData). x.tracker) is

follows_tracker : (success : Success) (mid after : DagData) (s : ℕ)
    → FollowsUp success mid s after → after.tracker ≡ mid.tracker
follows_tracker success mid after s h = by success h
  where
    looks : (x y : Bool) → LooksAgain x y mid s after → after.tracker ≡ mid.tracker
    looks true y (looked, are, is) = ap (λ (x : DagData). x.tracker) is
    looks false true (looked, are, is) = ap (λ (x : DagData). x.tracker) is
    looks false false is = ap (λ (x : DagData). x.tracker) is

    by : (success : Success) → FollowsUp success mid s after → after.tracker ≡ mid.tracker
    by successes.Repeated is = ap (λ (x : DagData). x.tracker) is
    by successes.Registered k = looks (is_complete mid s) (is_finished_short mid s) k
    by successes.Bogus k = looks (is_complete mid s) (is_finished_short mid s) k
    by successes.Finished k = looks (is_complete mid s) (is_finished_short mid s) k

-- ---- map successes

-- the block of an attempt is registered there, where nothing rules it out
record RegistersAt (d : DagData) (a : AttemptId) (loc : Loc) (epoch : ℕ) (after : TrackerData)
    : Type 0 where
  block : BlockId
  own : block_by (stage_at d a.stage).target a.partition ≡ Some block
  trusted : is_bogus d.tracker loc epoch ≡ false
  is : after ≡ registered d.tracker block loc

abbrev MapTracks : DagData → AttemptId → Loc → ℕ → TrackerData → Type 0
MapTracks d a loc epoch after = (after ≡ d.tracker) ⊎ RegistersAt d a loc epoch after

map_tracks : (d : DagData) (a : AttemptId) (loc : Loc) (epoch now : ℕ)
    → MapTracks d a loc epoch (after_map_success d a loc epoch now).tracker
map_tracks d a loc epoch now = by (is_repeat d a) (is_bogus d.tracker loc epoch) refl
  where
    placed : is_bogus d.tracker loc epoch ≡ false → (o : Option BlockId)
        → block_by (stage_at d a.stage).target a.partition ≡ o → (u : TrackerData)
        → u ≡ registered_by d.tracker o loc → MapTracks d a loc epoch u
    placed f None e u is = inl is
    placed f (Some block) e u is =
        inr (record { block = block; own = e; trusted = f; is = is })

    by : (x y : Bool) → is_bogus d.tracker loc epoch ≡ y
        → MapTracks d a loc epoch (if x then ended_in_own d a
        else if y then succeeded_in_own d a now
        else succeeded_in_both (with_output d a loc) a now).tracker
    by true y f = inl refl
    by false true f = inl refl
    by false false f =
        placed f (block_by (stage_at d a.stage).target a.partition) refl
        (succeeded_in_both (with_output d a loc) a now).tracker
        (both_tracker (with_output d a loc) a now)

maps_track : (c after : CoreData) (r : Running) (loc : Loc) (answer : Answer)
    → TellsMap c r loc answer after
    → MapTracks c.dag r.hand_out.attempt loc r.hand_out.epoch after.dag.tracker
maps_track c after r loc answer (next, up, told, is) =
    subst (MapTracks c.dag a loc r.hand_out.epoch)
    (sym (ap (λ (x : CoreData). x.dag.tracker) is
    ∙ follows_tracker (map_success_of c.dag a loc r.hand_out.epoch)
    (after_map_success c.dag a loc r.hand_out.epoch c.now) next a.stage up))
    (map_tracks c.dag a loc r.hand_out.epoch c.now)
  where
    a : AttemptId
    a = r.hand_out.attempt

-- ---- other reports

pub misses_same : (c after : CoreData) (a : AttemptId) (answer : Answer)
    → Misses c a answer after → after.dag.tracker ≡ c.dag.tracker
misses_same c after a answer miss =
    by (is_of_newest c.dag a && not (is_complete c.dag a.stage)) miss
  where
    verdict_same : (verdict : Verdict) (d : DagData) → d.tracker ≡ c.dag.tracker
        → FailsOrAborts c a verdict d answer after → after.dag.tracker ≡ c.dag.tracker
    verdict_same verdicts.Limit d h (told, is) = ap (λ (z : CoreData). z.dag.tracker) is ∙ h
    verdict_same verdicts.Again d h (told, is) = ap (λ (z : CoreData). z.dag.tracker) is ∙ h

    by : (b : Bool) → MissesIf b c a answer after → after.dag.tracker ≡ c.dag.tracker
    by true (verdict, d, f, or) =
        verdict_same verdict d (fails_tracker c.dag d a.stage a.stage_attempt verdict f) or
    by false (told, is) = ap (λ (z : CoreData). z.dag.tracker) is

-- a core whose tracker is the same as before
failure_same : (c : CoreData) (a : AttemptId) (cause : FailureCause)
    → (after_failure c a cause).dag.tracker ≡ c.dag.tracker
failure_same c a cause =
    released_tracker (with_dag c (after_failed c.dag a cause)) a endings.Failed

gone_tracks : (c after : CoreData) (a : AttemptId) (exec wanted found : ℕ) (zombie : Bool)
    (answer : Answer) → FailsBy (causes.Gone exec wanted found) zombie c a answer after
    → after.dag.tracker ≡ after_gone c.dag.tracker exec found
gone_tracks c after a exec wanted found zombie answer h =
    by (is_newer (slice_get c.dag.tracker.trust exec) found) zombie refl h
  where
    by : (x y : Bool) → is_newer (slice_get c.dag.tracker.trust exec) found ≡ x
        → IsGone x y c a exec found answer after
        → after.dag.tracker ≡ after_gone c.dag.tracker exec found
    by true y e k = misses_same (with_dag c (after_seen c.dag exec found)) after a answer k
    by false true e (told, is) = rw e (ap (λ (z : CoreData). z.dag.tracker) is)
    by false false e k = rw e (misses_same c after a answer k)

-- what a failure leaves: an event where it shows a newer generation, and else none
abbrev FailureTracks : TrackerData → FailureCause → TrackerData → Type 0
FailureTracks t cause after =
    ((exec : ℕ) × (found : ℕ)
    × (is_newer (slice_get t.trust exec) found ≡ finds_newer t cause)
    × (after ≡ after_gone t exec found))
    ⊎ ((finds_newer t cause ≡ false) × (after ≡ t))

failures_track : (c after : CoreData) (r : Running) (cause : FailureCause) (answer : Answer)
    → TellsFailure c r cause answer after
    → FailureTracks c.dag.tracker cause after.dag.tracker
failures_track c after r cause answer tells =
    by (reaches_limit_in (set_of c.dag a) a cause) refl tells (cause_is cause)
  where
    a : AttemptId
    a = r.hand_out.attempt

    failed : CoreData
    failed = after_failure c r.hand_out.attempt cause

    same : failed.dag.tracker ≡ c.dag.tracker
    same = failure_same c r.hand_out.attempt cause

    by : (b : Bool) → reaches_limit_in (set_of c.dag a) a cause ≡ b
        → TellsFailureIf b c a cause answer after → CauseIs cause
        → FailureTracks c.dag.tracker cause after.dag.tracker
    by false e h (inl g) = inl (
      g.exec,
      g.found,
      ap (finds_newer c.dag.tracker) (sym g.is),
      gone_tracks failed after a g.exec g.wanted g.found (is_zombie_in (set_of c.dag a)) answer
          (subst (λ x. FailsBy x (is_zombie_in (set_of c.dag a)) failed a answer after) g.is h)
          ∙ ap (λ t. after_gone t g.exec g.found) same,
    )
    by true e (told, is) (inl g) =
        absurd (true≢false (sym e
        ∙ ap (reaches_limit_in (set_of c.dag a) a) g.is
        ∙ gone_reaches_none (set_of c.dag a) a g.exec g.wanted g.found))
    by true e (told, is) (inr (inl m)) =
        inr (rw m.is refl, ap (λ (z : CoreData). z.dag.tracker) is ∙ same)
    by true e (told, is) (inr (inr p)) =
        inr (p.old c.dag.tracker, ap (λ (z : CoreData). z.dag.tracker) is ∙ same)
    by false e h (inr (inl m)) = inr (
      rw m.is refl,
      misses_same failed after a answer
          (subst (λ x. FailsBy x (is_zombie_in (set_of c.dag a)) failed a answer after) m.is h)
          ∙ same,
    )
    by false e h (inr (inr p)) = inr (
      p.old c.dag.tracker,
      ap (λ (z : CoreData). z.dag.tracker)
          (p.stays (is_zombie_in (set_of c.dag a)) failed after a answer h).1
          ∙ same,
    )

-- ---- one event

-- what may be learnt from a report
abbrev pub Learns : CoreData → TrackerData → Type 0
Learns c after =
    (after ≡ c.dag.tracker) ⊎ (RegistersOwn c after ⊎ SeesNewer c.dag.tracker after)

-- an event that tells no loss, and how often outputs of an executor are forgotten
pub record Counts (c after : CoreData) (event : Event) (answer : Answer) : Type 0 where
  pub learns : Learns c after.dag.tracker
  pub epochs : after.dag.tracker.epoch
      ≡ c.dag.tracker.epoch + (if forgets c event answer then 1 else 0)

-- a loss, likewise
record CountsLoss (c after : CoreData) (event : Event) (answer : Answer) : Type 0 where
  loses : LosesOne c.dag.tracker after.dag.tracker
  epochs : after.dag.tracker.epoch
      ≡ c.dag.tracker.epoch + (if forgets c event answer then 1 else 0)

-- the tracker's epoch stays
none_more : (c after : CoreData) (event : Event) (answer : Answer)
    → after.dag.tracker.epoch ≡ c.dag.tracker.epoch → forgets c event answer ≡ false
    → after.dag.tracker.epoch ≡ c.dag.tracker.epoch + (if forgets c event answer then 1 else 0)
none_more c after event answer same none = rw none (omega (arith, same))

stays : (c after : CoreData) (event : Event) (answer : Answer)
    → after.dag.tracker ≡ c.dag.tracker → forgets c event answer ≡ false
    → Counts c after event answer
stays c after event answer same none =
    record {
      learns = inl same;
      epochs = none_more c after event answer (ap (λ (t : TrackerData). t.epoch) same) none;
    }

-- the reports of an event are one, and what it shows
told_one : (c : CoreData) (event : Event) (answer : Answer) (a : AttemptId) (outcome : Outcome)
    → forgets c event answer ≡ list_any (tells_newer c.dag.tracker) (tellings_in c event answer)
    → tellings_in c event answer ≡ telling a outcome answer ∷ [] → is_heard answer ≡ true
    → forgets c event answer ≡ shows_newer c.dag.tracker outcome
told_one c event answer a outcome is told heard =
    is ∙ ap (list_any (tells_newer c.dag.tracker)) told
    ∙ by (is_heard answer) (shows_newer c.dag.tracker outcome) heard
  where
    by : (x y : Bool) → x ≡ true → ((x && y) || false) ≡ y
    by true true e = refl
    by true false e = refl
    by false y e = absurd (true≢false (sym e))

heard_counts : (c after : CoreData) (event : Event) (answer : Answer) → IsSoundCore c
    → forgets c event answer ≡ list_any (tells_newer c.dag.tracker) (tellings_in c event answer)
    → IsHeard c after event answer → Counts c after event answer
heard_counts c after event answer sound is h =
    by h.outcome (told_one c event answer a h.outcome is known.told heard) known.fit h.tells
  where
    a : AttemptId
    a = h.one.hand_out.attempt

    known : IsKnown c event answer h.one h.outcome
    known = h.known sound

    heard : is_heard answer ≡ true
    heard = tells_heard h.mid after h.one h.outcome answer h.tells

    placed : (loc : Loc) → fits c h.one (outcomes.Map loc) ≡ true
        → RegistersAt c.dag a loc h.one.hand_out.epoch after.dag.tracker
        → RegistersOwn c after.dag.tracker
    placed loc fit at =
        let on : (loc.exec == h.one.exec) ≡ true =
        both_right (is_map (stage_at c.dag h.one.hand_out.attempt.stage).target)
        (loc.exec == h.one.exec) fit in
        let exec : loc.exec ≡ h.one.exec = grind (arith, nat_tests, on) in
        record {
          one = known.ran;
          ran = known.found;
          block = at.block;
          own = rw known.hand at.own;
          loc = loc;
          there = exec ∙ known.exec;
          trusted = rw known.hand at.trusted;
          is = at.is;
        }

    maps : (loc : Loc) → forgets c event answer ≡ false
        → fits c h.one (outcomes.Map loc) ≡ true
        → MapTracks c.dag a loc h.one.hand_out.epoch after.dag.tracker
        → Counts c after event answer
    maps loc none fit (inl same) = stays c after event answer same none
    maps loc none fit (inr at) =
        record {
          learns = inr (inl (placed loc fit at));
          epochs = none_more c after event answer (ap (λ (t : TrackerData). t.epoch) at.is) none;
        }

    newer : (exec found : ℕ) (b : Bool) → is_newer (slice_get c.dag.tracker.trust exec) found ≡ b
        → forgets c event answer ≡ b → after.dag.tracker ≡ after_gone c.dag.tracker exec found
        → Counts c after event answer
    newer exec found true e one gone =
        record {
          learns = inr (inr (record {
            exec = exec;
            found = found;
            newer = e;
            is = gone;
          }));
          epochs = ap (λ (t : TrackerData). t.epoch) gone ∙ (rw (e, one) refl);
        }
    newer exec found false e one gone =
        stays c after event answer (gone ∙ (rw e refl)) one

    failures : (cause : FailureCause) → forgets c event answer ≡ finds_newer c.dag.tracker cause
        → FailureTracks c.dag.tracker cause after.dag.tracker → Counts c after event answer
    failures cause shows (inl (exec, found, newest, gone)) =
        newer exec found (is_newer (slice_get c.dag.tracker.trust exec) found) refl
        (shows ∙ sym newest) gone
    failures cause shows (inr (old, same)) = stays c after event answer same (shows ∙ old)

    by : (outcome : Outcome) → forgets c event answer ≡ shows_newer c.dag.tracker outcome
        → fits c h.one outcome ≡ true → Tells h.mid h.one outcome answer after
        → Counts c after event answer
    by (outcomes.Map loc) shows fit tells =
        maps loc shows fit
        (subst (λ (d : DagData). MapTracks d a loc h.one.hand_out.epoch after.dag.tracker) h.dag
        (maps_track h.mid after h.one loc answer tells))
    by outcomes.Result shows fit tells =
        stays c after event answer
        (results_same h.mid after h.one answer tells ∙ ap (λ (d : DagData). d.tracker) h.dag)
        shows
    by (outcomes.Failed cause) shows fit tells =
        failures cause shows
        (subst (λ (d : DagData). FailureTracks d.tracker cause after.dag.tracker) h.dag
        (failures_track h.mid after h.one cause answer tells))

-- a report that isn't heard shows nothing
unheard : (c : CoreData) (a : AttemptId) (outcome : Outcome) (answer : Answer)
    → is_heard answer ≡ false
    → list_any (tells_newer c.dag.tracker) (telling a outcome answer ∷ []) ≡ false
unheard c a outcome answer e = ap (λ b. (b && shows_newer c.dag.tracker outcome) || false) e

posts_count : (c after : CoreData) (a : AttemptId) (outcome : Outcome) (answer : Answer)
    → IsSoundCore c → Comes c after (Post a outcome) answer
    → Counts c after (Post a outcome) answer
posts_count c after a outcome answer sound (inl q) =
    stays c after (Post a outcome) answer (held_tracker c.dag after.dag q.dag)
    (unheard c a outcome answer q.unheard)
posts_count c after a outcome answer sound (inr h) =
    heard_counts c after (Post a outcome) answer sound refl h

releases_count : (c after : CoreData) (key : ℕ) (answer : Answer)
    → IsSoundCore c → Comes c after (Release key) answer → Counts c after (Release key) answer
releases_count c after key answer sound (inl q) =
    stays c after (Release key) answer (held_tracker c.dag after.dag q.dag)
    (by (shelved_of c key))
  where
    by : (o : Option Shelved)
        → list_any (tells_newer c.dag.tracker) (told_late o answer) ≡ false
    by None = refl
    by (Some s) = unheard c s.attempt s.outcome answer q.unheard
releases_count c after key answer sound (inr h) =
    heard_counts c after (Release key) answer sound refl h

takes_count : (c after : CoreData) (exec : ℕ) (answer : Answer) → Takes c exec answer after
    → Counts c after (Take exec) answer
takes_count c after exec answer h = by (takes_so c after exec answer h)
  where
    so : after.dag.tracker ≡ c.dag.tracker → Counts c after (Take exec) answer
    so same = stays c after (Take exec) answer same refl

    by : TakesSo c after exec answer → Counts c after (Take exec) answer
    by (inl t) = so (ap (λ (x : CoreData). x.dag.tracker) t.is)
    by (inr (inl b)) = so (ap (λ (x : CoreData). x.dag.tracker) b.is)
    by (inr (inr same)) = so (ap (λ (x : CoreData). x.dag.tracker) same.is)

sides_count : (c after : CoreData) (event : SideEvent) (answer : Answer)
    → StepsAside c event answer after → Counts c after (Side event) answer
sides_count c after event answer step =
    stays c after (Side event) answer
    (held_tracker c.dag after.dag (steps_aside c after event answer step).dag) refl

loses_count : (c after : CoreData) (exec : ℕ) (answer : Answer) → Loses c exec answer after
    → CountsLoss c after (TellLost exec) answer
loses_count c after exec answer step =
    record {
      loses = record { exec = exec; live = live; is = lost };
      epochs = ap (λ (t : TrackerData). t.epoch) lost ∙ (rw live refl);
    }
  where
    live : is_live (slice_get c.dag.tracker.trust exec) ≡ true
    live = both_left (is_live (slice_get c.dag.tracker.trust exec)) _
        (both_right (job_runs c) _ step.0)

    from : CoreData
    from = with_dag c (after_lost c.dag exec)

    lost : after.dag.tracker ≡ after_executor_lost c.dag.tracker exec
    lost =
        ap (λ (d : DagData). d.tracker) (losses_come c after exec answer step).dag
        ∙ all_tracker (attempts_on exec c.running) from

-- what any event does
record Goes (c after : CoreData) (event : Event) (answer : Answer) : Type 0 where
  tracks : Tracks c after.dag.tracker
  epochs : after.dag.tracker.epoch
      ≡ c.dag.tracker.epoch + (if forgets c event answer then 1 else 0)

counted : (c after : CoreData) (event : Event) (answer : Answer) → Counts c after event answer
    → Goes c after event answer
counted c after event answer n = record { tracks = by n.learns; epochs = n.epochs }
  where
    by : Learns c after.dag.tracker → Tracks c after.dag.tracker
    by (inl same) = inl same
    by (inr (inl r)) = inr (inl r)
    by (inr (inr x)) = inr (inr (inl x))

-- an event that tells no loss
abbrev pub TellsNoLoss : Event → Type 0
TellsNoLoss (TellLost exec) = ⊥
TellsNoLoss event = Unit {0}

pub others_count : (c after : CoreData) (event : Event) (answer : Answer) → IsSoundCore c
    → Steps c event answer after → TellsNoLoss event → Counts c after event answer
others_count c after (Take exec) answer sound step other = takes_count c after exec answer step
others_count c after (Post a outcome) answer sound step other =
    posts_count c after a outcome answer sound (posts_come c after a outcome answer step)
others_count c after (Release key) answer sound step other =
    releases_count c after key answer sound (releases_come c after key answer step)
others_count c after (Side event) answer sound step other =
    sides_count c after event answer step
others_count c after (TellLost exec) answer sound step other = absurd other

steps_count : (c after : CoreData) (event : Event) (answer : Answer) → IsSoundCore c
    → Steps c event answer after → Goes c after event answer
steps_count c after (Take exec) answer sound step =
    counted c after (Take exec) answer (others_count c after (Take exec) answer sound step tt)
steps_count c after (Post a outcome) answer sound step =
    counted c after (Post a outcome) answer
    (others_count c after (Post a outcome) answer sound step tt)
steps_count c after (Release key) answer sound step =
    counted c after (Release key) answer
    (others_count c after (Release key) answer sound step tt)
steps_count c after (Side event) answer sound step =
    counted c after (Side event) answer (others_count c after (Side event) answer sound step tt)
steps_count c after (TellLost exec) answer sound step =
    let n = loses_count c after exec answer step in
    record { tracks = inr (inr (inr n.loses)); epochs = n.epochs }

pub steps_track : StepsTrack
steps_track c after event answer sound step = (steps_count c after event answer sound step).tracks

pub steps_count_epochs : StepsCountEpochs
steps_count_epochs c after event answer sound step =
    (steps_count c after event answer sound step).epochs

no_more : (n : ℕ) → n ≡ n + 0
no_more n = omega arith

sums : (a b c x y : ℕ) → b ≡ a + x → c ≡ b + y → c ≡ a + (x + y)
sums a b c x y e f = omega (arith, e, f)

pub epochs_count : EpochsCount
epochs_count opening end [] sound is =
    ap (λ (c : CoreData). c.dag.tracker.epoch) is ∙ no_more opening.dag.tracker.epoch
epochs_count opening end (entry ∷ entries) sound (mid, step, rest) =
    sums opening.dag.tracker.epoch mid.dag.tracker.epoch end.dag.tracker.epoch
    (if forgets opening entry.event entry.answer then 1 else 0)
    (times_forgotten mid entries end rest)
    (steps_count_epochs opening mid entry.event entry.answer sound step)
    (epochs_count mid end entries
    (steps_keep_sound opening mid entry.event entry.answer sound step) rest)
