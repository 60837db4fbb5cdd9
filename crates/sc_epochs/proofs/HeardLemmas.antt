-- What a report that is heard leaves of when attempts began.
use Rattle.std.proofs.Common.{◌≡◌, inl, inr, ℕ, ◌<◌, ◌≤◌, ◌-◌, ◌==◌, ◌&&◌, not, Bool, true, false, if◌then◌else◌, List, [], ◌∷◌, IfSome, length, Option, Some, None, option_map, slice_get, refl, ap, sym, subst, ◌∙◌, arith, rules}
use Rattle.std.proofs.lemmas.Bool.Decides.{nat_tests}
use Rattle.sc_base.specs.Lists.{at_or}
use Rattle.sc_ids.specs.Graphs.{StageData}
use Rattle.sc_ids.specs.declared.attempts.AttemptId.{AttemptId}
use Rattle.sc_ids.specs.declared.blocks.Loc.{Loc}
use Rattle.sc_ids.specs.declared.failures.FailureCause.{FailureCause}
use Rattle.sc_ids.specs.declared.failures.FailureCause.TheVariants as causes
use Rattle.sc_commit.specs.Committers.{committer_at}
use Rattle.sc_commit.specs.Committing.{holds}
use Rattle.sc_commit.specs.declared.committers.Ending.{Ending}
use Rattle.sc_commit.specs.declared.committers.Ending.TheVariants as endings
use Rattle.sc_taskset.specs.TaskSetData.{TaskSetData}
use Rattle.sc_taskset.specs.declared.tasks.Verdict.{Verdict}
use Rattle.sc_taskset.specs.declared.tasks.Verdict.TheVariants as verdicts
use Rattle.sc_taskset.proofs.FindLemmas.{found_is}
use Rattle.sc_tracker.specs.TrackerData.{trust_of}
use Rattle.sc_tracker.specs.Tracking.{after_gone, is_bogus}
use Rattle.sc_tracker.specs.Trust.{is_marked, is_newer}
use Rattle.sc_dag.specs.DagData.{DagData, StageState, is_live, is_live_set, newest_at, no_stage, place_of_attempt, set_in, stage_at, with_state}
use Rattle.sc_dag.specs.Laws.{IsChargeable}
use Rattle.sc_dag.specs.Losses.{after_seen}
use Rattle.sc_dag.specs.Offers.{newest_number, number_in}
use Rattle.sc_dag.specs.Outputs.{is_complete}
use Rattle.sc_dag.specs.Reports.{FailsStage, after_failed, after_hold, after_map_success, completed, failed_attempt, is_finished_short, is_of_newest, map_success_of, reaches_limit_in, result_success_of, set_of, with_failed}
use Rattle.sc_dag.specs.Settled.{IsSettled}
use Rattle.sc_dag.specs.Sound.{IsSoundDag, runner_of}
use Rattle.sc_dag.specs.Submission.{is_idle_in, is_map, this_stage, waiting_stages}
use Rattle.sc_dag.specs.declared.attempts.StageAttempt.{StageAttempt}
use Rattle.sc_dag.specs.declared.reports.Success.{Success}
use Rattle.sc_dag.specs.declared.reports.Success.TheVariants as successes
use Rattle.sc_dag.proofs.CalmCalls.{others_go_on}
use Rattle.sc_dag.proofs.Keeping.{completed_sound, with_failed_sound}
use Rattle.sc_dag.proofs.Moving.{newest_among}
use Rattle.sc_dag.proofs.Runners.{place_newest}
use Rattle.sc_dag.proofs.SoundAttempts.{newest_changed}
use Rattle.sc_dag.proofs.SoundCalls.{calls_keep_sound}
use Rattle.sc_dag.proofs.Tests.{both_left, both_right, not_true}
use Rattle.sc_ids.proofs.ChangeLemmas.{slice_get_change_same}
use Rattle.sc_core.specs.CoreData.{CoreData, is_of, job_runs, running_of, with_dag}
use Rattle.sc_core.specs.HandOuts.{HandOutData}
use Rattle.sc_core.specs.Posts.{fits, fits_failure}
use Rattle.sc_core.specs.Sound.{IsSoundCore, RunsWell, WasHandedOut}
use Rattle.sc_core.specs.Tells.{FailsBy, FailsOrAborts, FollowsUp, IsGone, LooksAgain, Misses, MissesIf, Tells, TellsFailureIf, TellsMap, TellsResult, after_failure, after_result, done_if, is_zombie_in, released, with_result_of}
use Rattle.sc_core.specs.declared.answers.Answer.{Answer}
use Rattle.sc_core.specs.declared.events.Event.{Event}
use Rattle.sc_core.specs.declared.events.Outcome.{Outcome}
use Rattle.sc_core.specs.declared.events.Outcome.TheVariants as outcomes
use Rattle.sc_core.specs.declared.running.Running.{Running}
use Rattle.sc_core.proofs.CallCarryLemmas.{failed_carries}
use Rattle.sc_core.proofs.CarryLemmas.{Carries, carries_then, handed_still}
use Rattle.sc_core.proofs.ChargeLemmas.{IsLate, gone_late, late_charges, missing_late, seen_late}
use Rattle.sc_core.proofs.ResultLemmas.{Frees, frees}
use Rattle.sc_history.specs.Tellings.{telling, tellings_in}
use Rattle.sc_history.proofs.CauseCases.{CauseIs, cause_is}
use Rattle.sc_history.proofs.Events.{IsHeard, IsKnown}
use Rattle.sc_epochs.specs.Apart.{AreBornApart}
use Rattle.sc_epochs.proofs.ApartLemmas.{Never, Stills, Waits, never_apart, stills_same, stills_then, tamed_waits}
use Rattle.sc_epochs.proofs.CallLemmas.{completed_stills, failed_stills, hold_stills, marked_stills, result_apart, seen_apart}
use Rattle.sc_epochs.proofs.MapLemmas.{map_apart, map_waits}
use Rattle.sc_epochs.proofs.SubmitLemmas.{submitted_apart}

-- where the output that a report tells is bogus, the epoch of its task alone rules it out
abbrev pub RulesByEpoch : CoreData → Event → Answer → Type 0
RulesByEpoch c event answer =
    (r : Running) (loc : Loc) → job_runs c ≡ true → running_of c r.hand_out.attempt ≡ Some r
    → tellings_in c event answer ≡ telling r.hand_out.attempt (outcomes.Map loc) answer ∷ []
    → is_bogus c.dag.tracker loc r.hand_out.epoch ≡ true
    → is_marked (trust_of c.dag.tracker loc.exec).mark r.hand_out.epoch ≡ true

pub released_stills : (c : CoreData) (a : AttemptId) (how : Ending)
    → Stills Never c.dag (released c a how).dag
released_stills c a how = by (holds a (committer_at c.committers a.partition))
  where
    by : (b : Bool)
        → Stills Never c.dag (if b then after_hold c.dag a.stage a.partition false else c.dag)
    by true = hold_stills Never c.dag a.stage a.partition false
    by false = stills_same Never c.dag

-- ---- a map success

-- a stage is looked at behind it
follows_apart : (success : Success) (mid after : DagData) (s : ℕ) → IsSoundDag mid
    → ((k : ℕ) → waiting_stages mid k ≡ true → is_live_set (newest_at mid k) ≡ false)
    → FollowsUp success mid s after → AreBornApart mid → AreBornApart after
follows_apart success mid after s sound dead h apart = by success h
  where
    same : after ≡ mid → AreBornApart after
    same is = subst AreBornApart (sym is) apart

    done : DagData
    done = with_state mid s completed

    waits : Waits mid (with_state mid s completed)
    waits = tamed_waits Never mid done (completed_stills Never mid s).tamed

    idle : (o : Option StageState) → is_idle_in o ≡ true → is_live_set (newest_among o) ≡ false
    idle None e = refl
    idle (Some state) e = not_true (is_live state) (both_right (not state.waits) _ e)

    looks : (x y : Bool) → is_finished_short mid s ≡ y → LooksAgain x y mid s after
        → AreBornApart after
    looks true y e k =
        submitted_apart done after (waiting_stages done) (completed_sound mid s sound)
        (λ r w. waits.dead r (dead r (waits.waits r w))) k
        (never_apart mid done (completed_stills Never mid s) apart)
    looks false true e k =
        submitted_apart mid after (this_stage s) sound
        (λ r is. (let at : r ≡ s = grind (arith, nat_tests, is) in
        subst (λ (n : ℕ). is_live_set (newest_at mid n) ≡ false) (sym at)
        (idle (slice_get mid.states s)
        (both_left (is_idle_in (slice_get mid.states s)) _
        (both_right (not (is_complete mid s)) _ e)))))
        k apart
    looks false false e is = same is

    by : (success : Success) → FollowsUp success mid s after → AreBornApart after
    by successes.Repeated is = same is
    by successes.Registered k = looks (is_complete mid s) (is_finished_short mid s) refl k
    by successes.Bogus k = looks (is_complete mid s) (is_finished_short mid s) refl k
    by successes.Finished k = looks (is_complete mid s) (is_finished_short mid s) refl k

-- ---- a failed attempt of a stage

-- the newest set of a stage that has failed hands out nothing more
failed_dead : (d : DagData) (s number : ℕ) → number ≡ newest_number d s
    → is_live_set (newest_at (with_state d s (with_failed number)) s) ≡ false
failed_dead d s number is =
    ap (λ o. is_live_set (newest_among o))
    (slice_get_change_same d.states s (with_failed number))
    ∙ by (slice_get d.states s) refl
  where
    none : (o : Option StageAttempt)
        → is_live_set (set_in (option_map failed_attempt o)) ≡ false
    none None = refl
    none (Some a) = refl

    by : (o : Option StageState) → slice_get d.states s ≡ o
        → is_live_set (newest_among (option_map (with_failed number) o)) ≡ false
    by None e = refl
    by (Some state) e =
        ap (λ o. is_live_set (set_in o))
        (newest_changed state.attempts (place_of_attempt state number) failed_attempt
        (place_newest state number (is ∙ ap number_in e)))
        ∙ none (slice_get state.attempts (length state.attempts - 1))

marked_sound : (d : DagData) (s number : ℕ) → IsSoundDag d → IsChargeable d s number
    → IsSoundDag (with_state d s (with_failed number))
marked_sound d s number sound charge =
    with_failed_sound d s number sound (λ state at. (
      place_newest state number (charge.newest ∙ ap number_in at),
      by (slice_get state.attempts (length state.attempts - 1))
          (subst (λ o. IfSome o (λ set. set.born < d.tracker.epoch)) (ap newest_among at)
          charge.begun),
    ))
  where
    by : (o : Option StageAttempt) → IfSome (set_in o) (λ set. set.born < d.tracker.epoch)
        → IfSome o (λ a. a.set.born < d.tracker.epoch)
    by None h = tt
    by (Some a) h = h

fails_apart : (d after : DagData) (s number : ℕ) (verdict : Verdict) → IsSoundDag d
    → IsChargeable d s number → FailsStage d s number verdict after → AreBornApart d
    → AreBornApart after
fails_apart d after s number verdict sound charge fails apart = by verdict fails
  where
    marked : DagData
    marked = with_state d s (with_failed number)

    left : AreBornApart (with_state d s (with_failed number))
    left = never_apart d marked (marked_stills Never d s number) apart

    by : (verdict : Verdict) → FailsStage d s number verdict after → AreBornApart after
    by verdicts.Limit (often, is) = subst AreBornApart (sym is) left
    by verdicts.Again (few, sent) =
        submitted_apart marked after (this_stage s) (marked_sound d s number sound charge)
        (λ r is. (let at : r ≡ s = grind (arith, nat_tests, is) in
        subst (λ (n : ℕ). is_live_set (newest_at marked n) ≡ false) (sym at)
        (failed_dead d s number charge.newest)))
        sent left

misses_apart : (c after : CoreData) (a : AttemptId) (answer : Answer) → IsSoundDag c.dag
    → IsLate c.dag a → Misses c a answer after → AreBornApart c.dag → AreBornApart after.dag
misses_apart c after a answer sound late miss apart =
    by (is_of_newest c.dag a && not (is_complete c.dag a.stage)) refl miss
  where
    judged : (verdict : Verdict) (d : DagData) → AreBornApart d
        → FailsOrAborts c a verdict d answer after → AreBornApart after.dag
    judged verdicts.Again d h (told, is) =
        subst (λ (x : CoreData). AreBornApart x.dag) (sym is) h
    judged verdicts.Limit d h (told, is) =
        subst (λ (x : CoreData). AreBornApart x.dag) (sym is) h

    by : (b : Bool) → (is_of_newest c.dag a && not (is_complete c.dag a.stage)) ≡ b
        → MissesIf b c a answer after → AreBornApart after.dag
    by true e (verdict, d, fails, or) =
        let is : (a.stage_attempt == newest_number c.dag a.stage) ≡ true =
        both_left (is_of_newest c.dag a) _ e in
        judged verdict d
        (fails_apart c.dag d a.stage a.stage_attempt verdict sound
        (late_charges c.dag a (grind (arith, nat_tests, is)) late) fails apart) or
    by false e (told, is) = subst (λ (x : CoreData). AreBornApart x.dag) (sym is) apart

-- ---- reports

pub heard_apart : (c after : CoreData) (event : Event) (answer : Answer) → IsSoundCore c
    → RulesByEpoch c event answer → IsHeard c after event answer → AreBornApart c.dag
    → AreBornApart after.dag
heard_apart c after event answer sound rules_by h was =
    by h.outcome known.told known.fit h.tells
  where
    a : AttemptId
    a = h.one.hand_out.attempt

    known : IsKnown c event answer h.one h.outcome
    known = h.known sound

    apart : AreBornApart h.mid.dag
    apart = subst AreBornApart (sym h.dag) was

    well : RunsWell c known.ran
    well =
        found_is (RunsWell c) (is_of known.ran.hand_out.attempt) c.running known.ran
        sound.job.running known.found

    given : WasHandedOut h.mid.dag h.one.hand_out
    given =
        subst (λ d. WasHandedOut d h.one.hand_out) (sym h.dag)
        (subst (λ (x : HandOutData). WasHandedOut c.dag x) known.hand well.handed_out)

    mid_sound : IsSoundDag h.mid.dag
    mid_sound = subst IsSoundDag (sym h.dag) sound.job.dag

    settled : IsSettled h.mid.dag
    settled = subst IsSettled (sym h.dag) (sound.job.goes_on h.runs).settled

    -- ---- a map success

    begun : (set : TaskSetData) → set_of h.mid.dag a ≡ Some set
        → set.born ≤ h.one.hand_out.epoch
    begun set e =
        let same : Some set.born ≡ Some given.born =
        sym (ap (λ o. option_map (λ (x : TaskSetData). x.born) o) e) ∙ given.is_born in
        let is : set.born ≡ given.born = search (rules, same) in
        let le = given.begun in omega (arith, is, le)

    marked : (loc : Loc)
        → tellings_in c event answer ≡ telling a (outcomes.Map loc) answer ∷ []
        → is_bogus h.mid.dag.tracker loc h.one.hand_out.epoch ≡ true
        → is_marked (trust_of h.mid.dag.tracker loc.exec).mark h.one.hand_out.epoch ≡ true
    marked loc told bogus =
        subst (λ (d : DagData).
        is_marked (trust_of d.tracker loc.exec).mark h.one.hand_out.epoch ≡ true) (sym h.dag)
        (subst (λ (x : HandOutData). tellings_in c event answer
        ≡ telling x.attempt (outcomes.Map loc) answer ∷ []
        → is_bogus c.dag.tracker loc x.epoch ≡ true
        → is_marked (trust_of c.dag.tracker loc.exec).mark x.epoch ≡ true) known.hand
        (rules_by known.ran loc h.runs known.found) told
        (ap (λ (d : DagData). is_bogus d.tracker loc h.one.hand_out.epoch) (sym h.dag) ∙ bogus))

    maps : (loc : Loc)
        → tellings_in c event answer ≡ telling a (outcomes.Map loc) answer ∷ []
        → fits c h.one (outcomes.Map loc) ≡ true → TellsMap h.mid h.one loc answer after
        → AreBornApart after.dag
    maps loc told fit (next, up, said, is) =
        subst (λ (x : CoreData). AreBornApart x.dag) (sym is)
        (follows_apart (map_success_of d a loc h.one.hand_out.epoch) m next a.stage
        ((calls_keep_sound d mid_sound).2 a loc h.one.hand_out.epoch h.mid.now kind runs)
        (λ k w. waits.dead k (settled.dead k (waits.waits k w))) up
        (map_apart d a loc h.one.hand_out.epoch h.mid.now mid_sound kind runs begun
        (marked loc told) apart))
      where
        d : DagData
        d = h.mid.dag

        m : DagData
        m = after_map_success h.mid.dag a loc h.one.hand_out.epoch h.mid.now

        waits : Waits h.mid.dag
            (after_map_success h.mid.dag a loc h.one.hand_out.epoch h.mid.now)
        waits = map_waits d a loc h.one.hand_out.epoch h.mid.now

        kind : is_map (stage_at h.mid.dag a.stage).target ≡ true
        kind =
            ap (λ (x : DagData). is_map (stage_at x a.stage).target) h.dag
            ∙ both_left (is_map (stage_at c.dag a.stage).target) (loc.exec == h.one.exec) fit

        runs : runner_of h.mid.dag a ≡ Some loc.exec
        runs =
            let on : (loc.exec == h.one.exec) ≡ true =
            both_right (is_map (stage_at c.dag a.stage).target) (loc.exec == h.one.exec) fit in
            let exec : loc.exec ≡ h.one.exec = grind (arith, nat_tests, on) in
            ap (λ x. runner_of x a) h.dag ∙ known.in_set ∙ ap (λ (e : ℕ). Some e) (sym exec)

    -- ---- a result

    results : fits c h.one outcomes.Result ≡ true → TellsResult h.mid h.one answer after
        → AreBornApart after.dag
    results fit (said, is) =
        subst (λ (x : CoreData). AreBornApart x.dag) (sym is)
        (won (result_success_of h.mid.dag a))
      where
        kind : is_map (stage_at h.mid.dag a.stage).target ≡ false
        kind =
            ap (λ (x : DagData). is_map (stage_at x a.stage).target) h.dag
            ∙ not_true (is_map (stage_at c.dag a.stage).target) (both_left _ _ fit)

        freed : CoreData
        freed = released h.mid a endings.Succeeded

        calm : Stills Never h.mid.dag (released h.mid a endings.Succeeded).dag
        calm = released_stills h.mid a endings.Succeeded

        so : AreBornApart (with_result_of (released h.mid a endings.Succeeded) a).dag
        so =
            result_apart freed.dag a freed.now
            (subst (λ (stages : List StageData).
            is_map (at_or stages a.stage no_stage).target ≡ false) (sym calm.tamed.stages) kind)
            (never_apart h.mid.dag freed.dag calm apart)

        done : (b : Bool) (m : CoreData) → AreBornApart m.dag → AreBornApart (done_if b m).dag
        done true m k = k
        done false m k = k

        all : AreBornApart (done_if (is_complete (with_result_of freed a).dag a.stage)
            (with_result_of (released h.mid a endings.Succeeded) a)).dag
        all = done (is_complete (with_result_of freed a).dag a.stage) (with_result_of freed a) so

        won : (s : Success) → AreBornApart (after_result s h.mid a).dag
        won successes.Repeated = result_apart h.mid.dag a h.mid.now kind apart
        won successes.Registered = all
        won successes.Bogus = all
        won successes.Finished = all

    -- ---- a failure

    free : (cause : FailureCause)
        → Frees (after_failed h.mid.dag a cause) (after_failure h.mid a cause).dag
    free cause =
        frees calls_keep_sound others_go_on (with_dag h.mid (after_failed h.mid.dag a cause)) a
        endings.Failed

    left_sound : (cause : FailureCause) → IsSoundDag (after_failure h.mid a cause).dag
    left_sound cause = (free cause).sound ((calls_keep_sound h.mid.dag mid_sound).4 a cause)

    carries : (cause : FailureCause) → Carries h.mid.dag (after_failure h.mid a cause).dag
    carries cause =
        carries_then h.mid.dag (after_failed h.mid.dag a cause) (after_failure h.mid a cause).dag
        (failed_carries h.mid.dag a cause) (free cause).carries

    handed : (cause : FailureCause) → WasHandedOut (after_failure h.mid a cause).dag h.one.hand_out
    handed cause =
        handed_still h.mid.dag (after_failure h.mid a cause).dag h.one.hand_out (carries cause)
        given

    left : (cause : FailureCause) → AreBornApart (after_failure h.mid a cause).dag
    left cause =
        never_apart h.mid.dag (after_failure h.mid a cause).dag
        (stills_then Never h.mid.dag (after_failed h.mid.dag a cause)
        (after_failure h.mid a cause).dag (failed_stills Never h.mid.dag a cause)
        (released_stills (with_dag h.mid (after_failed h.mid.dag a cause)) a endings.Failed))
        apart

    same : (cause : FailureCause) → after ≡ after_failure h.mid a cause → AreBornApart after.dag
    same cause is = subst (λ (x : CoreData). AreBornApart x.dag) (sym is) (left cause)

    gone : (exec wanted found : ℕ) → fits_failure h.one (causes.Gone exec wanted found) ≡ true
        → (zombie : Bool)
        → FailsBy (causes.Gone exec wanted found) zombie
        (after_failure h.mid a (causes.Gone exec wanted found)) a answer after
        → AreBornApart after.dag
    gone exec wanted found fit zombie k =
        by (is_newer (slice_get m.dag.tracker.trust exec) found) zombie refl k
      where
        cause : FailureCause
        cause = causes.Gone exec wanted found

        m : CoreData
        m = after_failure h.mid a (causes.Gone exec wanted found)

        one_more : is_newer (slice_get m.dag.tracker.trust exec) found ≡ true
            → m.dag.tracker.epoch < (after_gone m.dag.tracker exec found).epoch
        one_more e = rw e (omega arith)

        by : (x y : Bool) → is_newer (slice_get m.dag.tracker.trust exec) found ≡ x
            → IsGone x y m a exec found answer after → AreBornApart after.dag
        by true y e k =
            misses_apart (with_dag m (after_seen m.dag exec found)) after a answer
            ((calls_keep_sound m.dag (left_sound cause)).8 exec found)
            (seen_late m.dag (after_seen m.dag exec found) a (left_sound cause) (λ b is. is)
            (one_more e)) k
            (seen_apart m.dag exec found (left_sound cause) e (left cause))
        by false true e (said, is) = same cause is
        by false false e k =
            misses_apart m after a answer (left_sound cause)
            (gone_late m.dag h.one (left_sound cause) (handed cause) exec wanted found fit e) k
            (left cause)

    metadata : (last : Loc) → fits_failure h.one (causes.Metadata last) ≡ true
        → Misses (after_failure h.mid a (causes.Metadata last)) a answer after
        → AreBornApart after.dag
    metadata last fit k =
        misses_apart (after_failure h.mid a (causes.Metadata last)) after a answer
        (left_sound (causes.Metadata last))
        (missing_late (after_failure h.mid a (causes.Metadata last)).dag h.one
        (left_sound (causes.Metadata last)) (handed (causes.Metadata last)) last fit) k
        (left (causes.Metadata last))

    caused : (cause : FailureCause) → CauseIs cause → fits_failure h.one cause ≡ true
        → (zombie : Bool) → FailsBy cause zombie (after_failure h.mid a cause) a answer after
        → AreBornApart after.dag
    caused cause (inl g) fit zombie k =
        subst (λ x. fits_failure h.one x ≡ true
        → FailsBy x zombie (after_failure h.mid a x) a answer after → AreBornApart after.dag)
        (sym g.is) (λ f l. gone g.exec g.wanted g.found f zombie l) fit k
    caused cause (inr (inl m)) fit zombie k =
        subst (λ x. fits_failure h.one x ≡ true
        → FailsBy x zombie (after_failure h.mid a x) a answer after → AreBornApart after.dag)
        (sym m.is) (λ f l. metadata m.last f l) fit k
    caused cause (inr (inr p)) fit zombie k =
        same cause (p.stays zombie (after_failure h.mid a cause) after a answer k).1

    failures : (cause : FailureCause) → fits_failure h.one cause ≡ true
        → (b : Bool) → TellsFailureIf b h.mid a cause answer after → AreBornApart after.dag
    failures cause fit true (said, is) =
        subst (λ (x : CoreData). AreBornApart x.dag) (sym is) (left cause)
    failures cause fit false k =
        caused cause (cause_is cause) fit (is_zombie_in (set_of h.mid.dag a)) k

    by : (outcome : Outcome) → tellings_in c event answer ≡ telling a outcome answer ∷ []
        → fits c h.one outcome ≡ true → Tells h.mid h.one outcome answer after
        → AreBornApart after.dag
    by (outcomes.Map loc) told fit tells = maps loc told fit tells
    by outcomes.Result told fit tells = results fit tells
    by (outcomes.Failed cause) told fit tells =
        failures cause fit (reaches_limit_in (set_of h.mid.dag a) a cause) tells
