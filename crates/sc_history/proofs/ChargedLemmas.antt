-- Failed attempts of a stage are charged to events of their own.
use Rattle.std.proofs.Common.{◌≡◌, ◌≢◌, ◌⊎◌, inl, inr, ℕ, zero, suc, ◌+◌, ◌-◌, ◌<◌, ◌≤◌, ◌==◌, ◌&&◌, not, Bool, true, false, if◌then◌else◌, cond, List, [], ◌∷◌, ◌++◌, All, IsSomeAnd, map, length, nat_lt, Option, Some, None, slice_get, refl, ap, sym, subst, ◌∙◌, append_assoc, arith, rules, true≢false}
use Rattle.std.specs.List.{filter}
use Rattle.std.proofs.lemmas.Bool.Decides.{nat_tests}
use Rattle.std.proofs.lemmas.List.{length-append, length-map}
use Rattle.std.proofs.lemmas.List.Elements.{All-append, All-cons, All-head, All-nil, All-tail, All-weaker}
use Rattle.std.proofs.lemmas.List.Kept.{AllPairs-cons}
use Rattle.std.proofs.lemmas.Option.{slice_get_past, slice_get_within}
use Rattle.sc_ids.specs.declared.attempts.AttemptId.{AttemptId}
use Rattle.sc_ids.specs.declared.blocks.Loc.{Loc}
use Rattle.sc_ids.specs.declared.failures.FailureCause.{FailureCause}
use Rattle.sc_ids.specs.declared.failures.FailureCause.TheVariants as causes
use Rattle.sc_commit.specs.declared.committers.Ending.TheVariants as endings
use Rattle.sc_taskset.proofs.FindLemmas.{found_is}
use Rattle.sc_tracker.specs.TrackerData.{TrackerData}
use Rattle.sc_tracker.specs.Tracking.{after_gone}
use Rattle.sc_tracker.specs.Trust.{are_lost, is_newer}
use Rattle.sc_dag.specs.Births.{births_of}
use Rattle.sc_dag.specs.DagData.{DagData, StageState, place_of_attempt}
use Rattle.sc_dag.specs.Losses.{after_seen}
use Rattle.sc_dag.specs.Offers.{newest_number, number_in}
use Rattle.sc_dag.specs.Outputs.{is_complete}
use Rattle.sc_dag.specs.Reports.{after_failed, is_of_newest, map_success_of, reaches_limit_in, result_success_of, set_of}
use Rattle.sc_dag.specs.Sound.{IsSoundDag}
use Rattle.sc_dag.specs.declared.reports.Success.{Success}
use Rattle.sc_dag.specs.declared.reports.Success.TheVariants as successes
use Rattle.sc_dag.proofs.CalmCalls.{others_go_on}
use Rattle.sc_dag.proofs.SoundCalls.{calls_keep_sound}
use Rattle.sc_dag.proofs.Tests.{both_left, clash}
use Rattle.sc_core.specs.CoreData.{CoreData, is_of, shelved_of, with_dag}
use Rattle.sc_core.specs.HandOuts.{HandOutData}
use Rattle.sc_core.specs.Journals.{Replays}
use Rattle.sc_core.specs.Losses.{LosesOrAborts, without_executor}
use Rattle.sc_core.specs.Posts.{fits, fits_failure}
use Rattle.sc_core.specs.Sound.{IsSoundCore, RunsWell, WasHandedOut, born_of}
use Rattle.sc_core.specs.Steps.{Steps}
use Rattle.sc_core.specs.Takes.{Takes}
use Rattle.sc_core.specs.Tells.{FailsBy, IsGone, Misses, MissesIf, Tells, TellsFailureIf, after_failure, is_zombie_in, success_answer}
use Rattle.sc_core.specs.declared.answers.Abort.TheVariants as aborts
use Rattle.sc_core.specs.declared.answers.Answer.{Answer}
use Rattle.sc_core.specs.declared.answers.Answer.TheVariants as says
use Rattle.sc_core.specs.declared.entries.Entry.{Entry}
use Rattle.sc_core.specs.declared.events.Event.{Event}
use Rattle.sc_core.specs.declared.events.Event.TheVariants.{Post, Release, Side, Take, TellLost}
use Rattle.sc_core.specs.declared.events.Outcome.{Outcome}
use Rattle.sc_core.specs.declared.events.Outcome.TheVariants as outcomes
use Rattle.sc_core.specs.declared.running.Shelved.{Shelved}
use Rattle.sc_core.proofs.CallCarryLemmas.{failed_carries}
use Rattle.sc_core.proofs.CarryLemmas.{Carries, born_at, born_in, carries_then, handed_still}
use Rattle.sc_core.proofs.ChargeLemmas.{IsLate, gone_late, missing_late, seen_late}
use Rattle.sc_core.proofs.LawLemmas.{steps_keep_sound}
use Rattle.sc_core.proofs.ResultLemmas.{Frees, frees}
use Rattle.sc_history.specs.Charges.{Charge, FailedAttemptsAreCharged, FailsStageBy, HaveOwnEvents, StepsCharge, charge_of, charges_of, fails_stage, is_charge_of}
use Rattle.sc_history.specs.Tellings.{Telling, is_heard, telling, tellings_in, told_late}
use Rattle.sc_history.proofs.BirthLemmas.{Later, MoreBirths, MoreIn, later_then, seen_later}
use Rattle.sc_history.proofs.CauseCases.{CauseIs, cause_is}
use Rattle.sc_history.proofs.Events.{Comes, IsHeard, IsKnown, posts_come, releases_come}
use Rattle.sc_history.proofs.LaterLemmas.{failure_later, misses_later, steps_later}
use Rattle.sc_history.proofs.TrackerLemmas.{misses_same}

-- ---- when the task set of an attempt was born

-- among the births of its stage
record Placed (d : DagData) (a : AttemptId) (b : ℕ) : Type 0 where
  state : StageState
  is : slice_get d.states a.stage ≡ Some state
  above : state.before ≤ a.stage_attempt
  at : slice_get (births_of state.attempts) (a.stage_attempt - state.before) ≡ Some b

placed : (d : DagData) (a : AttemptId) (b : ℕ) → born_of d a ≡ Some b → Placed d a b
placed d a b born = by (slice_get d.states a.stage) refl born
  where
    n : ℕ
    n = a.stage_attempt

    in_state : (state : StageState) → slice_get d.states a.stage ≡ Some state
        → (x : Bool) → nat_lt n state.before ≡ x
        → slice_get (births_of state.attempts)
        (if x then length state.attempts else n - state.before) ≡ Some b → Placed d a b
    in_state state e true f g =
        let past : slice_get (births_of state.attempts) (length state.attempts) ≡ None =
        slice_get_past (births_of state.attempts) (length state.attempts)
        (let many : length (births_of state.attempts) ≡ length state.attempts =
        length-map state.attempts (λ x. x.set.born) in omega (arith, many)) in
        absurd (search (rules, g, past))
    in_state state e false f g =
        record { state = state; is = e; above = grind (arith, nat_tests, f); at = g }

    by : (o : Option StageState) → slice_get d.states a.stage ≡ o → born_in o n ≡ Some b
        → Placed d a b
    by None e h = absurd (search (rules, h))
    by (Some state) e h =
        in_state state e (nat_lt n state.before) refl
        (sym (born_at state.attempts (place_of_attempt state n)) ∙ h)

-- a stage later on
record Grew (epoch : ℕ) (state : StageState) (o : Option StageState) : Type 0 where
  after : StageState
  is : o ≡ Some after
  more : MoreBirths epoch state after

grew : (d after : DagData) (s : ℕ) (state : StageState) → Later d after
    → slice_get d.states s ≡ Some state
    → Grew d.tracker.epoch state (slice_get after.states s)
grew d after s state later e =
    by (slice_get after.states s) refl
    (subst (λ o. MoreIn d.tracker.epoch o (slice_get after.states s)) e (later.births s))
  where
    by : (o : Option StageState) → slice_get after.states s ≡ o
        → MoreIn d.tracker.epoch (Some state) o
        → Grew d.tracker.epoch state (slice_get after.states s)
    by None f m = absurd m
    by (Some x) f m = record { after = x; is = f; more = m }

-- ---- a step that fails a stage

-- what is left once the failure was told to the attempt, in which it is the newest
record Fails (c after : CoreData) (event : Event) (answer : Answer) : Type 0 where
  attempt : AttemptId
  outcome : Outcome
  told : tellings_in c event answer ≡ telling attempt outcome answer ∷ []
  mid : DagData
  since : Later c.dag mid
  on : Later mid after.dag
  epoch : mid.tracker.epoch ≡ after.dag.tracker.epoch
  newest : attempt.stage_attempt ≡ newest_number mid attempt.stage
  born : ℕ
  is_born : born_of c.dag attempt ≡ Some born
  charged : born < after.dag.tracker.epoch

success_stays : (s : Success) → fails_stage (success_answer s) ≡ false
success_stays successes.Repeated = refl
success_stays successes.Registered = refl
success_stays successes.Bogus = refl
success_stays successes.Finished = refl

heard_fails : (c after : CoreData) (event : Event) (answer : Answer) → IsSoundCore c
    → fails_stage answer ≡ true → IsHeard c after event answer → Fails c after event answer
heard_fails c after event answer sound fails h =
    by h.outcome known.told known.fit h.tells
  where
    a : AttemptId
    a = h.one.hand_out.attempt

    known : IsKnown c event answer h.one h.outcome
    known = h.known sound

    -- an answer that fails no stage
    other : (said : Answer) → answer ≡ said → fails_stage said ≡ false
        → Fails c after event answer
    other said is not_so = absurd (clash fails (ap fails_stage is ∙ not_so))

    well : RunsWell c known.ran
    well =
        found_is (RunsWell c) (is_of known.ran.hand_out.attempt) c.running known.ran
        sound.job.running known.found

    given : WasHandedOut h.mid.dag h.one.hand_out
    given =
        subst (λ d. WasHandedOut d h.one.hand_out) (sym h.dag)
        (subst (λ (x : HandOutData). WasHandedOut c.dag x) known.hand well.handed_out)

    mid_sound : IsSoundDag h.mid.dag
    mid_sound = subst IsSoundDag (sym h.dag) sound.job.dag

    born : born_of c.dag a ≡ Some given.born
    born = ap (λ d. born_of d a) (sym h.dag) ∙ given.is_born

    -- what a failure leaves
    free : (cause : FailureCause)
        → Frees (after_failed h.mid.dag a cause) (after_failure h.mid a cause).dag
    free cause =
        frees calls_keep_sound others_go_on (with_dag h.mid (after_failed h.mid.dag a cause)) a
        endings.Failed

    left_sound : (cause : FailureCause) → IsSoundDag (after_failure h.mid a cause).dag
    left_sound cause = (free cause).sound ((calls_keep_sound h.mid.dag mid_sound).4 a cause)

    carries : (cause : FailureCause) → Carries h.mid.dag (after_failure h.mid a cause).dag
    carries cause =
        carries_then h.mid.dag (after_failed h.mid.dag a cause) (after_failure h.mid a cause).dag
        (failed_carries h.mid.dag a cause) (free cause).carries

    handed : (cause : FailureCause) → WasHandedOut (after_failure h.mid a cause).dag h.one.hand_out
    handed cause =
        handed_still h.mid.dag (after_failure h.mid a cause).dag h.one.hand_out (carries cause)
        given

    later : (cause : FailureCause) → Later c.dag (after_failure h.mid a cause).dag
    later cause =
        subst (λ d. Later d (after_failure h.mid a cause).dag) h.dag (failure_later h.mid a cause)

    misses : (cause : FailureCause)
        → tellings_in c event answer ≡ telling a (outcomes.Failed cause) answer ∷ []
        → (n : CoreData) → Later c.dag n.dag → IsLate n.dag a
        → born_of n.dag a ≡ Some given.born → Misses n a answer after → Fails c after event answer
    misses cause told n since late same miss =
        by (is_of_newest n.dag a && not (is_complete n.dag a.stage)) refl miss
      where
        epoch : after.dag.tracker.epoch ≡ n.dag.tracker.epoch
        epoch = ap (λ (t : TrackerData). t.epoch) (misses_same n after a answer miss)

        by : (b : Bool) → (is_of_newest n.dag a && not (is_complete n.dag a.stage)) ≡ b
            → MissesIf b n a answer after → Fails c after event answer
        by false e (said, is) = other says.Again said refl
        by true e k =
            let is : (a.stage_attempt == newest_number n.dag a.stage) ≡ true =
            both_left (is_of_newest n.dag a) _ e in
            record {
              attempt = a;
              outcome = outcomes.Failed cause;
              told = told;
              mid = n.dag;
              since = since;
              on = misses_later n after a answer miss;
              epoch = sym epoch;
              newest = grind (arith, nat_tests, is);
              born = given.born;
              is_born = born;
              charged = subst (λ k. given.born < k) (sym epoch) (late given.born same);
            }

    gone : (exec wanted found : ℕ)
        → tellings_in c event answer
        ≡ telling a (outcomes.Failed (causes.Gone exec wanted found)) answer ∷ []
        → fits_failure h.one (causes.Gone exec wanted found) ≡ true → (zombie : Bool)
        → FailsBy (causes.Gone exec wanted found) zombie
        (after_failure h.mid a (causes.Gone exec wanted found)) a answer after
        → Fails c after event answer
    gone exec wanted found told fit zombie k =
        by (is_newer (slice_get m.dag.tracker.trust exec) found) zombie refl k
      where
        cause : FailureCause
        cause = causes.Gone exec wanted found

        m : CoreData
        m = after_failure h.mid a (causes.Gone exec wanted found)

        one_more : is_newer (slice_get m.dag.tracker.trust exec) found ≡ true
            → m.dag.tracker.epoch < (after_gone m.dag.tracker exec found).epoch
        one_more e = rw e (omega arith)

        by : (x y : Bool) → is_newer (slice_get m.dag.tracker.trust exec) found ≡ x
            → IsGone x y m a exec found answer after → Fails c after event answer
        by true y e k =
            misses cause told (with_dag m (after_seen m.dag exec found))
            (later_then c.dag m.dag (after_seen m.dag exec found) (later cause)
            (seen_later m.dag exec found))
            (seen_late m.dag (after_seen m.dag exec found) a (left_sound cause) (λ b is. is)
            (one_more e))
            ((carries cause).born a given.born given.is_born) k
        by false true e (said, is) = other says.Again said refl
        by false false e k =
            misses cause told m (later cause)
            (gone_late m.dag h.one (left_sound cause) (handed cause) exec wanted found fit e)
            ((carries cause).born a given.born given.is_born) k

    metadata : (last : Loc)
        → tellings_in c event answer
        ≡ telling a (outcomes.Failed (causes.Metadata last)) answer ∷ []
        → fits_failure h.one (causes.Metadata last) ≡ true
        → Misses (after_failure h.mid a (causes.Metadata last)) a answer after
        → Fails c after event answer
    metadata last told fit k =
        misses (causes.Metadata last) told (after_failure h.mid a (causes.Metadata last))
        (later (causes.Metadata last))
        (missing_late (after_failure h.mid a (causes.Metadata last)).dag h.one
        (left_sound (causes.Metadata last)) (handed (causes.Metadata last)) last fit)
        ((carries (causes.Metadata last)).born a given.born given.is_born) k

    caused : (cause : FailureCause) → CauseIs cause
        → tellings_in c event answer ≡ telling a (outcomes.Failed cause) answer ∷ []
        → fits_failure h.one cause ≡ true → (zombie : Bool)
        → FailsBy cause zombie (after_failure h.mid a cause) a answer after
        → Fails c after event answer
    caused cause (inl g) told fit zombie k =
        subst (λ x. tellings_in c event answer ≡ telling a (outcomes.Failed x) answer ∷ []
        → fits_failure h.one x ≡ true → FailsBy x zombie (after_failure h.mid a x) a answer after
        → Fails c after event answer) (sym g.is)
        (λ t f l. gone g.exec g.wanted g.found t f zombie l) told fit k
    caused cause (inr (inl m)) told fit zombie k =
        subst (λ x. tellings_in c event answer ≡ telling a (outcomes.Failed x) answer ∷ []
        → fits_failure h.one x ≡ true → FailsBy x zombie (after_failure h.mid a x) a answer after
        → Fails c after event answer) (sym m.is)
        (λ t f l. metadata m.last t f l) told fit k
    caused cause (inr (inr p)) told fit zombie k =
        other says.Again (p.stays zombie (after_failure h.mid a cause) after a answer k).0 refl

    failures : (cause : FailureCause)
        → tellings_in c event answer ≡ telling a (outcomes.Failed cause) answer ∷ []
        → fits_failure h.one cause ≡ true
        → (b : Bool) → TellsFailureIf b h.mid a cause answer after → Fails c after event answer
    failures cause told fit true (said, is) = other _ said refl
    failures cause told fit false k =
        caused cause (cause_is cause) told fit (is_zombie_in (set_of h.mid.dag a)) k

    by : (outcome : Outcome)
        → tellings_in c event answer ≡ telling a outcome answer ∷ []
        → fits c h.one outcome ≡ true → Tells h.mid h.one outcome answer after
        → Fails c after event answer
    by (outcomes.Map loc) told fit (next, up, said, is) =
        other _ said (success_stays (map_success_of h.mid.dag a loc h.one.hand_out.epoch))
    by outcomes.Result told fit (said, is) =
        other _ said (success_stays (result_success_of h.mid.dag a))
    by (outcomes.Failed cause) told fit tells =
        failures cause told fit (reaches_limit_in (set_of h.mid.dag a) a cause) tells

-- no report fails a stage that isn't heard
quiet_stays : (answer : Answer) → is_heard answer ≡ false → fails_stage answer ≡ true → ⊥
quiet_stays answer not_so is_so = by answer not_so is_so
  where
    by : (answer : Answer) → is_heard answer ≡ false → fails_stage answer ≡ true → ⊥
    by says.Ignored n y = true≢false (sym y)
    by says.Shelved n y = true≢false (sym y)
    by (says.Side said) n y = true≢false (sym y)
    by says.Resubmitted n y = true≢false n
    by (says.Aborted why) n y = true≢false n
    by (says.Task t) n y = true≢false n
    by (says.Wait out) n y = true≢false n
    by (says.Busy held) n y = true≢false n
    by says.Lost n y = true≢false n
    by (says.Stopped first) n y = true≢false n
    by says.Ended n y = true≢false n
    by says.Told n y = true≢false n
    by says.Repeated n y = true≢false n
    by says.Registered n y = true≢false n
    by says.Bogus n y = true≢false n
    by says.Finished n y = true≢false n
    by says.Again n y = true≢false n

comes_fail : (c after : CoreData) (event : Event) (answer : Answer) → IsSoundCore c
    → fails_stage answer ≡ true → Comes c after event answer → Fails c after event answer
comes_fail c after event answer sound fails (inl q) =
    absurd (quiet_stays answer q.unheard fails)
comes_fail c after event answer sound fails (inr h) =
    heard_fails c after event answer sound fails h

takes_stay : (c after : CoreData) (exec : ℕ) (answer : Answer) → Takes c exec answer after
    → fails_stage answer ≡ true → ⊥
takes_stay c after exec says.Resubmitted h y = h
takes_stay c after exec (says.Aborted (aborts.StageLimit s)) h y = h
takes_stay c after exec (says.Aborted aborts.Budget) h y = true≢false (sym y)
takes_stay c after exec (says.Aborted (aborts.TaskLimit s n p)) h y = true≢false (sym y)
takes_stay c after exec (says.Aborted aborts.NoExecutor) h y = true≢false (sym y)
takes_stay c after exec (says.Task t) h y = true≢false (sym y)
takes_stay c after exec (says.Wait out) h y = true≢false (sym y)
takes_stay c after exec (says.Busy held) h y = true≢false (sym y)
takes_stay c after exec says.Lost h y = true≢false (sym y)
takes_stay c after exec (says.Stopped first) h y = true≢false (sym y)
takes_stay c after exec says.Ended h y = true≢false (sym y)
takes_stay c after exec says.Ignored h y = true≢false (sym y)
takes_stay c after exec says.Shelved h y = true≢false (sym y)
takes_stay c after exec says.Told h y = true≢false (sym y)
takes_stay c after exec says.Repeated h y = true≢false (sym y)
takes_stay c after exec says.Registered h y = true≢false (sym y)
takes_stay c after exec says.Bogus h y = true≢false (sym y)
takes_stay c after exec says.Finished h y = true≢false (sym y)
takes_stay c after exec says.Again h y = true≢false (sym y)
takes_stay c after exec (says.Side said) h y = true≢false (sym y)

steps_fail : (c after : CoreData) (event : Event) (answer : Answer) → IsSoundCore c
    → Steps c event answer after → fails_stage answer ≡ true → Fails c after event answer
steps_fail c after (Take exec) answer sound step y =
    absurd (takes_stay c after exec answer step y)
steps_fail c after (Post a outcome) answer sound step y =
    comes_fail c after (Post a outcome) answer sound y (posts_come c after a outcome answer step)
steps_fail c after (Release key) answer sound step y =
    comes_fail c after (Release key) answer sound y (releases_come c after key answer step)
steps_fail c after (Side event) answer sound (said, told, step) y =
    absurd (true≢false (sym y ∙ ap fails_stage told))
steps_fail c after (TellLost exec) answer sound (may, step) y =
    absurd (by (are_lost (without_executor c exec).dag.tracker.trust) step)
  where
    by : (b : Bool) → LosesOrAborts b (without_executor c exec) answer after → ⊥
    by true (told, is) = true≢false (sym y ∙ ap fails_stage told)
    by false (told, is) = true≢false (sym y ∙ ap fails_stage told)

-- ---- the newest attempt

-- the births of a stage end with that of its newest attempt
record Ends (d mid : DagData) (a : AttemptId) (b : ℕ) : Type 0 where
  own : Placed d a b
  grown : Grew d.tracker.epoch own.state (slice_get mid.states a.stage)
  many : length (births_of own.state.attempts) ≡ suc (a.stage_attempt - own.state.before)
  same : length (births_of grown.after.attempts) ≡ suc (a.stage_attempt - own.state.before)

ends : (d mid : DagData) (a : AttemptId) (b : ℕ) → Later d mid → born_of d a ≡ Some b
    → a.stage_attempt ≡ newest_number mid a.stage → Ends d mid a b
ends d mid a b since born newest =
    record { own = p; grown = g; many = many; same = same }
  where
    p : Placed d a b
    p = placed d a b born

    g : Grew d.tracker.epoch p.state (slice_get mid.states a.stage)
    g = grew d mid a.stage p.state since p.is

    below : a.stage_attempt - p.state.before < length (births_of p.state.attempts)
    below =
        slice_get_within (births_of p.state.attempts) (a.stage_attempt - p.state.before) b p.at

    longer : length (births_of g.after.attempts)
        ≡ length (births_of p.state.attempts) + length g.more.more
    longer = ap length g.more.births ∙ length-append (births_of p.state.attempts) g.more.more

    number : a.stage_attempt ≡ p.state.before + (length g.after.attempts - 1)
    number =
        newest ∙ ap number_in g.is
        ∙ ap (λ (n : ℕ). n + (length g.after.attempts - 1)) g.more.before

    all : length (births_of g.after.attempts) ≡ length g.after.attempts
    all = length-map g.after.attempts (λ x. x.set.born)

    many : length (births_of p.state.attempts) ≡ suc (a.stage_attempt - p.state.before)
    many = omega (arith, below, longer, number, all)

    same : length (births_of g.after.attempts) ≡ suc (a.stage_attempt - p.state.before)
    same = omega (arith, below, longer, number, all)

fails_stage_by : (c after : CoreData) (event : Event) (answer : Answer)
    → Fails c after event answer → FailsStageBy c after event answer
fails_stage_by c after event answer f =
    record {
      attempt = f.attempt;
      outcome = f.outcome;
      told = f.told;
      newest = newest;
      born = f.born;
      is_born = f.is_born;
      charged = f.charged;
    }
  where
    e : Ends c.dag f.mid f.attempt f.born
    e = ends c.dag f.mid f.attempt f.born f.since f.is_born f.newest

    newest : f.attempt.stage_attempt ≡ newest_number c.dag f.attempt.stage
    newest =
        let many = e.many in
        let above = e.own.above in
        let all : length (births_of e.own.state.attempts) ≡ length e.own.state.attempts =
        length-map e.own.state.attempts (λ x. x.set.born) in
        let number : f.attempt.stage_attempt
        ≡ e.own.state.before + (length e.own.state.attempts - 1) =
        omega (arith, many, above, all) in
        number ∙ sym (ap number_in e.own.is)

pub steps_charge : StepsCharge
steps_charge c after event answer sound step y =
    fails_stage_by c after event answer (steps_fail c after event answer sound step y)

-- ---- charges behind one another

-- What is known of a charge of a stage later on: the task sets born since were born no earlier than
-- its failure was told.
record Behind (s : ℕ) (x : Charge) (d : DagData) : Type 0 where
  state : StageState
  is : slice_get d.states s ≡ Some state
  front : List ℕ
  more : List ℕ
  births : births_of state.attempts ≡ front ++ more
  above : state.before ≤ x.number
  place : length front ≡ suc (x.number - state.before)
  late : All (λ b. x.epoch ≤ b) more
  past : x.epoch ≤ d.tracker.epoch

behind_later : (s : ℕ) (x : Charge) (d after : DagData) → Later d after → Behind s x d
    → Behind s x after
behind_later s x d after later h =
    record {
      state = g.after;
      is = g.is;
      front = h.front;
      more = h.more ++ g.more.more;
      births = g.more.births ∙ ap (λ bs. bs ++ g.more.more) h.births
          ∙ append_assoc h.front h.more g.more.more;
      above = subst (λ n. n ≤ x.number) (sym g.more.before) h.above;
      place = h.place ∙ ap (λ (n : ℕ). suc (x.number - n)) (sym g.more.before);
      late = All-append (λ b. x.epoch ≤ b) h.more g.more.more h.late
          (All-weaker (λ b. d.tracker.epoch ≤ b) (λ b. x.epoch ≤ b)
          (λ b le. (let past = h.past in omega (arith, past, le))) g.more.more g.more.late);
      past = (let past = h.past in let le = later.epoch in omega (arith, past, le));
    }
  where
    g : Grew d.tracker.epoch h.state (slice_get after.states s)
    g = grew d after s h.state later h.is

-- a charge is behind itself
behind_itself : (c after : CoreData) (event : Event) (answer : Answer)
    → (f : Fails c after event answer)
    → Behind f.attempt.stage
    (charge_of c.dag after.dag.tracker.epoch (telling f.attempt f.outcome answer)) after.dag
behind_itself c after event answer f =
    record {
      state = g.after;
      is = g.is;
      front = births_of e.grown.after.attempts;
      more = g.more.more;
      births = g.more.births;
      above = subst (λ n. n ≤ f.attempt.stage_attempt) (sym before) e.own.above;
      place = e.same ∙ ap (λ (n : ℕ). suc (f.attempt.stage_attempt - n)) (sym before);
      late = subst (λ n. All (λ b. n ≤ b) g.more.more) f.epoch g.more.late;
      past = omega arith;
    }
  where
    e : Ends c.dag f.mid f.attempt f.born
    e = ends c.dag f.mid f.attempt f.born f.since f.is_born f.newest

    g : Grew f.mid.tracker.epoch e.grown.after (slice_get after.dag.states f.attempt.stage)
    g = grew f.mid after.dag f.attempt.stage e.grown.after f.on e.grown.is

    before : g.after.before ≡ e.own.state.before
    before = g.more.before ∙ e.grown.more.before

-- what lies past a front is among the rest
beyond : (P : ℕ → Type 0) (front more : List ℕ) (i b : ℕ) → slice_get (front ++ more) i ≡ Some b
    → length front ≤ i → All P more → P b
beyond P [] [] i b e le all = absurd (search (rules, e))
beyond P [] (x ∷ more) zero b e le all =
    (let same : x ≡ b = search (rules, e) in subst P same (All-head P x more all))
beyond P [] (x ∷ more) (suc i) b e le all =
    beyond P [] more i b e (omega arith) (All-tail P x more all)
beyond P (y ∷ front) more zero b e le all = absurd (omega (arith, le))
beyond P (y ∷ front) more (suc i) b e le all =
    beyond P front more i b e (omega (arith, le)) all

-- another attempt that fails behind it was born no earlier
apart : (s : ℕ) (x : Charge) (c after : CoreData) (event : Event) (answer : Answer)
    → Behind s x c.dag → (f : Fails c after event answer) → f.attempt.stage ≡ s
    → x.number ≢ f.attempt.stage_attempt → x.epoch ≤ f.born
apart s x c after event answer h f at other =
    beyond (λ b. x.epoch ≤ b) h.front h.more (f.attempt.stage_attempt - e.own.state.before) f.born
    (subst (λ bs. slice_get bs (f.attempt.stage_attempt - e.own.state.before) ≡ Some f.born)
    (ap (λ (st : StageState). births_of st.attempts) same ∙ h.births) e.own.at)
    far h.late
  where
    e : Ends c.dag f.mid f.attempt f.born
    e = ends c.dag f.mid f.attempt f.born f.since f.is_born f.newest

    same : e.own.state ≡ h.state
    same =
        search (rules, sym e.own.is ∙ ap (λ (n : ℕ). slice_get c.dag.states n) at ∙ h.is)

    far : length h.front ≤ f.attempt.stage_attempt - e.own.state.before
    far = by (nat_lt (f.attempt.stage_attempt - e.own.state.before) (length h.front)) refl
      where
        before : e.own.state.before ≡ h.state.before
        before = ap (λ (st : StageState). st.before) same

        many : length (births_of e.own.state.attempts) ≡ length h.front + length h.more
        many =
            ap (λ (st : StageState). length (births_of st.attempts)) same ∙ ap length h.births
            ∙ length-append h.front h.more

        by : (b : Bool)
            → nat_lt (f.attempt.stage_attempt - e.own.state.before) (length h.front) ≡ b
            → length h.front ≤ f.attempt.stage_attempt - e.own.state.before
        by true t =
            let lt : f.attempt.stage_attempt - e.own.state.before < length h.front =
            grind (arith, nat_tests, t) in
            let all = e.many in
            let above = e.own.above in
            let place = h.place in
            let x_above = h.above in
            absurd (other (omega (arith, lt, all, many, above, place, x_above, before)))
        by false t = grind (arith, nat_tests, t)

-- ---- the charges of a journal

-- the report of an event is one at most
record IsAlone (c : CoreData) (event : Event) (answer : Answer) : Type 0 where
  one : Telling
  is : tellings_in c event answer ≡ one ∷ []
  said : one.answer ≡ answer

abbrev OneAtMost : CoreData → Event → Answer → Type 0
OneAtMost c event answer = (tellings_in c event answer ≡ []) ⊎ IsAlone c event answer

one_at_most : (c : CoreData) (event : Event) (answer : Answer) → OneAtMost c event answer
one_at_most c (Take exec) answer = inl refl
one_at_most c (Post a outcome) answer =
    inr (record { one = telling a outcome answer; is = refl; said = refl })
one_at_most c (Release key) answer = by (shelved_of c key) refl
  where
    by : (o : Option Shelved) → shelved_of c key ≡ o → OneAtMost c (Release key) answer
    by None e = inl (ap (λ x. told_late x answer) e)
    by (Some s) e =
        inr (record {
          one = telling s.attempt s.outcome answer;
          is = ap (λ x. told_late x answer) e;
          said = refl;
        })
one_at_most c (Side event) answer = inl refl
one_at_most c (TellLost exec) answer = inl refl

-- what an event charges to a stage
abbrev charged_by : ℕ → CoreData → Event → Answer → CoreData → List Charge
charged_by s c event answer after =
    map (charge_of c.dag after.dag.tracker.epoch)
    (filter (is_charge_of s) (tellings_in c event answer))

-- it is nothing, or one failed attempt of it
record ChargesOne (s : ℕ) (c after : CoreData) (event : Event) (answer : Answer) : Type 0 where
  fails : Fails c after event answer
  at : fails.attempt.stage ≡ s
  is : charged_by s c event answer after
      ≡ charge_of c.dag after.dag.tracker.epoch (telling fails.attempt fails.outcome answer) ∷ []

abbrev ChargesSo : ℕ → CoreData → CoreData → Event → Answer → Type 0
ChargesSo s c after event answer =
    (charged_by s c event answer after ≡ []) ⊎ ChargesOne s c after event answer

charges_so : (s : ℕ) (c after : CoreData) (event : Event) (answer : Answer) → IsSoundCore c
    → Steps c event answer after → ChargesSo s c after event answer
charges_so s c after event answer sound step = by (one_at_most c event answer)
  where
    charge : Telling → Charge
    charge = charge_of c.dag after.dag.tracker.epoch

    kept : (t : Telling) → tellings_in c event answer ≡ t ∷ [] → (b : Bool) → is_charge_of s t ≡ b
        → charged_by s c event answer after ≡ cond b (charge t ∷ []) []
    kept t is true e =
        ap (λ ts. map charge (filter (is_charge_of s) ts)) is
        ∙ ap (λ x. map charge (cond x (t ∷ []) [])) e
    kept t is false e =
        ap (λ ts. map charge (filter (is_charge_of s) ts)) is
        ∙ ap (λ x. map charge (cond x (t ∷ []) [])) e

    one : (f : Fails c after event answer) (b : Bool)
        → is_charge_of s (telling f.attempt f.outcome answer) ≡ b
        → ChargesSo s c after event answer
    one f true e =
        let at : (f.attempt.stage == s) ≡ true =
        both_left (f.attempt.stage == s) (fails_stage answer) e in
        inr (record {
          fails = f;
          at = grind (arith, nat_tests, at);
          is = kept (telling f.attempt f.outcome answer) f.told true e;
        })
    one f false e = inl (kept (telling f.attempt f.outcome answer) f.told false e)

    stays : (t : Telling) → tellings_in c event answer ≡ t ∷ [] → t.answer ≡ answer
        → (b : Bool) → fails_stage answer ≡ b → ChargesSo s c after event answer
    stays t is said true e =
        let f = steps_fail c after event answer sound step e in
        one f (is_charge_of s (telling f.attempt f.outcome answer)) refl
    stays t is said false e =
        inl (kept t is false (not_so (t.attempt.stage == s) (ap fails_stage said ∙ e)))
      where
        not_so : (x : Bool) → fails_stage t.answer ≡ false → (x && fails_stage t.answer) ≡ false
        not_so true k = k
        not_so false k = refl

    by : OneAtMost c event answer → ChargesSo s c after event answer
    by (inl none) = inl (ap (λ ts. map charge (filter (is_charge_of s) ts)) none)
    by (inr o) = stays o.one o.is o.said (fails_stage answer) refl

abbrev Apart : Charge → Charge → Type 0
Apart x y = x.number ≢ y.number → IsSomeAnd y.born (λ b. x.epoch ≤ b)

abbrev Own : Charge → Type 0
Own x = IsSomeAnd x.born (λ b. b < x.epoch)

-- a charge is apart from all that come behind it
all_apart : (s : ℕ) (x : Charge) (c : CoreData) → IsSoundCore c → Behind s x c.dag
    → (entries : List Entry) (end : CoreData) (replays : Replays c entries end)
    → All (Apart x) (charges_of s c entries end replays)
all_apart s x c sound h [] end is = All-nil (Apart x)
all_apart s x c sound h (e ∷ entries) end (mid, step, rest) =
    All-append (Apart x) (charged_by s c e.event e.answer mid) (charges_of s mid entries end rest)
    (by (charges_so s c mid e.event e.answer sound step))
    (all_apart s x mid (steps_keep_sound c mid e.event e.answer sound step)
    (behind_later s x c.dag mid.dag (steps_later c mid e.event e.answer step) h) entries end rest)
  where
    by : ChargesSo s c mid e.event e.answer
        → All (Apart x) (charged_by s c e.event e.answer mid)
    by (inl none) = subst (λ xs. All (Apart x) xs) (sym none) (All-nil (Apart x))
    by (inr o) =
        subst (λ xs. All (Apart x) xs) (sym o.is)
        (All-cons (Apart x)
        (charge_of c.dag mid.dag.tracker.epoch
        (telling o.fails.attempt o.fails.outcome e.answer)) []
        (λ other. subst (λ b. IsSomeAnd b (λ n. x.epoch ≤ n)) (sym o.fails.is_born)
        (apart s x c mid e.event e.answer h o.fails o.at other))
        (All-nil (Apart x)))

pub failed_attempts_are_charged : FailedAttemptsAreCharged
failed_attempts_are_charged opening end [] s sound is =
    record { own = All-nil Own; apart = λ i j d lt within. absurd (omega (arith, within)) }
failed_attempts_are_charged opening end (e ∷ entries) s sound (mid, step, rest) =
    by (charges_so s opening mid e.event e.answer sound step)
    (failed_attempts_are_charged mid end entries s
    (steps_keep_sound opening mid e.event e.answer sound step) rest)
  where
    more : List Charge
    more = charges_of s mid entries end rest

    by : ChargesSo s opening mid e.event e.answer → HaveOwnEvents more
        → HaveOwnEvents (charged_by s opening e.event e.answer mid ++ more)
    by (inl none) h = subst (λ xs. HaveOwnEvents (xs ++ more)) (sym none) h
    by (inr o) h =
        let x = charge_of opening.dag mid.dag.tracker.epoch
        (telling o.fails.attempt o.fails.outcome e.answer) in
        subst (λ xs. HaveOwnEvents (xs ++ more)) (sym o.is)
        (record {
          own = All-cons Own x more
              (subst (λ b. IsSomeAnd b (λ n. n < x.epoch)) (sym o.fails.is_born)
              o.fails.charged) h.own;
          apart = AllPairs-cons Apart x more
              (all_apart s x mid (steps_keep_sound opening mid e.event e.answer sound step)
              (subst (λ n. Behind n x mid.dag) o.at
              (behind_itself opening mid e.event e.answer o.fails)) entries end rest)
              h.apart;
        })
