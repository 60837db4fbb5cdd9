-- Each attempt of a stage that counts as failed was told to miss an input.
use Rattle.std.proofs.Common.{◌≡◌, ◌⊎◌, inl, inr, ℕ, ◌==◌, ◌&&◌, ◌||◌, not, Bool, true, false, List, Option, Some, None, option_map, slice_get, refl, ap, sym, subst, ◌∙◌, arith, true≢false}
use Rattle.std.proofs.lemmas.Bool.{cases_eq}
use Rattle.std.proofs.lemmas.Bool.Decides.{nat_tests}
use Rattle.sc_ids.specs.Changes.{change_at}
use Rattle.sc_ids.specs.declared.attempts.AttemptId.{AttemptId}
use Rattle.sc_ids.specs.declared.failures.FailureCause.{FailureCause}
use Rattle.sc_ids.specs.declared.failures.FailureCause.TheVariants as causes
use Rattle.sc_ids.specs.declared.limits.Limits.{Limits}
use Rattle.sc_ids.proofs.ChangeLemmas.{slice_get_change_other, slice_get_change_same}
use Rattle.sc_taskset.specs.Reports.{after_failure as after_failure_in}
use Rattle.sc_taskset.specs.declared.tasks.Verdict.{Verdict}
use Rattle.sc_taskset.specs.declared.tasks.Verdict.TheVariants as verdicts
use Rattle.sc_tracker.specs.Trust.{is_newer}
use Rattle.sc_dag.specs.DagData.{DagData, StageState, with_set, with_state}
use Rattle.sc_dag.specs.Losses.{after_seen}
use Rattle.sc_dag.specs.Outputs.{is_complete}
use Rattle.sc_dag.specs.Reports.{FailsStage, failed_attempt, is_of_newest, reaches_limit_in, set_of, with_failed}
use Rattle.sc_dag.specs.Submission.{this_stage}
use Rattle.sc_dag.specs.declared.attempts.StageAttempt.{StageAttempt}
use Rattle.sc_dag.proofs.Tests.{clash}
use Rattle.sc_core.specs.CoreData.{CoreData, with_dag}
use Rattle.sc_core.specs.Rooms.{may_resubmit}
use Rattle.sc_core.specs.Sound.{IsSoundCore}
use Rattle.sc_core.specs.Steps.{Steps}
use Rattle.sc_core.specs.Tells.{FailsBy, FailsOrAborts, IsGone, Misses, MissesIf, Tells, TellsFailureIf, after_failure, is_zombie_in}
use Rattle.sc_core.specs.declared.answers.Answer.{Answer}
use Rattle.sc_core.specs.declared.events.Event.{Event}
use Rattle.sc_core.specs.declared.events.Event.TheVariants.{Post, Release, Side, Take, TellLost}
use Rattle.sc_core.specs.declared.events.Outcome.{Outcome}
use Rattle.sc_core.specs.declared.events.Outcome.TheVariants as outcomes
use Rattle.sc_core.specs.declared.running.Running.{Running}
use Rattle.sc_history.specs.StageEvidence.{is_miss_of, number_of}
use Rattle.sc_history.specs.Tellings.{Telling, is_heard, telling, tellings_in}
use Rattle.sc_history.proofs.Events.{Comes, posts_come, releases_come, sides_come}
use Rattle.sc_history.proofs.Growing.{IsCalm, Slot, attempt_among, dag_submitted, numbered_slot}
use Rattle.sc_history.proofs.GrowingCalls.{Grows, failed_grows, losses_grow, maps_grow, may_hold_grows, results_grow, takes_grow}
use Rattle.sc_history.proofs.Picking.{is_there}
use Rattle.sc_history.proofs.Keeping.{IsChanged, changed_among}

-- ---- failed attempts

abbrev pub flag_in : Option StageAttempt → Bool
flag_in None = false
flag_in (Some x) = x.has_failed

-- the attempt of a number counts as failed
abbrev pub is_flagged : DagData → ℕ → ℕ → Bool
is_flagged d s k = flag_in (attempt_among (slice_get d.states s) k)

-- it did before
pub FewerFlags : StageAttempt → StageAttempt → Type 0
FewerFlags x y = y.has_failed ≡ true → x.has_failed ≡ true

pub NoFlag : StageAttempt → Type 0
NoFlag x = x.has_failed ≡ false

pub flags_calm : (L : Limits) → IsCalm FewerFlags NoFlag L
unfolding FewerFlags NoFlag
flags_calm L =
    record {
      same = λ x h. h;
      chain = λ x y z h k e. h (k e);
      hands = λ x p exec now h. h;
      succeeds = λ x p nth now h. h;
      ends = λ x p nth h. h;
      holds = λ x p denied h. h;
      loses = λ x exec h. h;
      stops = λ x h. h;
      forgives = λ x h. absurd (true≢false (sym h));
      begins = λ t stage results held. refl;
      stays = λ x y h new. by y.has_failed (λ e. clash (h e) new);
    }
  where
    by : (b : Bool) → (b ≡ true → ⊥) → b ≡ false
    by true h = absurd (h refl)
    by false h = refl

pub flags_fewer : (d after : DagData) (s k : ℕ) → Grows FewerFlags NoFlag d after
    → is_flagged after s k ≡ true → is_flagged d s k ≡ true
unfolding FewerFlags NoFlag
flags_fewer d after s k h =
    by (attempt_among (slice_get d.states s) k) (attempt_among (slice_get after.states s) k)
    (numbered_slot FewerFlags NoFlag (slice_get d.states s) (slice_get after.states s) k (h s))
  where
    by : (o x : Option StageAttempt) → Slot FewerFlags NoFlag o x → flag_in x ≡ true
        → flag_in o ≡ true
    by None None q e = e
    by None (Some y) q e = absurd (clash e q)
    by (Some x) None q e = absurd q
    by (Some x) (Some y) q e = q e

pub no_flag : (x : Option StageAttempt) → Slot FewerFlags NoFlag None x → flag_in x ≡ false
unfolding NoFlag
no_flag None h = refl
no_flag (Some y) h = h

flags_failed : (x : StageAttempt) (p nth : ℕ) (cause : FailureCause)
    → FewerFlags x (with_set (λ s. after_failure_in s p nth cause) x)
unfolding FewerFlags
flags_failed x p nth cause h = h

-- one more failed attempt
flags_marked : (d : DagData) (r number s k : ℕ)
    → is_flagged (with_state d r (with_failed number)) s k ≡ true
    → (is_flagged d s k ≡ true) ⊎ ((s ≡ r) × (k ≡ number))
flags_marked d r number s k e = by (cases_eq s r)
  where
    state : s ≡ r → (o : Option StageState)
        → flag_in (attempt_among (option_map (with_failed number) o) k) ≡ true
        → (flag_in (attempt_among o k) ≡ true) ⊎ ((s ≡ r) × (k ≡ number))
    state at None h = inl h
    state at (Some x) h = one (changed_among x number k failed_attempt)
      where
        one : IsChanged x number k failed_attempt
            → (flag_in (attempt_among (Some x) k) ≡ true) ⊎ ((s ≡ r) × (k ≡ number))
        one (inl (same, is)) = inr (at, same)
        one (inr is) = inl (ap flag_in (sym is) ∙ h)

    by : (s ≡ r) ⊎ (s ≡ r → ⊥) → (is_flagged d s k ≡ true) ⊎ ((s ≡ r) × (k ≡ number))
    by (inl at) =
        state at (slice_get d.states s)
        (subst (λ o. flag_in (attempt_among o k) ≡ true)
        (subst (λ (j : ℕ). slice_get (change_at d.states r (with_failed number)) j
        ≡ option_map (with_failed number) (slice_get d.states j)) (sym at)
        (slice_get_change_same d.states r (with_failed number))) e)
    by (inr ne) =
        inl (subst (λ o. flag_in (attempt_among o k) ≡ true)
        (slice_get_change_other d.states r s (with_failed number) ne) e)

-- ---- what each event tells

-- a report tells that this attempt of a stage missed an input
abbrev pub fails_number : ℕ → ℕ → Telling → Bool
fails_number s k t = is_miss_of s t && (number_of t == k)

-- some report does
abbrev pub is_missed : List Telling → ℕ → ℕ → Bool
is_missed told s k = is_there (is_miss_of s) number_of told k

-- attempts that count as failed after a report, but for one that it tells, did before
abbrev TellsFlag : DagData → DagData → Telling → Type 0
TellsFlag d after t =
    (s k : ℕ) → is_flagged after s k ≡ true
    → (is_flagged d s k ≡ true) ⊎ (fails_number s k t ≡ true)

-- the same of an event and the reports that it is of
abbrev pub TellsFlags : DagData → DagData → List Telling → Type 0
TellsFlags d after told =
    (s k : ℕ) → is_flagged after s k ≡ true
    → (is_flagged d s k ≡ true) ⊎ (is_missed told s k ≡ true)

flags_quiet : (d after : DagData) (t : Telling) → Grows FewerFlags NoFlag d after
    → TellsFlag d after t
flags_quiet d after t h s k e = inl (flags_fewer d after s k h e)

misses_tell : (c after : CoreData) (a : AttemptId) (answer : Answer) (cause : FailureCause)
    → may_resubmit cause ≡ true → Misses c a answer after
    → TellsFlag c.dag after.dag (telling a (outcomes.Failed cause) answer)
misses_tell c after a answer cause missing miss =
    by (is_of_newest c.dag a && not (is_complete c.dag a.stage)) miss
  where
    Goal : Type 0
    Goal = TellsFlag c.dag after.dag (telling a (outcomes.Failed cause) answer)

    heard : (verdict : Verdict) (d : DagData) → FailsOrAborts c a verdict d answer after
        → is_heard answer ≡ true
    heard verdicts.Again d (told, is) = ap is_heard told
    heard verdicts.Limit d (told, is) = ap is_heard told

    dag_is : (verdict : Verdict) (d : DagData) → FailsOrAborts c a verdict d answer after
        → after.dag ≡ d
    dag_is verdicts.Again d (told, is) = ap (λ (x : CoreData). x.dag) is
    dag_is verdicts.Limit d (told, is) = ap (λ (x : CoreData). x.dag) is

    marked : DagData
    marked = with_state c.dag a.stage (with_failed a.stage_attempt)

    fewer : (verdict : Verdict) (d : DagData)
        → FailsStage c.dag a.stage a.stage_attempt verdict d → (s k : ℕ)
        → is_flagged d s k ≡ true
        → is_flagged (with_state c.dag a.stage (with_failed a.stage_attempt)) s k ≡ true
    fewer verdicts.Limit d (often, is) s k e =
        ap (λ (x : DagData). is_flagged x s k) (sym is) ∙ e
    fewer verdicts.Again d (often, sent) s k e =
        flags_fewer marked d s k
        (dag_submitted FewerFlags NoFlag c.dag.limits (flags_calm c.dag.limits) marked d
        (this_stage a.stage) refl sent) e

    told : is_heard answer ≡ true → (s k : ℕ)
        → (is_flagged c.dag s k ≡ true) ⊎ ((s ≡ a.stage) × (k ≡ a.stage_attempt))
        → (is_flagged c.dag s k ≡ true)
        ⊎ (fails_number s k (telling a (outcomes.Failed cause) answer) ≡ true)
    told h s k (inl x) = inl x
    told h s k (inr (at, number)) =
        inr (rw (at, number, missing, h) (grind (arith, nat_tests)))

    by : (b : Bool) → MissesIf b c a answer after → Goal
    by true (verdict, d, f, or) =
        λ s k e. told (heard verdict d or) s k
        (flags_marked c.dag a.stage a.stage_attempt s k
        (fewer verdict d f s k (ap (λ (x : DagData). is_flagged x s k)
        (sym (dag_is verdict d or)) ∙ e)))
    by false (told, is) =
        λ s k e. inl (ap (λ (x : CoreData). is_flagged x.dag s k) (sym is) ∙ e)

causes_tell : (c after : CoreData) (a : AttemptId) (answer : Answer) (cause : FailureCause)
    (zombie : Bool) → FailsBy cause zombie c a answer after
    → TellsFlag c.dag after.dag (telling a (outcomes.Failed cause) answer)
causes_tell c after a answer cause zombie h = by cause h
  where
    same : (cause : FailureCause) → after ≡ c
        → TellsFlag c.dag after.dag (telling a (outcomes.Failed cause) answer)
    same cause is s k e = inl (ap (λ (x : CoreData). is_flagged x.dag s k) (sym is) ∙ e)

    gone : (exec wanted found : ℕ) (x y : Bool) → IsGone x y c a exec found answer after
        → TellsFlag c.dag after.dag
        (telling a (outcomes.Failed (causes.Gone exec wanted found)) answer)
    gone exec wanted found true y k =
        misses_tell (with_dag c (after_seen c.dag exec found)) after a answer
        (causes.Gone exec wanted found) refl k
    gone exec wanted found false true (told, is) = same (causes.Gone exec wanted found) is
    gone exec wanted found false false k =
        misses_tell c after a answer (causes.Gone exec wanted found) refl k

    by : (cause : FailureCause) → FailsBy cause zombie c a answer after
        → TellsFlag c.dag after.dag (telling a (outcomes.Failed cause) answer)
    by (causes.Gone exec wanted found) k =
        gone exec wanted found (is_newer (slice_get c.dag.tracker.trust exec) found) zombie k
    by (causes.Metadata last) k = misses_tell c after a answer (causes.Metadata last) refl k
    by causes.Planned (told, is) = same causes.Planned is
    by (causes.Raised raise) (told, is) = same (causes.Raised raise) is
    by (causes.Device fault) (told, is) = same (causes.Device fault) is
    by causes.Denied (told, is) = same causes.Denied is

failures_tell : (b : Bool) (c after : CoreData) (a : AttemptId) (cause : FailureCause)
    (answer : Answer) → TellsFailureIf b c a cause answer after
    → TellsFlag c.dag after.dag (telling a (outcomes.Failed cause) answer)
failures_tell b c after a cause answer h = by b h
  where
    failed : CoreData
    failed = after_failure c a cause

    grows : Grows FewerFlags NoFlag c.dag (after_failure c a cause).dag
    grows =
        failed_grows FewerFlags NoFlag c.dag.limits (flags_calm c.dag.limits)
        (λ x p nth cause. flags_failed x p nth cause) c a cause

    behind : (s k : ℕ)
        → (is_flagged failed.dag s k ≡ true)
        ⊎ (fails_number s k (telling a (outcomes.Failed cause) answer) ≡ true)
        → (is_flagged c.dag s k ≡ true)
        ⊎ (fails_number s k (telling a (outcomes.Failed cause) answer) ≡ true)
    behind s k (inl x) = inl (flags_fewer c.dag failed.dag s k grows x)
    behind s k (inr x) = inr x

    by : (b : Bool) → TellsFailureIf b c a cause answer after
        → TellsFlag c.dag after.dag (telling a (outcomes.Failed cause) answer)
    by true (told, is) =
        λ s k e. behind s k (inl (ap (λ (x : CoreData). is_flagged x.dag s k) (sym is) ∙ e))
    by false k =
        λ s j e. behind s j
        (causes_tell failed after a answer cause (is_zombie_in (set_of c.dag a)) k s j e)

tells_flags : (c after : CoreData) (r : Running) (outcome : Outcome) (answer : Answer)
    → Tells c r outcome answer after
    → TellsFlag c.dag after.dag (telling r.hand_out.attempt outcome answer)
tells_flags c after r (outcomes.Map loc) answer h =
    flags_quiet c.dag after.dag (telling r.hand_out.attempt (outcomes.Map loc) answer)
    (maps_grow FewerFlags NoFlag c.dag.limits (flags_calm c.dag.limits) c after r loc answer refl h)
tells_flags c after r outcomes.Result answer h =
    flags_quiet c.dag after.dag (telling r.hand_out.attempt outcomes.Result answer)
    (results_grow FewerFlags NoFlag c.dag.limits (flags_calm c.dag.limits) c after r answer h)
tells_flags c after r (outcomes.Failed cause) answer h =
    failures_tell (reaches_limit_in (set_of c.dag r.hand_out.attempt) r.hand_out.attempt cause) c
    after r.hand_out.attempt cause answer h

-- ---- events

comes_flag : (c after : CoreData) (event : Event) (answer : Answer) → IsSoundCore c
    → Comes c after event answer → TellsFlags c.dag after.dag (tellings_in c event answer)
comes_flag c after event answer sound (inl q) s k e =
    inl (flags_fewer c.dag after.dag s k
    (may_hold_grows FewerFlags NoFlag c.dag.limits (flags_calm c.dag.limits) c.dag after.dag q.dag)
    e)
comes_flag c after event answer sound (inr h) s k e =
    by (tells_flags h.mid after h.one h.outcome answer h.tells s k e)
  where
    by : (is_flagged h.mid.dag s k ≡ true)
        ⊎ (fails_number s k (telling h.one.hand_out.attempt h.outcome answer) ≡ true)
        → (is_flagged c.dag s k ≡ true) ⊎ (is_missed (tellings_in c event answer) s k ≡ true)
    by (inl x) = inl (ap (λ (d : DagData). is_flagged d s k) (sym h.dag) ∙ x)
    by (inr x) =
        inr (ap (λ told. is_missed told s k) (h.known sound).told ∙ ap (λ b. b || false) x)

pub steps_flag : (c after : CoreData) (event : Event) (answer : Answer) → IsSoundCore c
    → Steps c event answer after → TellsFlags c.dag after.dag (tellings_in c event answer)
steps_flag c after (Take exec) answer sound step s k e =
    inl (flags_fewer c.dag after.dag s k
    (takes_grow FewerFlags NoFlag c.dag.limits (flags_calm c.dag.limits) c after exec answer step)
    e)
steps_flag c after (Post a outcome) answer sound step s k e =
    comes_flag c after (Post a outcome) answer sound (posts_come c after a outcome answer step) s k
    e
steps_flag c after (Release key) answer sound step s k e =
    comes_flag c after (Release key) answer sound (releases_come c after key answer step) s k e
steps_flag c after (Side event) answer sound step s k e =
    comes_flag c after (Side event) answer sound (sides_come c after event answer step) s k e
steps_flag c after (TellLost exec) answer sound step s k e =
    inl (flags_fewer c.dag after.dag s k
    (losses_grow FewerFlags NoFlag c.dag.limits (flags_calm c.dag.limits) c after exec answer step)
    e)
