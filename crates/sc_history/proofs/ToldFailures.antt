-- Each failure that counts stands in a report that the journal tells.
use Rattle.std.proofs.Common.{◌≡◌, ◌⊎◌, inl, inr, ℕ, ◌==◌, ◌&&◌, ◌||◌, Bool, true, false, List, ◌++◌, refl, ap, sym, ◌∙◌, arith, true≢false}
use Rattle.std.specs.List.{list_any}
use Rattle.std.proofs.lemmas.Bool.Decides.{nat_tests}
use Rattle.std.proofs.lemmas.Bool.{or_right}
use Rattle.std.proofs.lemmas.List.Folds.{list_any-append}
use Rattle.sc_ids.specs.Failures.{is_counted}
use Rattle.sc_ids.specs.declared.attempts.AttemptId.{AttemptId}
use Rattle.sc_ids.specs.declared.failures.FailureCause.{FailureCause}
use Rattle.sc_ids.specs.declared.failures.FailureCause.TheVariants as causes
use Rattle.sc_ids.specs.declared.limits.Limits.{Limits}
use Rattle.sc_dag.specs.DagData.{DagData}
use Rattle.sc_dag.specs.Reports.{after_failed, reaches_limit_in, set_of}
use Rattle.sc_dag.proofs.Tests.{is_in}
use Rattle.sc_core.specs.CoreData.{CoreData}
use Rattle.sc_core.specs.Sound.{IsSoundCore}
use Rattle.sc_core.specs.Steps.{Steps}
use Rattle.sc_core.specs.Tells.{FailsBy, Tells, TellsFailureIf, after_failure, is_zombie_in}
use Rattle.sc_core.specs.declared.answers.Answer.{Answer}
use Rattle.sc_core.specs.declared.events.Event.{Event}
use Rattle.sc_core.specs.declared.events.Event.TheVariants.{Post, Release, Side, Take, TellLost}
use Rattle.sc_core.specs.declared.events.Outcome.{Outcome}
use Rattle.sc_core.specs.declared.events.Outcome.TheVariants as outcomes
use Rattle.sc_core.specs.declared.running.Running.{Running}
use Rattle.sc_history.specs.Evidence.{is_failure_of, nth_of}
use Rattle.sc_history.specs.Tellings.{Telling, is_heard, telling, tellings_in}
use Rattle.sc_history.proofs.Events.{Comes, posts_come, releases_come, sides_come}
use Rattle.sc_history.proofs.GrowingCalls.{Grows, failures_grow, losses_grow, maps_grow, may_hold_grows, results_grow, takes_grow}
use Rattle.sc_history.proofs.Keeping.{IsNew, NoFailures, SameFailures, failed_in, failures_at, failures_calm, failures_marked, failures_same}

-- ---- reports of failures

-- a report tells that an attempt failed
abbrev pub fails_nth : ℕ → ℕ → ℕ → ℕ → Telling → Bool
fails_nth s k p n t = is_failure_of s k p t && (nth_of t == n)

-- and some report does
abbrev pub is_told : List Telling → ℕ → ℕ → ℕ → ℕ → Bool
is_told told s k p n = list_any (fails_nth s k p n) told

-- each failure that counts was told
abbrev pub AreTold : List Telling → DagData → Type 0
AreTold told d =
    (s k p n : ℕ) → is_in (failures_at d s k p) n ≡ true → is_told told s k p n ≡ true

told_first : (told more : List Telling) (s k p n : ℕ) → is_told told s k p n ≡ true
    → is_told (told ++ more) s k p n ≡ true
told_first told more s k p n h =
    list_any-append (fails_nth s k p n) told more ∙ ap (λ b. b || is_told more s k p n) h

told_last : (told more : List Telling) (s k p n : ℕ) → is_told more s k p n ≡ true
    → is_told (told ++ more) s k p n ≡ true
told_last told more s k p n h =
    list_any-append (fails_nth s k p n) told more
    ∙ or_right (is_told told s k p n) (is_told more s k p n) h

-- ---- what each event tells

-- failures that count after a report, but for one that it tells, counted before
abbrev TellsOne : DagData → DagData → Telling → Type 0
TellsOne d after t =
    (s k p n : ℕ) → is_in (failures_at after s k p) n ≡ true
    → (is_in (failures_at d s k p) n ≡ true) ⊎ (fails_nth s k p n t ≡ true)

-- the same of an event and the reports that it is of
abbrev pub Tells-all : DagData → DagData → List Telling → Type 0
Tells-all d after told =
    (s k p n : ℕ) → is_in (failures_at after s k p) n ≡ true
    → (is_in (failures_at d s k p) n ≡ true) ⊎ (is_told told s k p n ≡ true)

same : (d after : DagData) → Grows SameFailures NoFailures d after → (s k p n : ℕ)
    → is_in (failures_at after s k p) n ≡ true → is_in (failures_at d s k p) n ≡ true
same d after h s k p n e =
    ap (λ ns. is_in ns n) (sym (failures_same d after s k p h)) ∙ e

quiet : (d after : DagData) (t : Telling) → Grows SameFailures NoFailures d after
    → TellsOne d after t
quiet d after t h s k p n e = inl (same d after h s k p n e)

-- a counted failure is heard
heard_failure : (b : Bool) (c after : CoreData) (a : AttemptId) (cause : FailureCause)
    (answer : Answer) → is_counted cause ≡ true → TellsFailureIf b c a cause answer after
    → is_heard answer ≡ true
heard_failure b c after a cause answer counted h = by b h
  where
    caused : (cause : FailureCause) → is_counted cause ≡ true → (zombie : Bool) (m : CoreData)
        → FailsBy cause zombie m a answer after → is_heard answer ≡ true
    caused causes.Planned e zombie m (told, is) = ap is_heard told
    caused (causes.Raised raise) e zombie m (told, is) = ap is_heard told
    caused (causes.Device fault) e zombie m (told, is) = ap is_heard told
    caused (causes.Gone exec wanted found) e zombie m k = absurd (true≢false (sym e))
    caused (causes.Metadata last) e zombie m k = absurd (true≢false (sym e))
    caused causes.Denied e zombie m k = absurd (true≢false (sym e))

    by : (b : Bool) → TellsFailureIf b c a cause answer after → is_heard answer ≡ true
    by true (told, is) = ap is_heard told
    by false k =
        caused cause counted (is_zombie_in (set_of c.dag a)) (after_failure c a cause) k

failure_tells : (b : Bool) (c after : CoreData) (a : AttemptId) (cause : FailureCause)
    (answer : Answer) (L : Limits) → c.dag.limits ≡ L → TellsFailureIf b c a cause answer after
    → TellsOne c.dag after.dag (telling a (outcomes.Failed cause) answer)
failure_tells b c after a cause answer L limits h s k p n e =
    by (failed_in c.dag a cause s k p n
    (ap (λ ns. is_in ns n)
    (sym (failures_same (after_failed c.dag a cause) after.dag s k p
    (failures_grow SameFailures NoFailures L (failures_calm L) failures_marked b c after a cause
    answer limits h)))
    ∙ e))
  where
    new : IsNew a cause s k p n
        → fails_nth s k p n (telling a (outcomes.Failed cause) answer) ≡ true
    new is =
        let heard = heard_failure b c after a cause answer is.counted h in
        rw (is.stage, is.number, is.partition, is.nth, is.counted, heard) (grind (arith, nat_tests))

    by : (is_in (failures_at c.dag s k p) n ≡ true) ⊎ IsNew a cause s k p n
        → (is_in (failures_at c.dag s k p) n ≡ true)
        ⊎ (fails_nth s k p n (telling a (outcomes.Failed cause) answer) ≡ true)
    by (inl x) = inl x
    by (inr x) = inr (new x)

tells_all : (c after : CoreData) (r : Running) (outcome : Outcome) (answer : Answer) (L : Limits)
    → c.dag.limits ≡ L → Tells c r outcome answer after
    → TellsOne c.dag after.dag (telling r.hand_out.attempt outcome answer)
tells_all c after r (outcomes.Map loc) answer L limits h =
    quiet c.dag after.dag (telling r.hand_out.attempt (outcomes.Map loc) answer)
    (maps_grow SameFailures NoFailures L (failures_calm L) c after r loc answer limits h)
tells_all c after r outcomes.Result answer L limits h =
    quiet c.dag after.dag (telling r.hand_out.attempt outcomes.Result answer)
    (results_grow SameFailures NoFailures L (failures_calm L) c after r answer h)
tells_all c after r (outcomes.Failed cause) answer L limits h =
    failure_tells
    (reaches_limit_in (set_of c.dag r.hand_out.attempt) r.hand_out.attempt cause) c after
    r.hand_out.attempt cause answer L limits h

comes_tell : (c after : CoreData) (event : Event) (answer : Answer) → IsSoundCore c
    → Comes c after event answer → Tells-all c.dag after.dag (tellings_in c event answer)
comes_tell c after event answer sound (inl q) s k p n e =
    inl (same c.dag after.dag
    (may_hold_grows SameFailures NoFailures c.dag.limits (failures_calm c.dag.limits) c.dag
    after.dag q.dag) s k p n e)
comes_tell c after event answer sound (inr h) s k p n e =
    by (tells_all h.mid after h.one h.outcome answer h.mid.dag.limits refl h.tells s k p n e)
  where
    by : (is_in (failures_at h.mid.dag s k p) n ≡ true)
        ⊎ (fails_nth s k p n (telling h.one.hand_out.attempt h.outcome answer) ≡ true)
        → (is_in (failures_at c.dag s k p) n ≡ true)
        ⊎ (is_told (tellings_in c event answer) s k p n ≡ true)
    by (inl x) = inl (ap (λ (d : DagData). is_in (failures_at d s k p) n) (sym h.dag) ∙ x)
    by (inr x) =
        inr (ap (λ told. is_told told s k p n) (h.known sound).told ∙ ap (λ b. b || false) x)

pub steps_tell : (c after : CoreData) (event : Event) (answer : Answer) → IsSoundCore c
    → Steps c event answer after → Tells-all c.dag after.dag (tellings_in c event answer)
steps_tell c after (Take exec) answer sound step s k p n e =
    inl (same c.dag after.dag
    (takes_grow SameFailures NoFailures c.dag.limits (failures_calm c.dag.limits) c after exec
    answer step) s k p n e)
steps_tell c after (Post a outcome) answer sound step s k p n e =
    comes_tell c after (Post a outcome) answer sound (posts_come c after a outcome answer step) s k
    p n e
steps_tell c after (Release key) answer sound step s k p n e =
    comes_tell c after (Release key) answer sound (releases_come c after key answer step) s k p n e
steps_tell c after (Side event) answer sound step s k p n e =
    comes_tell c after (Side event) answer sound (sides_come c after event answer step) s k p n e
steps_tell c after (TellLost exec) answer sound step s k p n e =
    inl (same c.dag after.dag
    (losses_grow SameFailures NoFailures c.dag.limits (failures_calm c.dag.limits) c after exec
    answer step) s k p n e)

-- so each event keeps it that each failure was told
pub event_tells : (told : List Telling) (event : Event) (answer : Answer) (c after : CoreData)
    → IsSoundCore c → AreTold told c.dag → Steps c event answer after
    → AreTold (told ++ tellings_in c event answer) after.dag
event_tells told event answer c after sound were step s k p n h =
    by (steps_tell c after event answer sound step s k p n h)
  where
    by : (is_in (failures_at c.dag s k p) n ≡ true)
        ⊎ (is_told (tellings_in c event answer) s k p n ≡ true)
        → is_told (told ++ tellings_in c event answer) s k p n ≡ true
    by (inl x) = told_first told (tellings_in c event answer) s k p n (were s k p n x)
    by (inr x) = told_last told (tellings_in c event answer) s k p n x
