-- What a job that is aborted for a stage, or for want of executors, shows in the end.
use Rattle.std.proofs.Common.{◌≡◌, ℕ, zero, suc, ◌+◌, ◌-◌, ◌<◌, ◌≤◌, All, Bool, true, false, cond, List, [], ◌∷◌, count_by, length, Option, Some, None, slice_get, refl, ap, sym, subst, ◌∙◌, arith, true≢false}
use Rattle.std.specs.List.{AllPairs}
use Rattle.std.proofs.lemmas.Bool.{and_parts}
use Rattle.std.proofs.lemmas.Bool.Decides.{nat_tests}
use Rattle.std.proofs.lemmas.List.Elements.{All-head, All-tail}
use Rattle.std.proofs.lemmas.List.Sums.{sum_by-cons}
use Rattle.sc_plan.specs.Orders.{loss_of}
use Rattle.sc_tracker.specs.TrackerData.{trust_of}
use Rattle.sc_tracker.specs.Trust.{are_lost, trust_at}
use Rattle.sc_tracker.specs.declared.trust.Trust.{Trust}
use Rattle.sc_dag.specs.DagData.{DagData, StageState}
use Rattle.sc_dag.specs.Reports.{failed_count}
use Rattle.sc_dag.specs.Sound.{attempts_in, attempts_of}
use Rattle.sc_dag.specs.declared.attempts.StageAttempt.{StageAttempt}
use Rattle.sc_dag.proofs.Items.{pairs_head, pairs_tail}
use Rattle.sc_core.specs.CoreData.{CoreData}
use Rattle.sc_core.specs.Journals.{Replays}
use Rattle.sc_core.specs.Losses.{is_due_after}
use Rattle.sc_core.specs.Sound.{IsSoundCore}
use Rattle.sc_core.specs.declared.entries.Entry.{Entry}
use Rattle.sc_history.proofs.Closing.{HasClosed, IsClosed, steps_close}

-- ---- failed attempts

-- one where something is so
abbrev one_if : Bool → ℕ
one_if b = cond b 1 0

-- no more attempts failed than there were epochs, where each that failed began before the next
failed_few : (epoch first : ℕ) (xs : List StageAttempt)
    → All (λ a. a.has_failed ≡ true → a.set.born < epoch) xs
    → AllPairs (λ a b. a.has_failed ≡ true → a.set.born < b.set.born) xs
    → All (λ a. first ≤ a.set.born) xs → count_by (λ a. a.has_failed) xs ≤ epoch - first
failed_few epoch first [] past rising above = omega arith
failed_few epoch first (x ∷ xs) past rising above =
    by x.has_failed refl
    (λ from low. failed_few epoch from xs
    (All-tail (λ a. a.has_failed ≡ true → a.set.born < epoch) x xs past)
    (pairs_tail (λ a b. a.has_failed ≡ true → a.set.born < b.set.born) x xs rising) low)
  where
    all : count_by (λ a. a.has_failed) (x ∷ xs)
        ≡ one_if x.has_failed + count_by (λ a. a.has_failed) xs
    all = sum_by-cons (λ (a : StageAttempt). one_if a.has_failed) x xs

    by : (b : Bool) → x.has_failed ≡ b
        → ((from : ℕ) → All (λ a. from ≤ a.set.born) xs
        → count_by (λ a. a.has_failed) xs ≤ epoch - from)
        → count_by (λ a. a.has_failed) (x ∷ xs) ≤ epoch - first
    by true e rest =
        let some : one_if x.has_failed ≡ 1 = ap one_if e in
        let least = All-head (λ a. first ≤ a.set.born) x xs above in
        let now = All-head (λ a. a.has_failed ≡ true → a.set.born < epoch) x xs past e in
        let more = rest (suc x.set.born)
        (λ i d l. pairs_head (λ a b. a.has_failed ≡ true → a.set.born < b.set.born) x xs rising
        i d l e) in
        omega (arith, all, some, least, now, more)
    by false e rest =
        let none : one_if x.has_failed ≡ 0 = ap one_if e in
        let more = rest first (All-tail (λ a. first ≤ a.set.born) x xs above) in
        omega (arith, all, none, more)

failed_among : (d : DagData) (s : ℕ)
    → failed_count (slice_get d.states s) ≡ count_by (λ a. a.has_failed) (attempts_of d s)
failed_among d s = by (slice_get d.states s)
  where
    by : (o : Option StageState)
        → failed_count o ≡ count_by (λ a. a.has_failed) (attempts_in o)
    by None = refl
    by (Some state) = refl

-- what a job that is aborted for a stage leaves of it
pub closes_along : (c end : CoreData) (entries : List Entry) → HasClosed c → Replays c entries end
    → HasClosed end
closes_along c end [] closed is = subst (λ (x : CoreData). HasClosed x) (sym is) closed
closes_along c end (e ∷ entries) closed (mid, step, rest) =
    closes_along mid end entries (steps_close c mid e.event e.answer step closed) rest

-- as many attempts failed as are allowed, each for an epoch of its own
pub often_late : (c : CoreData) (s : ℕ) → IsSoundCore c → IsClosed c.dag s
    → c.dag.limits.stage_attempts ≤ c.dag.tracker.epoch
often_late c s sound closed =
    let often = closed.often in
    let enough : c.dag.limits.stage_attempts ≤ failed_count (slice_get c.dag.states s) =
    grind (arith, nat_tests, often) in
    let charged = sound.job.dag.charged s in
    let failed = failed_few c.dag.tracker.epoch 0 (attempts_of c.dag s) charged.past charged.rising
    (λ i d l. omega arith) in
    let same = failed_among c.dag s in
    omega (arith, enough, failed, same)

-- ---- lost executors

-- where all are lost each one is
each_lost : (trust : List Trust) (exec : ℕ) → are_lost trust ≡ true → exec < length trust
    → (trust_at trust exec).lost ≡ true
each_lost [] exec all within = absurd (omega arith)
each_lost (t ∷ trust) zero all within = (and_parts t.lost (are_lost trust) all).0
each_lost (t ∷ trust) (suc exec) all within =
    each_lost trust exec (and_parts t.lost (are_lost trust) all).1 (omega arith)

-- so each has a line in the plan
pub each_planned : (c : CoreData) (exec : ℕ) → IsSoundCore c
    → are_lost c.dag.tracker.trust ≡ true → exec < length c.dag.tracker.trust
    → loss_of c.plan exec ≡ None → ⊥
each_planned c exec sound all lt none =
    let lost : (trust_of c.dag.tracker exec).lost ≡ true =
    each_lost c.dag.tracker.trust exec all lt in
    true≢false (sym (sound.lost exec lost) ∙ ap (λ o. is_due_after o c.told) none)
