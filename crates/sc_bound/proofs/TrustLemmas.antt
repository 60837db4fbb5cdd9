-- What was heard of executors, by what a plan has for each of them.
use Rattle.std.proofs.Common.{◌≡◌, ◌≢◌, ℕ, suc, ◌+◌, ◌≤◌, Bool, true, false, cond, if◌then◌else◌, List, [], ◌∷◌, length, None, refl, subst, arith}
use Rattle.std.specs.List.{sum_by}
use Rattle.std.proofs.lemmas.List.Sums.{sum_by-cons}
use Rattle.sc_plan.specs.Orders.{loss_of, wipes_of}
use Rattle.sc_plan.specs.declared.lines.PlanLine.{PlanLine}
use Rattle.sc_tracker.specs.TrackerData.{TrackerData, trust_of}
use Rattle.sc_tracker.specs.TrackerFacts.{events_of}
use Rattle.sc_tracker.specs.Trust.{trust_at}
use Rattle.sc_tracker.specs.declared.trust.Trust.{Trust}
use Rattle.sc_bound.specs.Bounds.{loses_in}
use Rattle.sc_bound.specs.Losses.{EventsArePlanned, LossesArePlanned, lost_count}
use Rattle.sc_bound.proofs.LossLemmas.{events_at, loss_there, losses_at, total_events, total_losses}
use Rattle.sc_bound.proofs.SumLemmas.{total}

-- a sum over what was heard of executors, by a bound for each of them
sum_trust : (g : Trust → ℕ) (f : ℕ → ℕ) (trust : List Trust) (n : ℕ)
    → ((e : ℕ) → g (trust_at trust e) ≤ f (n + e)) → sum_by g trust ≤ total f n (length trust)
sum_trust g f [] n le = omega arith
sum_trust g f (t ∷ ts) n le =
    let here : n + 0 ≡ n = omega arith in
    let one : g t ≤ f n = subst (λ (k : ℕ). g t ≤ f k) here (le 0) in
    let more : sum_by g ts ≤ total f (suc n) (length ts) = sum_trust g f ts (suc n) next in
    let all = sum_by-cons g t ts in
    omega (arith, one, more, all)
  where
    next : (e : ℕ) → g (trust_at ts e) ≤ f (suc n + e)
    next e =
        let same : n + suc e ≡ suc n + e = omega arith in
        subst (λ (k : ℕ). g (trust_at ts e) ≤ f k) same (le (suc e))

-- no more executors are lost than have a line
pub lost_planned : (plan : List PlanLine) (t : TrackerData)
    → ((exec : ℕ) → (trust_of t exec).lost ≡ true → loss_of plan exec ≢ None)
    → lost_count t ≤ loses_in plan
lost_planned plan t lines =
    let le = sum_trust (λ (h : Trust). cond h.lost 1 0) (losses_at plan) t.trust 0 each in
    let most = total_losses plan 0 (length t.trust) in
    omega (arith, le, most)
  where
    each : (e : ℕ) → cond (trust_of t e).lost 1 0 ≤ losses_at plan (0 + e)
    each e =
        let same : e ≡ 0 + e = omega arith in
        subst (λ (k : ℕ). cond (trust_of t e).lost 1 0 ≤ losses_at plan k) same
        (by (trust_of t e).lost refl)
      where
        by : (b : Bool) → (trust_of t e).lost ≡ b → cond b 1 0 ≤ losses_at plan e
        by true l = loss_there plan e (lines e l)
        by false l = omega arith

pub losses_are_planned : LossesArePlanned
losses_are_planned plan t heard = lost_planned plan t heard.lost

pub events_are_planned : EventsArePlanned
events_are_planned plan t sound heard =
    let le = sum_trust events_of (events_at plan) t.trust 0 each in
    let most = total_events plan 0 (length t.trust) in
    let epoch = sound.events in
    omega (arith, le, most, epoch)
  where
    each : (e : ℕ) → events_of (trust_of t e) ≤ events_at plan (0 + e)
    each e =
        let same : e ≡ 0 + e = omega arith in
        subst (λ (k : ℕ). events_of (trust_of t e) ≤ events_at plan k) same
        (by (trust_of t e).lost refl)
      where
        by : (b : Bool) → (trust_of t e).lost ≡ b
            → (trust_of t e).seen + (if b then 1 else 0)
            ≤ length (wipes_of plan e) + losses_at plan e
        by true l =
            let line = loss_there plan e (heard.lost e l) in
            let seen = heard.seen e in
            omega (arith, line, seen)
        by false l = let seen = heard.seen e in omega (arith, seen)
