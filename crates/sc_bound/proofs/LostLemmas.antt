-- How many executors were told lost, as events leave it.
use Rattle.std.proofs.Common.{◌≡◌, inl, inr, ℕ, zero, suc, ◌+◌, ◌≤◌, not, Bool, true, false, cond, if◌then◌else◌, List, [], ◌∷◌, count_by, map, slice_get, refl, ap, sym, ◌∙◌, arith, true≢false}
use Rattle.std.proofs.lemmas.List.Sums.{sum_by-cons}
use Rattle.sc_ids.specs.Changes.{change_at}
use Rattle.sc_tracker.specs.TrackerData.{TrackerData, tracker_data}
use Rattle.sc_tracker.specs.Tracking.{after_executor_lost, after_gone, with_forgotten_on}
use Rattle.sc_tracker.specs.Trust.{is_live, is_newer, lost_at, seen_at}
use Rattle.sc_tracker.specs.declared.trust.Trust.{Trust}
use Rattle.sc_dag.specs.DagData.{DagData}
use Rattle.sc_dag.specs.Losses.{after_lost}
use Rattle.sc_dag.proofs.Tests.{both_left, both_right}
use Rattle.sc_core.specs.CoreData.{CoreData, job_runs, with_dag}
use Rattle.sc_core.specs.Losses.{Loses, attempts_on}
use Rattle.sc_core.specs.Sound.{IsSoundCore}
use Rattle.sc_core.specs.Steps.{Steps}
use Rattle.sc_core.specs.declared.answers.Answer.{Answer}
use Rattle.sc_core.specs.declared.events.Event.{Event}
use Rattle.sc_history.specs.Trackers.{Tracks}
use Rattle.sc_history.proofs.Events.{losses_come}
use Rattle.sc_history.proofs.RoomLemmas.{all_tracker}
use Rattle.sc_history.proofs.TrackerLemmas.{steps_track}
use Rattle.sc_bound.specs.Losses.{lost_count}

abbrev is_one : Trust → ℕ
is_one h = cond h.lost 1 0

-- a newer generation of a store loses nobody
seen_change : (trust : List Trust) (exec found epoch : ℕ)
    → count_by (λ h. h.lost) (change_at trust exec (seen_at found epoch))
    ≡ count_by (λ h. h.lost) trust
seen_change [] exec found epoch = refl
seen_change (t ∷ ts) zero found epoch =
    let a = sum_by-cons is_one (seen_at found epoch t) ts in
    let b = sum_by-cons is_one t ts in
    omega (arith, a, b)
seen_change (t ∷ ts) (suc e) found epoch =
    let a = sum_by-cons is_one t (change_at ts e (seen_at found epoch)) in
    let b = sum_by-cons is_one t ts in
    let rest = seen_change ts e found epoch in
    omega (arith, a, b, rest)

-- and who is told lost is one more
lost_change : (trust : List Trust) (exec epoch : ℕ) → is_live (slice_get trust exec) ≡ true
    → count_by (λ h. h.lost) (change_at trust exec (lost_at epoch))
    ≡ count_by (λ h. h.lost) trust + 1
lost_change [] exec epoch live = absurd (true≢false (sym live))
lost_change (t ∷ ts) zero epoch live =
    let a = sum_by-cons is_one (lost_at epoch t) ts in
    let b = sum_by-cons is_one t ts in
    let was = by t.lost refl live in
    omega (arith, a, b, was)
  where
    by : (b : Bool) → t.lost ≡ b → not b ≡ true → is_one t ≡ 0
    by true e h = absurd (true≢false (sym h))
    by false e h = ap (λ b. cond b 1 0) e
lost_change (t ∷ ts) (suc e) epoch live =
    let a = sum_by-cons is_one t (change_at ts e (lost_at epoch)) in
    let b = sum_by-cons is_one t ts in
    let rest = lost_change ts e epoch live in
    omega (arith, a, b, rest)

pub gone_lost : (t : TrackerData) (exec found : ℕ)
    → lost_count (after_gone t exec found) ≡ lost_count t
gone_lost t exec found = by (is_newer (slice_get t.trust exec) found)
  where
    by : (b : Bool)
        → lost_count (if b then tracker_data (map (with_forgotten_on exec) t.shuffles)
        (change_at t.trust exec (seen_at found t.epoch)) (t.epoch + 1) else t)
        ≡ lost_count t
    by true = seen_change t.trust exec found t.epoch
    by false = refl

pub loss_lost : (t : TrackerData) (exec : ℕ) → is_live (slice_get t.trust exec) ≡ true
    → lost_count (after_executor_lost t exec) ≡ lost_count t + 1
loss_lost t exec live = rw live (lost_change t.trust exec t.epoch live)

-- ---- events

-- nobody is found again
pub lost_stay : (c after : CoreData) (event : Event) (answer : Answer) → IsSoundCore c
    → Steps c event answer after → lost_count c.dag.tracker ≤ lost_count after.dag.tracker
lost_stay c after event answer sound step = by (steps_track c after event answer sound step)
  where
    at : (t : TrackerData) → after.dag.tracker ≡ t → lost_count c.dag.tracker ≤ lost_count t
        → lost_count c.dag.tracker ≤ lost_count after.dag.tracker
    at t is le = let same = ap lost_count is in omega (arith, same, le)

    by : Tracks c after.dag.tracker → lost_count c.dag.tracker ≤ lost_count after.dag.tracker
    by (inl same) = at c.dag.tracker same (omega arith)
    by (inr (inl own)) = let same = ap lost_count own.is in omega (arith, same)
    by (inr (inr (inl seen))) =
        let same = gone_lost c.dag.tracker seen.exec seen.found in
        at (after_gone c.dag.tracker seen.exec seen.found) seen.is (omega (arith, same))
    by (inr (inr (inr one))) =
        let more = loss_lost c.dag.tracker one.exec one.live in
        at (after_executor_lost c.dag.tracker one.exec) one.is (omega (arith, more))

-- a loss is one more
pub lost_more : (c after : CoreData) (exec : ℕ) (answer : Answer) → Loses c exec answer after
    → lost_count after.dag.tracker ≡ lost_count c.dag.tracker + 1
lost_more c after exec answer step =
    ap lost_count is ∙ loss_lost c.dag.tracker exec live
  where
    live : is_live (slice_get c.dag.tracker.trust exec) ≡ true
    live = both_left (is_live (slice_get c.dag.tracker.trust exec)) _
        (both_right (job_runs c) _ step.0)

    is : after.dag.tracker ≡ after_executor_lost c.dag.tracker exec
    is =
        ap (λ (d : DagData). d.tracker) (losses_come c after exec answer step).dag
        ∙ all_tracker (attempts_on exec c.running) (with_dag c (after_lost c.dag exec))
