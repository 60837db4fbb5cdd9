-- Where a stage is under way and nothing is on offer, a task is held back.
use Rattle.std.proofs.Common.{◌≡◌, ◌⊎◌, inl, inr, ℕ, zero, suc, ◌-◌, ◌<◌, ◌||◌, ◌&&◌, not, Bool, true, false, List, [], ◌∷◌, All, length, map, Option, Some, None, slice_get, refl, ap, sym, subst, ◌∙◌, arith, rules, true≢false}
use Rattle.std.specs.List.{list_any}
use Rattle.std.proofs.lemmas.Bool.Decides.{nat_tests}
use Rattle.sc_taskset.specs.Lookups.{are_finished, is_finished, is_idle, is_task_of, task_at}
use Rattle.sc_taskset.specs.Offers.{is_pending, is_pending_task}
use Rattle.sc_taskset.specs.Sound.{AreRising}
use Rattle.sc_taskset.specs.TaskSetData.{TaskData, TaskSetData}
use Rattle.sc_dag.specs.DagData.{DagData, StageState, is_live_set, newest_at, newest_set, set_in, stage_at}
use Rattle.sc_dag.specs.Laws.{HoldsBack, NothingIsStuck}
use Rattle.sc_dag.specs.Offers.{HasNone, OffersIn}
use Rattle.sc_dag.specs.Outputs.{is_complete}
use Rattle.sc_dag.specs.Settled.{IsSettled, IsUnderWay, goes_on, goes_on_in, will_go_on}
use Rattle.sc_dag.specs.Sound.{IsSetOf, IsSoundDag, attempts_in}
use Rattle.sc_dag.specs.Submission.{waiting_stages, waits_in}
use Rattle.sc_dag.specs.declared.attempts.StageAttempt.{StageAttempt}
use Rattle.sc_dag.proofs.Items.{all_at, all_unmapped, find_all, pairs_head, pairs_tail}
use Rattle.sc_dag.proofs.Moving.{newest_among}
use Rattle.sc_dag.proofs.Tests.{all_in, any_member, both_left, both_right, clash, left_only, not_true}

-- a task that isn't finished, by its partition
pub unfinished_task :
    (tasks : List TaskData) → AreRising (map (λ t. t.partition) tasks)
    → are_finished tasks ≡ false
    → (t : TaskData) × (task_at t.partition tasks ≡ Some t) × (is_finished t ≡ false)
unfinished_task [] rising e = absurd (true≢false e)
unfinished_task (x ∷ xs) rising e =
    by (is_finished x) refl e
    (λ k. unfinished_task xs
    (pairs_tail (λ p q. p < q) x.partition (map (λ t. t.partition) xs) rising) k)
  where
    above : All (λ q. x.partition < q) (map (λ t. t.partition) xs)
    above = pairs_head (λ p q. p < q) x.partition (map (λ t. t.partition) xs) rising

    itself : is_task_of x.partition x ≡ true
    itself = grind (arith, nat_tests)

    behind : (t : TaskData) → task_at t.partition xs ≡ Some t
        → task_at t.partition (x ∷ xs) ≡ Some t
    behind t found =
        let lt : x.partition < t.partition =
        find_all (λ u. x.partition < u.partition) (is_task_of t.partition) xs t
        (all_unmapped (λ q. x.partition < q) (λ u. u.partition) xs above) found in
        let other : is_task_of t.partition x ≡ false = grind (arith, nat_tests, lt) in
        rw other found

    by : (b : Bool) → is_finished x ≡ b → (b && are_finished xs) ≡ false
        → (are_finished xs ≡ false
        → (t : TaskData) × (task_at t.partition xs ≡ Some t) × (is_finished t ≡ false))
        → (t : TaskData) × (task_at t.partition (x ∷ xs) ≡ Some t) × (is_finished t ≡ false)
    by false is h f = (x, rw itself refl, is)
    by true is h f = let r = f h in (r.0, behind r.0 r.1, r.2)

-- what holds of each attempt holds of the newest set
pub newest_holds :
    (P : TaskSetData → Type 0) (o : Option StageState) (set : TaskSetData)
    → All (λ a. P a.set) (attempts_in o) → newest_among o ≡ Some set → P set
newest_holds P None set a e = absurd (search (rules, e))
newest_holds P (Some state) set a e =
    by (slice_get state.attempts (length state.attempts - 1)) refl e
  where
    by : (o : Option StageAttempt) → slice_get state.attempts (length state.attempts - 1) ≡ o
        → set_in o ≡ Some set → P set
    by None is h = absurd (search (rules, h))
    by (Some x) is h =
        let same : x.set ≡ set = search (rules, h) in
        subst P same (all_at (λ b. P b.set) state.attempts (length state.attempts - 1) x a is)

-- a task that isn't finished and isn't pending runs, or is denied
held_back :
    (t : TaskData) → is_finished t ≡ false → is_pending_task t ≡ false
    → (is_idle t.copies ≡ false) ⊎ (t.denied ≡ true)
held_back t unfinished idle = by (is_finished t) (is_idle t.copies) t.denied unfinished idle
  where
    by : (f i d : Bool) → f ≡ false → (not f && (i && not d)) ≡ false
        → (i ≡ false) ⊎ (d ≡ true)
    by true i d u e = absurd (true≢false u)
    by false false d u e = inl refl
    by false true true u e = inr refl
    by false true false u e = absurd (true≢false e)

-- a task that isn't pending in a set that hands out
not_pending :
    (set : TaskSetData) (p : ℕ) (t : TaskData) → set.is_zombie ≡ false
    → task_at p set.tasks ≡ Some t → is_pending set p ≡ false → is_pending_task t ≡ false
not_pending set p t live is e = rw (live, is) at e

-- a task of a set that hands out is held back where nothing is on offer
live_holds :
    (d : DagData) (s exec now : ℕ) (set : TaskSetData) → IsSoundDag d → HasNone d exec now
    → newest_at d s ≡ Some set → set.is_zombie ≡ false → (p : ℕ) × HoldsBack d s p
live_holds d s exec now set sound none is live =
    let of : IsSetOf (stage_at d s) set =
    newest_holds (IsSetOf (stage_at d s)) (slice_get d.states s) set
    (λ i x l. (sound.attempts s i x l).set) is in
    let some : are_finished set.tasks ≡ false =
    by (are_finished set.tasks) refl (λ e. of.sound.ends e) in
    let found = unfinished_task set.tasks of.sound.rising some in
    let offer : OffersIn (Some set) exec now None = rw is at (none s) in (
      found.0.partition,
      record {
        set = set;
        task = found.0;
        newest = is;
        live = live;
        is_task = found.1;
        unfinished = found.2;
        held = held_back found.0 found.2
            (not_pending set found.0.partition found.0 live found.1 (offer.0 found.0.partition));
      },
    )
  where
    by : (b : Bool) → are_finished set.tasks ≡ b
        → (are_finished set.tasks ≡ true → set.is_zombie ≡ true) → b ≡ false
    by false e f = refl
    by true e f = absurd (clash (f e) live)

-- a stage that goes on and isn't complete has one, or waits for a stage before it
stuck_below :
    (d : DagData) (exec now : ℕ) → IsSoundDag d → IsSettled d → HasNone d exec now
    → (n s : ℕ) → s < n → IsUnderWay d s → (r : ℕ) × (p : ℕ) × HoldsBack d r p
stuck_below d exec now sound settled none zero s lt under = absurd (omega (arith, lt))
stuck_below d exec now sound settled none (suc n) s lt under =
    waits_or (slice_get d.states s) refl under.1
    (λ p less way. stuck_below d exec now sound settled none n p (omega (arith, lt, less)) way)
  where
    one : (p : ℕ) × HoldsBack d s p → (r : ℕ) × (p : ℕ) × HoldsBack d r p
    one h = (s, h.0, h.1)

    way : (p : ℕ) → will_go_on d (λ q. false) p ≡ true → IsUnderWay d p
    way p e = (
      not_true (is_complete d p) (both_left (not (is_complete d p)) _ e),
      left_only (goes_on d p) (both_right (not (is_complete d p)) (goes_on d p || false) e),
    )

    parents : (false ≡ true)
        ⊎ (list_any (will_go_on d (λ q. false)) (stage_at d s).parents ≡ true)
        → (p : ℕ) × (p < s) × IsUnderWay d p
    parents (inl e) = absurd (true≢false (sym e))
    parents (inr some) =
        let p = any_member (will_go_on d (λ q. false)) (stage_at d s).parents some in (
          p.0,
          all_in (λ q. q < s) (stage_at d s).parents p.0 (sound.stages.older s) p.1,
          way p.0 p.2,
        )

    waiting : ((p : ℕ) → p < s → IsUnderWay d p → (r : ℕ) × (q : ℕ) × HoldsBack d r q)
        → waiting_stages d s ≡ true → (r : ℕ) × (p : ℕ) × HoldsBack d r p
    waiting below w = let p = parents (settled.waits s w) in below p.0 p.1 p.2

    live : (o : Option TaskSetData) → newest_at d s ≡ o → is_live_set o ≡ true
        → (r : ℕ) × (p : ℕ) × HoldsBack d r p
    live None is e = absurd (true≢false (sym e))
    live (Some set) is e =
        one (live_holds d s exec now set sound none is (not_true set.is_zombie e))

    or : (state : StageState) → slice_get d.states s ≡ Some state → (w : Bool)
        → state.waits ≡ w → (w || is_live_set (newest_set state)) ≡ true
        → ((p : ℕ) → p < s → IsUnderWay d p → (r : ℕ) × (q : ℕ) × HoldsBack d r q)
        → (r : ℕ) × (p : ℕ) × HoldsBack d r p
    or state is true w e below = waiting below (ap waits_in is ∙ w)
    or state is false w e below = live (newest_set state) (ap newest_among is) e

    waits_or : (o : Option StageState) → slice_get d.states s ≡ o → goes_on_in o ≡ true
        → ((p : ℕ) → p < s → IsUnderWay d p → (r : ℕ) × (q : ℕ) × HoldsBack d r q)
        → (r : ℕ) × (p : ℕ) × HoldsBack d r p
    waits_or None is e below = absurd (true≢false (sym e))
    waits_or (Some state) is e below = or state is state.waits refl e below

pub nothing_is_stuck : NothingIsStuck
nothing_is_stuck d r exec now sound settled under none =
    stuck_below d exec now sound settled none (suc r) r (omega arith) under
