-- What the calls of the stages of a job do to each task set, for any relation that changes keep.
use Rattle.std.proofs.Common.{◌≡◌, ◌⊎◌, inl, inr, ℕ, ◌==◌, Bool, true, false, cond, if◌then◌else◌, List, [], ◌∷◌, map, Option, Some, None, option_map, refl, sym, subst, ◌∙◌}
use Rattle.std.proofs.lemmas.Bool.{cases_eq}
use Rattle.sc_ids.specs.Graphs.{StageData}
use Rattle.sc_ids.specs.declared.attempts.AttemptId.{AttemptId}
use Rattle.sc_ids.specs.declared.blocks.Loc.{Loc}
use Rattle.sc_ids.specs.declared.failures.FailureCause.{FailureCause}
use Rattle.sc_ids.specs.declared.limits.Limits.{Limits}
use Rattle.sc_taskset.specs.Offers.{given_in, given_of}
use Rattle.sc_taskset.specs.Reports.{after_end, after_failure, after_held, after_success, as_zombie}
use Rattle.sc_taskset.specs.TaskSetData.{TaskSetData, fresh_task}
use Rattle.sc_taskset.specs.declared.tasks.Verdict.{Verdict}
use Rattle.sc_taskset.specs.declared.tasks.Verdict.TheVariants as verdicts
use Rattle.sc_tracker.specs.TrackerData.{TrackerData}
use Rattle.sc_tracker.specs.Tracking.{is_bogus}
use Rattle.sc_dag.specs.DagData.{DagData, changed_newest, stage_at, with_state}
use Rattle.sc_dag.specs.Offers.{newest_number}
use Rattle.sc_dag.specs.Outputs.{is_complete, missing_by}
use Rattle.sc_dag.specs.Reports.{CompletesMap, FailsStage, after_failed, after_hold, after_map_success, after_result_success, completed, completed_if, ended_in_own, in_own_set, is_of_newest, is_repeat, succeeded_in_both, succeeded_in_own, with_failed, with_output, with_result}
use Rattle.sc_dag.specs.Submission.{IsSubmitted, new_set, this_stage, waiting_stages}
use Rattle.sc_base.specs.Lists.{at_or}
use Rattle.sc_taskset.specs.Lookups.{task_at}
use Rattle.sc_taskset.specs.Reports.{held_task}
use Rattle.sc_bound.specs.Numbered.{set_at}
use Rattle.sc_bound.proofs.SlotLemmas.{IsNewSet, MayStart, completed_at, result_at, set_beside, set_failed, set_held, set_newest, set_older, set_own, set_submitted, set_unfailed, set_unheld, stage_same}

-- a relation of a set to what becomes of it, in which as much was handed out of a partition
pub record IsOrder (R : TaskSetData → TaskSetData → Type 0) (p : ℕ) : Type 0 where
  pub same : (x : TaskSetData) → R x x
  pub chain : (x y z : TaskSetData) → R x y → R y z → R x z
  pub given : (x y : TaskSetData) → R x y → given_of y p ≡ given_of x p
  pub succeeds : (x : TaskSetData) (q : ℕ) (nth : Option ℕ) (now : ℕ)
      → R x (after_success x q nth now)
  pub ends : (x : TaskSetData) (q nth : ℕ) → R x (after_end x q nth)
  pub fails : (x : TaskSetData) (q nth : ℕ) (cause : FailureCause)
      → R x (after_failure x q nth cause)
  pub stops : (x : TaskSetData) → R x (as_zombie x)

-- what a set of a number was, and what it is: it may be new, and then nothing was handed out of it
abbrev pub Slot : (TaskSetData → TaskSetData → Type 0) → ℕ → Option TaskSetData
    → Option TaskSetData → Type 0
Slot R p None None = Unit {0}
Slot R p None (Some y) = given_of y p ≡ 0
Slot R p (Some x) None = ⊥
Slot R p (Some x) (Some y) = R x y

-- nothing was handed out of a new set
pub new_given : (t : TrackerData) (limits : Limits) (stage : StageData) (results held : List Bool)
    (p : ℕ) → given_of (new_set t limits stage results held) p ≡ 0
new_given t limits stage results held p = none (missing_by t stage results)
  where
    none : (ps : List ℕ)
        → given_in (task_at p (map (λ u. held_task (at_or held u.partition false) u)
        (map fresh_task ps))) ≡ 0
    none [] = refl
    none (q ∷ ps) = by (q == p) (none ps)
      where
        by : (b : Bool)
            → given_in (task_at p (map (λ u. held_task (at_or held u.partition false) u)
            (map fresh_task ps))) ≡ 0
            → given_in (cond b (Some (held_task (at_or held q false) (fresh_task q)))
            (task_at p (map (λ u. held_task (at_or held u.partition false) u)
            (map fresh_task ps)))) ≡ 0
        by true h = refl
        by false h = h

module _ (R : TaskSetData → TaskSetData → Type 0) (p : ℕ) (order : IsOrder R p) where
  pub slot_same : (o : Option TaskSetData) → Slot R p o o
  slot_same None = tt
  slot_same (Some x) = order.same x

  pub slot_is : (o x : Option TaskSetData) → x ≡ o → Slot R p o x
  slot_is o x is = subst (λ y. Slot R p o y) (sym is) (slot_same o)

  pub slot_then : (o x y : Option TaskSetData) → Slot R p o x → Slot R p x y → Slot R p o y
  slot_then None None y h k = k
  slot_then None (Some b) None h k = absurd k
  slot_then None (Some b) (Some c) h k = order.given b c k ∙ h
  slot_then (Some a) None y h k = absurd h
  slot_then (Some a) (Some b) None h k = absurd k
  slot_then (Some a) (Some b) (Some c) h k = order.chain a b c h k

  -- the sets of all numbers
  abbrev pub Slots : DagData → DagData → Type 0
  Slots d after = (s k : ℕ) → Slot R p (set_at d s k) (set_at after s k)

  pub slots_same : (d : DagData) → Slots d d
  slots_same d s k = slot_same (set_at d s k)

  pub slots_then : (d e f : DagData) → Slots d e → Slots e f → Slots d f
  slots_then d e f h k s n = slot_then (set_at d s n) (set_at e s n) (set_at f s n) (h s n) (k s n)

  mapped : (g : TaskSetData → TaskSetData) → ((x : TaskSetData) → R x (g x))
      → (o : Option TaskSetData) → Slot R p o (option_map g o)
  mapped g h None = tt
  mapped g h (Some x) = h x

  -- ---- one set changed

  pub own_slots : (d : DagData) (a : AttemptId) (g : TaskSetData → TaskSetData)
      → ((x : TaskSetData) → R x (g x)) → Slots d (in_own_set d a g)
  own_slots d a g h s k = by (cases_eq s a.stage) (cases_eq k a.stage_attempt)
    where
      here : Slot R p (set_at d a.stage a.stage_attempt)
          (set_at (in_own_set d a g) a.stage a.stage_attempt)
      here =
          subst (λ y. Slot R p (set_at d a.stage a.stage_attempt) y) (sym (set_own d a g))
          (mapped g h (set_at d a.stage a.stage_attempt))

      beside : (s ≡ a.stage → k ≡ a.stage_attempt → ⊥)
          → Slot R p (set_at d s k) (set_at (in_own_set d a g) s k)
      beside ne = slot_is (set_at d s k) (set_at (in_own_set d a g) s k) (set_beside d a g s k ne)

      by : (s ≡ a.stage) ⊎ (s ≡ a.stage → ⊥)
          → (k ≡ a.stage_attempt) ⊎ (k ≡ a.stage_attempt → ⊥)
          → Slot R p (set_at d s k) (set_at (in_own_set d a g) s k)
      by (inl e) (inl f) =
          subst (λ (r : ℕ). Slot R p (set_at d r k) (set_at (in_own_set d a g) r k)) (sym e)
          (subst (λ (n : ℕ). Slot R p (set_at d a.stage n) (set_at (in_own_set d a g) a.stage n))
          (sym f) here)
      by (inl e) (inr ne) = beside (λ x y. ne y)
      by (inr ne) f = beside (λ x y. ne x)

  pub newest_slots : (d : DagData) (s : ℕ) (g : TaskSetData → TaskSetData)
      → ((x : TaskSetData) → R x (g x)) → Slots d (with_state d s (changed_newest g))
  newest_slots d s g h r k = by (cases_eq r s) (cases_eq k (newest_number d s))
    where
      after : DagData
      after = with_state d s (changed_newest g)

      beside : (r ≡ s → k ≡ newest_number d s → ⊥)
          → Slot R p (set_at d r k) (set_at (with_state d s (changed_newest g)) r k)
      beside ne =
          slot_is (set_at d r k) (set_at (with_state d s (changed_newest g)) r k)
          (set_older d s g r k ne)

      by : (r ≡ s) ⊎ (r ≡ s → ⊥) → (k ≡ newest_number d s) ⊎ (k ≡ newest_number d s → ⊥)
          → Slot R p (set_at d r k) (set_at (with_state d s (changed_newest g)) r k)
      by (inl e) (inl f) =
          subst (λ (q : ℕ). Slot R p (set_at d q k)
          (set_at (with_state d s (changed_newest g)) q k)) (sym e)
          (subst (λ y. Slot R p (set_at d s k) y) (sym (set_newest d s g k f))
          (mapped g h (set_at d s k)))
      by (inl e) (inr ne) = beside (λ x y. ne y)
      by (inr ne) f = beside (λ x y. ne x)

  -- where a partition is held back, or not any more, in a relation that keeps that
  pub hold_slots : (d : DagData) (s q : ℕ) (denied : Bool)
      → ((x : TaskSetData) → R x (after_held x q denied)) → Slots d (after_hold d s q denied)
  hold_slots d s q denied h r k = by (cases_eq r s) (cases_eq k (newest_number d s))
    where
      beside : (r ≡ s → k ≡ newest_number d s → ⊥)
          → Slot R p (set_at d r k) (set_at (after_hold d s q denied) r k)
      beside ne =
          slot_is (set_at d r k) (set_at (after_hold d s q denied) r k)
          (set_unheld d s q denied r k ne)

      by : (r ≡ s) ⊎ (r ≡ s → ⊥) → (k ≡ newest_number d s) ⊎ (k ≡ newest_number d s → ⊥)
          → Slot R p (set_at d r k) (set_at (after_hold d s q denied) r k)
      by (inl e) (inl f) =
          subst (λ (n : ℕ). Slot R p (set_at d n k) (set_at (after_hold d s q denied) n k)) (sym e)
          (subst (λ y. Slot R p (set_at d s k) y) (sym (set_held d s q denied k f))
          (mapped (λ x. after_held x q denied) h (set_at d s k)))
      by (inl e) (inr ne) = beside (λ x y. ne y)
      by (inr ne) f = beside (λ x y. ne x)

  -- ---- stages

  pub submitted_slots : (d after : DagData) (submitted : ℕ → Bool)
      → IsSubmitted d submitted after → Slots d after
  submitted_slots d after submitted sent s k =
      by (set_at d s k) (set_at after s k) (set_submitted d after submitted sent s k)
    where
      fresh : (x : Option TaskSetData) → IsNewSet d s x → Slot R p None x
      fresh x new =
          subst (λ y. Slot R p None y) (sym new.is)
          (new_given d.tracker d.limits (stage_at d s) new.results new.held p)

      by : (o x : Option TaskSetData) → MayStart d s o x → Slot R p o x
      by o x (inl is) = slot_is o x is
      by o x (inr (inl is)) =
          subst (λ y. Slot R p o y) (sym is) (mapped (λ z. as_zombie z) order.stops o)
      by o x (inr (inr (none, new))) = subst (λ y. Slot R p y x) (sym none) (fresh x new)

  completed_slots : (d : DagData) (s : ℕ) → Slots d (with_state d s completed)
  completed_slots d s r k =
      slot_is (set_at d r k) (set_at (with_state d s completed) r k)
      (stage_same d s r completed k (λ state. completed_at state k))

  result_slots_at : (d : DagData) (s q : ℕ) → Slots d (with_state d s (with_result q))
  result_slots_at d s q r k =
      slot_is (set_at d r k) (set_at (with_state d s (with_result q)) r k)
      (stage_same d s r (with_result q) k (λ state. result_at q state k))

  pub completes_slots : (d : DagData) (s : ℕ) (after : DagData) → CompletesMap d s after
      → Slots d after
  completes_slots d s after sent =
      slots_then d (with_state d s completed) after (completed_slots d s)
      (submitted_slots (with_state d s completed) after
      (waiting_stages (with_state d s completed)) sent)

  pub failing_slots : (d : DagData) (s n : ℕ) → Slots d (with_state d s (with_failed n))
  failing_slots d s n r k = by (cases_eq r s) (cases_eq k n)
    where
      beside : (r ≡ s → k ≡ n → ⊥)
          → Slot R p (set_at d r k) (set_at (with_state d s (with_failed n)) r k)
      beside ne =
          slot_is (set_at d r k) (set_at (with_state d s (with_failed n)) r k)
          (set_unfailed d s n r k ne)

      here : Slot R p (set_at d s n) (set_at (with_state d s (with_failed n)) s n)
      here =
          subst (λ y. Slot R p (set_at d s n) y) (sym (set_failed d s n))
          (mapped (λ z. as_zombie z) order.stops (set_at d s n))

      by : (r ≡ s) ⊎ (r ≡ s → ⊥) → (k ≡ n) ⊎ (k ≡ n → ⊥)
          → Slot R p (set_at d r k) (set_at (with_state d s (with_failed n)) r k)
      by (inl e) (inl f) =
          subst (λ (q : ℕ). Slot R p (set_at d q k) (set_at (with_state d s (with_failed n)) q k))
          (sym e)
          (subst (λ (m : ℕ). Slot R p (set_at d s m) (set_at (with_state d s (with_failed n)) s m))
          (sym f) here)
      by (inl e) (inr ne) = beside (λ x y. ne y)
      by (inr ne) f = beside (λ x y. ne x)

  pub fails_slots : (d : DagData) (s n : ℕ) (verdict : Verdict) (after : DagData)
      → FailsStage d s n verdict after → Slots d after
  fails_slots d s n verdicts.Limit after (often, is) =
      subst (λ (x : DagData). Slots d x) (sym is) (failing_slots d s n)
  fails_slots d s n verdicts.Again after (often, sent) =
      slots_then d (with_state d s (with_failed n)) after (failing_slots d s n)
      (submitted_slots (with_state d s (with_failed n)) after (this_stage s) sent)

  -- ---- reports

  pub ended_slots : (d : DagData) (a : AttemptId) → Slots d (ended_in_own d a)
  ended_slots d a =
      own_slots d a (λ set. after_end set a.partition a.nth) (λ x. order.ends x a.partition a.nth)

  pub failed_slots : (d : DagData) (a : AttemptId) (cause : FailureCause)
      → Slots d (after_failed d a cause)
  failed_slots d a cause =
      own_slots d a (λ set. after_failure set a.partition a.nth cause)
      (λ x. order.fails x a.partition a.nth cause)

  pub succeeded_slots : (d : DagData) (a : AttemptId) (now : ℕ)
      → Slots d (succeeded_in_own d a now)
  succeeded_slots d a now =
      own_slots d a (λ set. after_success set a.partition (Some a.nth) now)
      (λ x. order.succeeds x a.partition (Some a.nth) now)

  -- behind its own set the newest one is told too
  pub both_slots : (d : DagData) (a : AttemptId) (now : ℕ)
      → Slots (succeeded_in_own d a now) (succeeded_in_both d a now)
  both_slots d a now = by (is_of_newest d a)
    where
      own : DagData
      own = succeeded_in_own d a now

      by : (b : Bool) → Slots (succeeded_in_own d a now)
          (if b then succeeded_in_own d a now
          else with_state (succeeded_in_own d a now) a.stage
          (changed_newest (λ set. after_success set a.partition None now)))
      by true = slots_same own
      by false =
          newest_slots own a.stage (λ set. after_success set a.partition None now)
          (λ x. order.succeeds x a.partition None now)

  pub map_slots : (d : DagData) (a : AttemptId) (loc : Loc) (epoch now : ℕ)
      → Slots d (after_map_success d a loc epoch now)
  map_slots d a loc epoch now = by (is_repeat d a) (is_bogus d.tracker loc epoch)
    where
      with_it : DagData
      with_it = with_output d a loc

      by : (x y : Bool) → Slots d (if x then ended_in_own d a
          else if y then succeeded_in_own d a now
          else succeeded_in_both (with_output d a loc) a now)
      by true y = ended_slots d a
      by false true = succeeded_slots d a now
      by false false =
          slots_then d (succeeded_in_own with_it a now) (succeeded_in_both with_it a now)
          (succeeded_slots with_it a now) (both_slots with_it a now)

  -- what follows once both sets are told of a result
  pub won_slots : (d : DagData) (s q : ℕ)
      → Slots d (completed_if (with_state d s (with_result q)) s)
  won_slots d s q = by (is_complete (with_state d s (with_result q)) s)
    where
      won : DagData
      won = with_state d s (with_result q)

      by : (b : Bool) → Slots d (if b then with_state won s completed else won)
      by true =
          slots_then d won (with_state won s completed) (result_slots_at d s q)
          (completed_slots won s)
      by false = result_slots_at d s q

  pub result_slots : (d : DagData) (a : AttemptId) (now : ℕ)
      → Slots d (after_result_success d a now)
  result_slots d a now = by (is_repeat d a)
    where
      both : DagData
      both = succeeded_in_both d a now

      by : (b : Bool) → Slots d (if b then ended_in_own d a
          else completed_if (with_state both a.stage (with_result a.partition)) a.stage)
      by true = ended_slots d a
      by false =
          slots_then d both
          (completed_if (with_state both a.stage (with_result a.partition)) a.stage)
          (slots_then d (succeeded_in_own d a now) both (succeeded_slots d a now)
          (both_slots d a now))
          (won_slots both a.stage a.partition)
