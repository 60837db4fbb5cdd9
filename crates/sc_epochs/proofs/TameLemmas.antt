-- What changes of task sets leave of when they began, and of what they want.
use Rattle.std.proofs.Common.{◌≡◌, ◌⊎◌, inl, inr, ℕ, ◌-◌, Bool, true, false, length, map, Option, Some, None, option_map, slice_get, refl, ap, sym, subst, ◌∙◌}
use Rattle.std.proofs.lemmas.Bool.{cases_eq}
use Rattle.sc_ids.specs.Changes.{change_at}
use Rattle.sc_ids.specs.declared.failures.FailureCause.{FailureCause}
use Rattle.sc_taskset.specs.Offers.{handed}
use Rattle.sc_taskset.specs.Reports.{after_end, after_failure, after_held, after_loss, after_success, as_zombie}
use Rattle.sc_taskset.specs.TaskSetData.{TaskSetData}
use Rattle.sc_dag.specs.Births.{births_of}
use Rattle.sc_dag.specs.DagData.{StageState, newest_set, set_in, with_attempts}
use Rattle.sc_dag.specs.Reports.{wants_in}
use Rattle.sc_dag.specs.declared.attempts.StageAttempt.{StageAttempt}
use Rattle.sc_dag.proofs.Births.{births_changed, births_mapped}
use Rattle.sc_dag.proofs.Finishes.{success_other}
use Rattle.sc_dag.proofs.Keeping.{newest_mapped}
use Rattle.sc_dag.proofs.Sets.{SameFinish, same_end, same_failure, same_handed, same_hold, same_zombie}
use Rattle.sc_dag.proofs.SoundAttempts.{newest_changed, newest_kept}

-- ---- task sets

-- A task set after a change: it began when it did, hands out nothing again, and wants what it
-- wanted, but for some partitions.
pub record Tames (E : ℕ → Type 0) (set after : TaskSetData) : Type 0 where
  pub born : after.born ≡ set.born
  pub dead : set.is_zombie ≡ true → after.is_zombie ≡ true
  pub wants : (p : ℕ) → wants_in (Some after) p ≡ false
      → (wants_in (Some set) p ≡ false) ⊎ E p

pub tames_same : (E : ℕ → Type 0) (set : TaskSetData) → Tames E set set
tames_same E set = record { born = refl; dead = λ z. z; wants = λ p w. inl w }

pub tames_then : (E : ℕ → Type 0) (a b c : TaskSetData) → Tames E a b → Tames E b c
    → Tames E a c
tames_then E a b c h k =
    record {
      born = k.born ∙ h.born;
      dead = λ z. k.dead (h.dead z);
      wants = λ p w. by p (k.wants p w);
    }
  where
    by : (p : ℕ) → (wants_in (Some b) p ≡ false) ⊎ E p → (wants_in (Some a) p ≡ false) ⊎ E p
    by p (inl w) = h.wants p w
    by p (inr e) = inr e

-- no task is finished by it
finished_so : (E : ℕ → Type 0) (set after : TaskSetData) → after.born ≡ set.born
    → (set.is_zombie ≡ true → after.is_zombie ≡ true) → SameFinish set after → Tames E set after
finished_so E set after born dead same =
    record { born = born; dead = dead; wants = λ p w. inl (sym (same.wants p) ∙ w) }

pub tames_handed : (E : ℕ → Type 0) (p exec now : ℕ) (set : TaskSetData)
    → Tames E set (handed set p exec now)
tames_handed E p exec now set =
    finished_so E set (handed set p exec now) refl (λ z. z) (same_handed set p exec now)

pub tames_end : (E : ℕ → Type 0) (p nth : ℕ) (set : TaskSetData)
    → Tames E set (after_end set p nth)
tames_end E p nth set =
    finished_so E set (after_end set p nth) refl (λ z. z) (same_end set p nth)

pub tames_failure : (E : ℕ → Type 0) (p nth : ℕ) (cause : FailureCause) (set : TaskSetData)
    → Tames E set (after_failure set p nth cause)
tames_failure E p nth cause set =
    finished_so E set (after_failure set p nth cause) refl (λ z. z) (same_failure set p nth cause)

pub tames_hold : (E : ℕ → Type 0) (p : ℕ) (denied : Bool) (set : TaskSetData)
    → Tames E set (after_held set p denied)
tames_hold E p denied set =
    finished_so E set (after_held set p denied) refl (λ z. z) (same_hold set p denied)

pub tames_zombie : (E : ℕ → Type 0) (set : TaskSetData) → Tames E set (as_zombie set)
tames_zombie E set = finished_so E set (as_zombie set) refl (λ z. refl) (same_zombie set)

-- a success finishes its partition
pub tames_success : (E : ℕ → Type 0) (q : ℕ) (nth : Option ℕ) (now : ℕ) → E q
    → (set : TaskSetData) → Tames E set (after_success set q nth now)
tames_success E q nth now own set =
    record { born = refl; dead = λ z. rw z refl; wants = λ p w. by p w (cases_eq q p) }
  where
    by : (p : ℕ) → wants_in (Some (after_success set q nth now)) p ≡ false
        → (q ≡ p) ⊎ (q ≡ p → ⊥) → (wants_in (Some set) p ≡ false) ⊎ E p
    by p w (inl is) = inr (subst E is own)
    by p w (inr ne) = inl (sym (success_other set q p nth now ne).1 ∙ w)

-- a loss may leave anything of what is wanted
pub tames_loss : (E : ℕ → Type 0) → ((p : ℕ) → E p) → (exec : ℕ) (set : TaskSetData)
    → Tames E set (after_loss set exec)
tames_loss E all exec set =
    record { born = refl; dead = λ z. z; wants = λ p w. inr (all p) }

-- ---- stages

-- the newest task set of a stage, which may be there
abbrev pub TamesIn : (ℕ → Type 0) → Option TaskSetData → Option TaskSetData → Type 0
TamesIn E None None = Unit {0}
TamesIn E None (Some after) = ⊥
TamesIn E (Some set) None = ⊥
TamesIn E (Some set) (Some after) = Tames E set after

-- a stage after a change: it has its attempts still and no more, and its newest task set is so
pub record TamesState (E : ℕ → Type 0) (state after : StageState) : Type 0 where
  pub births : births_of after.attempts ≡ births_of state.attempts
  pub waits : after.waits ≡ true → state.waits ≡ true
  pub newest : TamesIn E (newest_set state) (newest_set after)

in_same : (E : ℕ → Type 0) (o : Option TaskSetData) → TamesIn E o o
in_same E None = tt
in_same E (Some set) = tames_same E set

in_then : (E : ℕ → Type 0) (a b c : Option TaskSetData) → TamesIn E a b → TamesIn E b c
    → TamesIn E a c
in_then E None None c h k = k
in_then E None (Some y) c h k = absurd h
in_then E (Some x) None c h k = absurd h
in_then E (Some x) (Some y) None h k = absurd k
in_then E (Some x) (Some y) (Some z) h k = tames_then E x y z h k

pub state_same : (E : ℕ → Type 0) (state : StageState) → TamesState E state state
state_same E state =
    record { births = refl; waits = λ w. w; newest = in_same E (newest_set state) }

pub state_then : (E : ℕ → Type 0) (a b c : StageState) → TamesState E a b → TamesState E b c
    → TamesState E a c
state_then E a b c h k =
    record {
      births = k.births ∙ h.births;
      waits = λ w. h.waits (k.waits w);
      newest = in_then E (newest_set a) (newest_set b) (newest_set c) h.newest k.newest;
    }

-- the set of an attempt that may be there, after a change
changed_in : (E : ℕ → Type 0) (h : StageAttempt → StageAttempt)
    → ((x : StageAttempt) → Tames E x.set (h x).set) → (o : Option StageAttempt)
    → TamesIn E (set_in o) (set_in (option_map h o))
changed_in E h each None = tt
changed_in E h each (Some x) = each x

-- one attempt changed
pub state_changed : (E : ℕ → Type 0) (state : StageState) (i : ℕ)
    (h : StageAttempt → StageAttempt) → ((x : StageAttempt) → Tames E x.set (h x).set)
    → TamesState E state (with_attempts state (change_at state.attempts i h))
state_changed E state i h each =
    record {
      births = births_changed state.attempts i h (λ x. (each x).born);
      waits = λ w. w;
      newest = by (cases_eq i (length state.attempts - 1));
    }
  where
    last : Option StageAttempt
    last = slice_get state.attempts (length state.attempts - 1)

    by : (i ≡ length state.attempts - 1) ⊎ (i ≡ length state.attempts - 1 → ⊥)
        → TamesIn E (newest_set state)
        (newest_set (with_attempts state (change_at state.attempts i h)))
    by (inl is) =
        subst (λ o. TamesIn E (newest_set state) (set_in o))
        (sym (newest_changed state.attempts i h is)) (changed_in E h each last)
    by (inr ne) =
        subst (λ o. TamesIn E (newest_set state) (set_in o))
        (sym (newest_kept state.attempts i h ne)) (in_same E (set_in last))

-- one changed that isn't the newest
pub state_older : (E : ℕ → Type 0) (state : StageState) (i : ℕ)
    (h : StageAttempt → StageAttempt) → (i ≡ length state.attempts - 1 → ⊥)
    → ((x : StageAttempt) → (h x).set.born ≡ x.set.born)
    → TamesState E state (with_attempts state (change_at state.attempts i h))
state_older E state i h ne born =
    record {
      births = births_changed state.attempts i h born;
      waits = λ w. w;
      newest = subst (λ o. TamesIn E (newest_set state) (set_in o))
          (sym (newest_kept state.attempts i h ne)) (in_same E (newest_set state));
    }

-- all attempts changed
pub state_mapped : (E : ℕ → Type 0) (state after : StageState) (h : StageAttempt → StageAttempt)
    → ((x : StageAttempt) → Tames E x.set (h x).set) → after.attempts ≡ map h state.attempts
    → (after.waits ≡ true → state.waits ≡ true) → TamesState E state after
state_mapped E state after h each is waits =
    record {
      births = ap births_of is ∙ births_mapped state.attempts h (λ x. (each x).born);
      waits = waits;
      newest = subst
          (λ xs. TamesIn E (newest_set state) (set_in (slice_get xs (length xs - 1)))) (sym is)
          (subst (λ o. TamesIn E (newest_set state) (set_in o))
          (sym (newest_mapped state.attempts h))
          (changed_in E h each (slice_get state.attempts (length state.attempts - 1))));
    }
