-- Calls that finish no task keep what holds of every job.
use Rattle.std.proofs.Common.{◌≡◌, ℕ, zero, suc, ◌-◌, Bool, true, List, [], ◌∷◌, length, map, Option, Some, None, option_map, slice_get, refl, ap, sym, ◌∙◌, true≢false, IfSome, ◌<◌}
use Rattle.std.proofs.lemmas.List.{length-map}
use Rattle.sc_ids.specs.Changes.{change_at}
use Rattle.sc_ids.specs.Graphs.{StageData}
use Rattle.sc_ids.specs.declared.attempts.AttemptId.{AttemptId}
use Rattle.sc_ids.specs.declared.failures.FailureCause.{FailureCause}
use Rattle.sc_ids.proofs.ChangeLemmas.{length_change_at}
use Rattle.sc_taskset.specs.Offers.{handed, may_be_given}
use Rattle.sc_taskset.specs.Reports.{after_end, after_failure, after_held, as_zombie}
use Rattle.sc_taskset.specs.TaskSetData.{TaskSetData}
use Rattle.sc_dag.specs.DagData.{DagData, StageState, newest_at, place_of_attempt, set_in, stage_at, with_set, with_state}
use Rattle.sc_dag.specs.Offers.{handed_out, may_be_given_in}
use Rattle.sc_dag.specs.Reports.{after_failed, after_hold, completed, ended_in_own, failed_attempt, forgiven, told_held, with_failed}
use Rattle.sc_dag.specs.Sound.{AreHeldBy, IsAttemptOf, IsSetOf, IsSoundDag}
use Rattle.sc_dag.specs.declared.attempts.StageAttempt.{StageAttempt}
use Rattle.sc_dag.proofs.Births.{births_changed, births_mapped}
use Rattle.sc_dag.proofs.Holding.{holds_end, holds_failure, holds_handed, holds_zombie, told_flags}
use Rattle.sc_dag.proofs.Items.{all_at}
use Rattle.sc_dag.proofs.Moving.{newest_among}
use Rattle.sc_dag.proofs.Sets.{KeepsSet, SameFinish, keeps_end, keeps_failure, keeps_handed, keeps_hold, keeps_zombie, same_end, same_failure, same_handed, same_hold, same_zombie}
use Rattle.sc_dag.proofs.SoundAttempts.{IsQuiet, attempts_changed, attempts_mapped, keeps_with, newest_changed, newest_quiet, set_kept, state_quiet}
use Rattle.sc_dag.proofs.SoundStages.{IsNewest, IsSoundState, sound_with}
use Rattle.sc_dag.proofs.Charging.{charged_failed, charged_forgiven, charged_newest, charged_own, spares_end, spares_failure, spares_handed, spares_hold}
use Rattle.sc_dag.proofs.Charges.{IsGivenUp}

-- a change of a set that finishes no task
pub quiet :
    (stage : StageData) (a : StageAttempt) (g : TaskSetData → TaskSetData)
    → KeepsSet a.set (g a.set) → SameFinish a.set (g a.set) → IsQuiet stage a (with_set g a)
quiet stage a g keeps same = record { keeps = keeps_with stage a g keeps; same = same }

pub handed_sound :
    (d : DagData) (a : AttemptId) (exec now : ℕ) → IsSoundDag d
    → may_be_given_in (newest_at d a.stage) exec now a.partition ≡ true
    → IsSoundDag (handed_out d a exec now)
handed_sound d a exec now sound may =
    sound_with d a.stage _ (λ state. births_changed state.attempts (length state.attempts - 1)
    (with_set (λ set. handed set a.partition exec now)) (λ x. refl))
    (λ state are at. charged_newest d.tracker.epoch (λ set. handed set a.partition exec now)
    (spares_handed a.partition exec now) state are) sound (λ state at is.
    state_quiet d.tracker (stage_at d a.stage) state (length state.attempts - 1)
    (with_set (λ set. handed set a.partition exec now))
    (λ x newest. quiet (stage_at d a.stage) x (λ set. handed set a.partition exec now)
    (keeps_handed x.set a.partition exec now (given state x at newest))
    (same_handed x.set a.partition exec now))
    (λ x. holds_handed x.set a.partition exec now) is)
  where
    given : (state : StageState) (x : StageAttempt) → slice_get d.states a.stage ≡ Some state
        → slice_get state.attempts (length state.attempts - 1) ≡ Some x
        → may_be_given x.set exec now a.partition ≡ true
    given state x at newest =
        sym (ap (λ o. may_be_given_in o exec now a.partition)
        (ap newest_among at ∙ ap set_in newest)) ∙ may

pub ended_sound : (d : DagData) (a : AttemptId) → IsSoundDag d → IsSoundDag (ended_in_own d a)
ended_sound d a sound =
    sound_with d a.stage _
    (λ state. births_changed state.attempts (place_of_attempt state a.stage_attempt)
    (with_set (λ set. after_end set a.partition a.nth)) (λ x. refl))
    (λ state are at. charged_own d.tracker.epoch a.stage_attempt
    (λ set. after_end set a.partition a.nth) (spares_end a.partition a.nth) state are) sound
    (λ state at is.
    state_quiet d.tracker (stage_at d a.stage) state (place_of_attempt state a.stage_attempt)
    (with_set (λ set. after_end set a.partition a.nth))
    (λ x there. quiet (stage_at d a.stage) x (λ set. after_end set a.partition a.nth)
    (keeps_end x.set a.partition a.nth) (same_end x.set a.partition a.nth))
    (λ x. holds_end x.set a.partition a.nth) is)

pub failed_sound :
    (d : DagData) (a : AttemptId) (cause : FailureCause) → IsSoundDag d
    → IsSoundDag (after_failed d a cause)
failed_sound d a cause sound =
    sound_with d a.stage _
    (λ state. births_changed state.attempts (place_of_attempt state a.stage_attempt)
    (with_set (λ set. after_failure set a.partition a.nth cause)) (λ x. refl))
    (λ state are at. charged_own d.tracker.epoch a.stage_attempt
    (λ set. after_failure set a.partition a.nth cause)
    (spares_failure a.partition a.nth cause) state are) sound
    (λ state at is.
    state_quiet d.tracker (stage_at d a.stage) state (place_of_attempt state a.stage_attempt)
    (with_set (λ set. after_failure set a.partition a.nth cause))
    (λ x there. quiet (stage_at d a.stage) x (λ set. after_failure set a.partition a.nth cause)
    (keeps_failure x.set a.partition a.nth cause) (same_failure x.set a.partition a.nth cause))
    (λ x. holds_failure x.set a.partition a.nth cause) is)

-- what is told of a partition, its stage keeps and its newest set is told
pub hold_sound :
    (d : DagData) (s p : ℕ) (denied : Bool) → IsSoundDag d → IsSoundDag (after_hold d s p denied)
hold_sound d s p denied sound =
    sound_with d s (told_held p denied)
    (λ state. births_changed state.attempts (length state.attempts - 1) (with_set tell)
    (λ x. refl))
    (λ state are at. charged_newest d.tracker.epoch tell (spares_hold p denied) state are) sound
    (λ state at is. record {
      results = is.results;
      flags = record {
        many = length_change_at state.held p (λ _. denied) ∙ is.flags.many;
        held = rw (newest_changed state.attempts (length state.attempts - 1) (with_set tell) refl)
            (told state is (slice_get state.attempts (length state.attempts - 1)) refl
            is.flags.held);
      };
      attempts = attempts_changed (stage_at d s) state.attempts (length state.attempts - 1)
          (with_set tell) (λ x there. (quiet_told x).keeps) is.attempts;
      newest = newest_quiet d.tracker (stage_at d s) state (length state.attempts - 1)
          (with_set tell) (λ x there. quiet_told x) is.newest;
    })
  where
    tell : TaskSetData → TaskSetData
    tell set = after_held set p denied

    quiet_told : (x : StageAttempt) → IsQuiet (stage_at d s) x (with_set tell x)
    quiet_told x =
        quiet (stage_at d s) x tell (keeps_hold x.set p denied) (same_hold x.set p denied)

    told : (state : StageState) → IsSoundState d.tracker (stage_at d s) state
        → (o : Option StageAttempt) → slice_get state.attempts (length state.attempts - 1) ≡ o
        → AreHeldBy state.held (set_in o)
        → AreHeldBy (change_at state.held p (λ _. denied))
        (set_in (option_map (with_set tell) o))
    told state is None e held = held
    told state is (Some x) e held =
        let of : IsSetOf (stage_at d s) x.set =
        (all_at (IsAttemptOf (stage_at d s)) state.attempts (length state.attempts - 1) x
        is.attempts.each e).set in
        told_flags x.set state.held p denied of.sound.rising
        (rw (is.flags.many) of.within) held

-- a stage attempt that failed
pub with_failed_sound :
    (d : DagData) (s number : ℕ) → IsSoundDag d
    → ((state : StageState) → slice_get d.states s ≡ Some state
    → (place_of_attempt state number ≡ length state.attempts - 1)
    × IfSome (slice_get state.attempts (length state.attempts - 1))
    (λ a. a.set.born < d.tracker.epoch))
    → IsSoundDag (with_state d s (with_failed number))
with_failed_sound d s number sound may =
    sound_with d s (with_failed number)
    (λ state. births_changed state.attempts (place_of_attempt state number) failed_attempt
    (λ x. refl))
    (λ state are at. charged_failed d.tracker.epoch number state (may state at).0 (may state at).1
    are) sound (λ state at is.
    state_quiet d.tracker (stage_at d s) state (place_of_attempt state number) failed_attempt
    (λ x there. record {
      keeps = record {
        is = λ was. record {
          set = set_kept (stage_at d s) x.set (as_zombie x.set) (keeps_zombie x.set) was.set;
          failed = λ e. refl;
        };
        dead = λ z. refl;
      };
      same = same_zombie x.set;
    }) (λ x. holds_zombie x.set) is)

-- the newest set where all attempts were changed
pub newest_mapped :
    (attempts : List StageAttempt) (h : StageAttempt → StageAttempt)
    → slice_get (map h attempts) (length (map h attempts) - 1)
    ≡ option_map h (slice_get attempts (length attempts - 1))
newest_mapped attempts h =
    rw (length-map attempts h) (each attempts (length attempts - 1))
  where
    each : (xs : List StageAttempt) (i : ℕ)
        → slice_get (map h xs) i ≡ option_map h (slice_get xs i)
    each [] i = refl
    each (x ∷ xs) zero = refl
    each (x ∷ xs) (suc i) = each xs i

-- a stage that is complete
pub completed_sound :
    (d : DagData) (s : ℕ) → IsSoundDag d → IsSoundDag (with_state d s completed)
completed_sound d s sound =
    sound_with d s completed
    (λ state. births_mapped state.attempts forgiven (λ x. refl))
    (λ state are at. charged_forgiven d.tracker.epoch state.attempts are
    (rw (newest_mapped state.attempts forgiven)
    (given_up (slice_get state.attempts (length state.attempts - 1)) are.given_up))) sound
    (λ state at is. record {
      results = is.results;
      flags = record {
        many = is.flags.many;
        held = rw (newest_mapped state.attempts forgiven)
            (held state (slice_get state.attempts (length state.attempts - 1)) is.flags.held);
      };
      attempts = attempts_mapped (stage_at d s) state.attempts forgiven
          (λ x. record {
            is = λ was. record { set = was.set; failed = λ e. absurd (true≢false (sym e)) };
            dead = λ z. z;
          }) is.attempts;
      newest = rw (newest_mapped state.attempts forgiven)
          (same state (slice_get state.attempts (length state.attempts - 1)) is.newest);
    })
  where
    given_up : (o : Option StageAttempt) → IfSome o (IsGivenUp d.tracker.epoch)
        → IfSome (option_map forgiven o) (IsGivenUp d.tracker.epoch)
    given_up None h = tt
    given_up (Some x) h = h

    same : (state : StageState) (o : Option StageAttempt)
        → IsNewest d.tracker (stage_at d s) state.results (set_in o)
        → IsNewest d.tracker (stage_at d s) state.results (set_in (option_map forgiven o))
    same state None is = is
    same state (Some x) is = is

    held : (state : StageState) (o : Option StageAttempt) → AreHeldBy state.held (set_in o)
        → AreHeldBy state.held (set_in (option_map forgiven o))
    held state None is = is
    held state (Some x) is = is
