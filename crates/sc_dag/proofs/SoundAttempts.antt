-- What a change of attempts keeps of their stage.
use Rattle.std.proofs.Common.{◌≡◌, ◌⊎◌, inl, inr, ℕ, zero, suc, ◌-◌, ◌<◌, Bool, true, List, [], ◌∷◌, All, length, map, take, Option, Some, None, option_map, slice_get, refl, ap, sym, subst, ◌∙◌, rules}
use Rattle.std.proofs.lemmas.Bool.{cases_eq}
use Rattle.std.proofs.lemmas.List.{length-map}
use Rattle.std.proofs.lemmas.List.Elements.{All-map, All-weaker}
use Rattle.sc_ids.specs.Changes.{change_at}
use Rattle.sc_ids.specs.Graphs.{StageData}
use Rattle.sc_ids.proofs.ChangeLemmas.{length_change_at, slice_get_change_other, slice_get_change_same}
use Rattle.sc_taskset.specs.TaskSetData.{TaskSetData}
use Rattle.sc_tracker.specs.TrackerData.{TrackerData}
use Rattle.sc_dag.specs.DagData.{StageState, newest_set, set_in, stage_attempt, with_attempts, with_set}
use Rattle.sc_dag.specs.Sound.{AreHeldBy, IsAttemptOf, IsSetOf}
use Rattle.sc_dag.specs.declared.attempts.StageAttempt.{StageAttempt}
use Rattle.sc_dag.proofs.Holding.{KeepsHeld}
use Rattle.sc_dag.proofs.Items.{all_changed, all_unmapped, take_change, take_map}
use Rattle.sc_dag.proofs.Sets.{KeepsSet, SameFinish}
use Rattle.sc_dag.proofs.SoundStages.{AreAttempts, AreFlags, IsNewest, IsSoundState}

-- a set that keeps what holds is one of its stage
pub set_kept :
    (stage : StageData) (set after : TaskSetData) → KeepsSet set after → IsSetOf stage set
    → IsSetOf stage after
set_kept stage set after keeps is =
    record {
      sound = keeps.sound is.sound;
      kind = keeps.kind ∙ is.kind;
      within = all_unmapped (λ p. p < stage.tasks) (λ t. t.partition) after.tasks
          (subst (All (λ p. p < stage.tasks)) (sym keeps.partitions)
          (All-map (λ p. p < stage.tasks) (λ t. t.partition) set.tasks is.within));
    }

-- an attempt with such a set
pub attempt_kept :
    (stage : StageData) (a : StageAttempt) (set : TaskSetData) → KeepsSet a.set set
    → IsAttemptOf stage a → IsAttemptOf stage (stage_attempt set a.has_failed)
attempt_kept stage a set keeps is =
    record {
      set = set_kept stage a.set set keeps is.set;
      failed = λ e. keeps.dead (is.failed e);
    }

-- what a change of an attempt keeps
pub record KeepsAttempt (stage : StageData) (a after : StageAttempt) : Type 0 where
  pub is : IsAttemptOf stage a → IsAttemptOf stage after
  pub dead : a.set.is_zombie ≡ true → after.set.is_zombie ≡ true

pub keeps_with :
    (stage : StageData) (a : StageAttempt) (g : TaskSetData → TaskSetData)
    → KeepsSet a.set (g a.set) → KeepsAttempt stage a (with_set g a)
keeps_with stage a g keeps =
    record { is = attempt_kept stage a (g a.set) keeps; dead = keeps.dead }

-- one attempt changed
pub attempts_changed :
    (stage : StageData) (attempts : List StageAttempt) (i : ℕ) (h : StageAttempt → StageAttempt)
    → ((a : StageAttempt) → slice_get attempts i ≡ Some a → KeepsAttempt stage a (h a))
    → AreAttempts stage attempts → AreAttempts stage (change_at attempts i h)
attempts_changed stage attempts i h keeps are =
    record {
      each = all_changed (IsAttemptOf stage) attempts i h (λ a at is. (keeps a at).is is) are.each;
      older = rw (length_change_at attempts i h, take_change (length attempts - 1) attempts i h)
          (all_changed (λ a. a.set.is_zombie ≡ true) (take (length attempts - 1) attempts) i h
          (λ a at z. (keeps a (taken (length attempts - 1) attempts i a at)).dead z) are.older);
    }
  where
    taken : (n : ℕ) (xs : List StageAttempt) (j : ℕ) (a : StageAttempt)
        → slice_get (take n xs) j ≡ Some a → slice_get xs j ≡ Some a
    taken zero xs j a e = absurd (search (rules, e))
    taken (suc n) [] j a e = e
    taken (suc n) (x ∷ xs) zero a e = e
    taken (suc n) (x ∷ xs) (suc j) a e = taken n xs j a e

-- all attempts changed
pub attempts_mapped :
    (stage : StageData) (attempts : List StageAttempt) (h : StageAttempt → StageAttempt)
    → ((a : StageAttempt) → KeepsAttempt stage a (h a))
    → AreAttempts stage attempts → AreAttempts stage (map h attempts)
attempts_mapped stage attempts h keeps are =
    record {
      each = All-map (IsAttemptOf stage) h attempts
          (All-weaker (IsAttemptOf stage) (λ a. IsAttemptOf stage (h a)) (λ a is. (keeps a).is is)
          attempts are.each);
      older = rw (length-map attempts h, take_map (length attempts - 1) attempts h)
          (All-map (λ a. a.set.is_zombie ≡ true) h (take (length attempts - 1) attempts)
          (All-weaker (λ a. a.set.is_zombie ≡ true) (λ a. (h a).set.is_zombie ≡ true)
          (λ a z. (keeps a).dead z) (take (length attempts - 1) attempts) are.older));
    }

-- ---- the newest set

-- the newest attempt changed
pub newest_changed :
    (attempts : List StageAttempt) (i : ℕ) (h : StageAttempt → StageAttempt)
    → i ≡ length attempts - 1
    → slice_get (change_at attempts i h) (length (change_at attempts i h) - 1)
    ≡ option_map h (slice_get attempts (length attempts - 1))
newest_changed attempts i h is =
    rw (length_change_at attempts i h)
    (subst (λ n. slice_get (change_at attempts i h) n ≡ option_map h (slice_get attempts n)) is
    (slice_get_change_same attempts i h))

-- another one
pub newest_kept :
    (attempts : List StageAttempt) (i : ℕ) (h : StageAttempt → StageAttempt)
    → (i ≡ length attempts - 1 → ⊥)
    → slice_get (change_at attempts i h) (length (change_at attempts i h) - 1)
    ≡ slice_get attempts (length attempts - 1)
newest_kept attempts i h ne =
    rw (length_change_at attempts i h)
    (slice_get_change_other attempts i (length attempts - 1) h (λ e. ne (sym e)))

-- a newest set that is finished where another one is
pub newest_same :
    (t : TrackerData) (stage : StageData) (results : List Bool) (set after : TaskSetData)
    → SameFinish set after → IsNewest t stage results (Some set)
    → IsNewest t stage results (Some after)
newest_same t stage results set after same is =
    record {
      made = λ p exec shuffle target h. is.made p exec shuffle target (sym (same.finish p) ∙ h);
      wanted = λ p h. is.wanted p (sym (same.wants p) ∙ h);
      covered = λ p kind lt ne h.
          is.covered p kind lt (λ e. absurd (search (rules, e))) (sym (same.wants p) ∙ h);
    }

-- what a change of an attempt keeps where it finishes no task
pub record IsQuiet (stage : StageData) (a after : StageAttempt) : Type 0 where
  pub keeps : KeepsAttempt stage a after
  pub same : SameFinish a.set after.set

-- the newest set of a stage with one attempt changed, which is finished where it was
pub newest_quiet :
    (t : TrackerData) (stage : StageData) (state : StageState) (i : ℕ)
    (h : StageAttempt → StageAttempt)
    → ((a : StageAttempt) → slice_get state.attempts i ≡ Some a → IsQuiet stage a (h a))
    → IsNewest t stage state.results (newest_set state)
    → IsNewest t stage state.results
    (newest_set (with_attempts state (change_at state.attempts i h)))
newest_quiet t stage state i h quiet is = by (cases_eq i (length state.attempts - 1))
  where
    mapped : (o : Option StageAttempt) → slice_get state.attempts (length state.attempts - 1) ≡ o
        → i ≡ length state.attempts - 1 → IsNewest t stage state.results (set_in o)
        → IsNewest t stage state.results (set_in (option_map h o))
    mapped None e at n = n
    mapped (Some a) e at n =
        newest_same t stage state.results a.set (h a).set
        (quiet a (ap (slice_get state.attempts) at ∙ e)).same n

    by : (i ≡ length state.attempts - 1) ⊎ (i ≡ length state.attempts - 1 → ⊥)
        → IsNewest t stage state.results
        (newest_set (with_attempts state (change_at state.attempts i h)))
    by (inl e) =
        rw (newest_changed state.attempts i h e)
        (mapped (slice_get state.attempts (length state.attempts - 1)) refl e is)
    by (inr ne) = rw (newest_kept state.attempts i h ne) is

-- a stage with one attempt changed, its tasks held back as they were
pub flags_quiet :
    (stage : StageData) (state : StageState) (i : ℕ) (h : StageAttempt → StageAttempt)
    → ((a : StageAttempt) → KeepsHeld a.set (h a).set)
    → AreFlags stage state.held (newest_set state)
    → AreFlags stage state.held
    (newest_set (with_attempts state (change_at state.attempts i h)))
flags_quiet stage state i h holds is =
    record { many = is.many; held = by (cases_eq i (length state.attempts - 1)) }
  where
    mapped : (o : Option StageAttempt) → AreHeldBy state.held (set_in o)
        → AreHeldBy state.held (set_in (option_map h o))
    mapped None held = held
    mapped (Some a) held = holds a state.held held

    by : (i ≡ length state.attempts - 1) ⊎ (i ≡ length state.attempts - 1 → ⊥)
        → AreHeldBy state.held
        (newest_set (with_attempts state (change_at state.attempts i h)))
    by (inl e) =
        rw (newest_changed state.attempts i h e)
        (mapped (slice_get state.attempts (length state.attempts - 1)) is.held)
    by (inr ne) = rw (newest_kept state.attempts i h ne) is.held

-- a stage with one attempt changed, and finished and held back where it was
pub state_quiet :
    (t : TrackerData) (stage : StageData) (state : StageState) (i : ℕ)
    (h : StageAttempt → StageAttempt)
    → ((a : StageAttempt) → slice_get state.attempts i ≡ Some a → IsQuiet stage a (h a))
    → ((a : StageAttempt) → KeepsHeld a.set (h a).set)
    → IsSoundState t stage state
    → IsSoundState t stage (with_attempts state (change_at state.attempts i h))
state_quiet t stage state i h quiet holds is =
    record {
      results = is.results;
      flags = flags_quiet stage state i h holds is.flags;
      attempts = attempts_changed stage state.attempts i h (λ a at. (quiet a at).keeps)
          is.attempts;
      newest = newest_quiet t stage state i h quiet is.newest;
    }
