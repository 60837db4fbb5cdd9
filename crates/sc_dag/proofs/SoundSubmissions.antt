-- A submission keeps what holds of every job.
use Rattle.std.proofs.Common.{◌≡◌, ◌⊎◌, inl, inr, ℕ, zero, suc, ◌+◌, ◌-◌, ◌<◌, ◌≤◌, ◌==◌, ◌||◌, ◌&&◌, not, Bool, true, false, cond, if◌then◌else◌, List, [], ◌∷◌, ◌++◌, All, filter, length, take, Option, Some, None, option_map, slice_get, refl, ap, sym, subst, ◌∙◌, arith, rules, true≢false}
use Rattle.std.proofs.lemmas.Bool.{or_right}
use Rattle.std.specs.List.{list_all}
use Rattle.std.proofs.lemmas.Bool.Decides.{nat_tests}
use Rattle.std.proofs.lemmas.List.Elements.{All-cons, All-head, All-map, All-nil, All-push, All-tail, All-weaker, filter_passes}
use Rattle.std.proofs.lemmas.List.Kept.{AllPairs-filter}
use Rattle.sc_base.specs.Lists.{at_or, numbers_below, numbers_from}
use Rattle.sc_ids.specs.Changes.{change_at}
use Rattle.sc_ids.specs.Graphs.{StageData}
use Rattle.sc_ids.specs.declared.limits.Limits.{Limits}
use Rattle.sc_taskset.specs.Reports.{as_zombie}
use Rattle.sc_taskset.specs.TaskSetData.{TaskSetData, fresh_set}
use Rattle.sc_taskset.proofs.RoomLemmas.{held_fresh}
use Rattle.sc_tracker.specs.TrackerData.{TrackerData}
use Rattle.sc_dag.specs.DagData.{DagData, StageState, stage_at, stage_attempt, with_set}
use Rattle.sc_dag.specs.Outputs.{has_inputs, is_complete_by, is_done_by, missing_by, results_in}
use Rattle.sc_dag.specs.Births.{births_of, AreCharged}
use Rattle.sc_dag.specs.Sound.{AreHeldBy, IsAttemptOf, IsSetOf, IsSoundDag, attempts_in, attempts_of}
use Rattle.sc_dag.specs.Submission.{AreLookedAt, IsSubmitted, as_waiting, is_map, moved_if, new_set, started}
use Rattle.sc_dag.specs.declared.attempts.StageAttempt.{StageAttempt}
use Rattle.sc_dag.proofs.Births.{births_changed, births_in, births_moved, births_pushed}
use Rattle.sc_dag.proofs.FreshSets.{flagged, flagged_sound, fresh_finish, fresh_wants, fresh_within, numbers_rise}
use Rattle.sc_dag.proofs.Items.{by_number_length, take_push}
use Rattle.sc_dag.proofs.Looking.{looked_lacks}
use Rattle.sc_dag.proofs.Moving.{after_looking, newest_started, state_after}
use Rattle.sc_dag.proofs.Sets.{keeps_zombie}
use Rattle.sc_dag.proofs.SoundAttempts.{attempts_changed, keeps_with}
use Rattle.sc_dag.proofs.SoundStages.{IsNewest, IsSoundAt, IsSoundState, sound_at, sound_from, sound_mapped}
use Rattle.sc_dag.proofs.Tests.{all_in, any_below, clash, is_in, not_true}
use Rattle.sc_dag.proofs.Charging.{charged_started}

-- ---- numbers, and those of them that pass

pub numbers_within :
    (first count : ℕ) → All (λ q. q < first + count) (numbers_from first count)
numbers_within first zero = All-nil (λ q. q < first + zero)
numbers_within first (suc count) =
    All-cons (λ q. q < first + suc count) first (numbers_from (suc first) count) (omega arith)
    (All-weaker (λ q. q < suc first + count) (λ q. q < first + suc count)
    (λ q h. omega (arith, h)) (numbers_from (suc first) count)
    (numbers_within (suc first) count))

-- some are left where not all pass
filter_some :
    (p : ℕ → Bool) (xs : List ℕ) → list_all p xs ≡ false
    → 0 < length (filter (λ x. not (p x)) xs)
filter_some p [] e = absurd (true≢false e)
filter_some p (x ∷ xs) e = by (p x) e (λ h. filter_some p xs h)
  where
    by : (b : Bool) → (b && list_all p xs) ≡ false
        → (list_all p xs ≡ false → 0 < length (filter (λ y. not (p y)) xs))
        → 0 < length (cond (not b) (x ∷ filter (λ y. not (p y)) xs) (filter (λ y. not (p y)) xs))
    by true h f = f h
    by false h f = omega arith

-- a number that passes is left
in_filter :
    (f : ℕ → Bool) (xs : List ℕ) (p : ℕ) → is_in xs p ≡ true → f p ≡ true
    → is_in (filter f xs) p ≡ true
in_filter f [] p e passes = e
in_filter f (x ∷ xs) p e passes =
    by (f x) refl (x == p) refl e (λ h. in_filter f xs p h passes)
  where
    by : (a : Bool) → f x ≡ a → (b : Bool) → (x == p) ≡ b → (b || is_in xs p) ≡ true
        → (is_in xs p ≡ true → is_in (filter f xs) p ≡ true)
        → is_in (cond a (x ∷ filter f xs) (filter f xs)) p ≡ true
    by true pass true same h g = rw same refl
    by true pass false same h g = or_right (x == p) (is_in (filter f xs) p) (g h)
    by false pass false same h g = g h
    by false pass true same h g =
        let is : x ≡ p = grind (arith, nat_tests, same) in
        absurd (clash (subst (λ y. f y ≡ true) (sym is) passes) pass)

-- ---- a stage with a new attempt

-- all attempts are zombies where the last one is made one
all_dead :
    (n : ℕ) (xs : List StageAttempt) → length xs ≤ suc n
    → All (λ a. a.set.is_zombie ≡ true) (take n xs)
    → All (λ a. a.set.is_zombie ≡ true) (change_at xs n (with_set as_zombie))
all_dead n [] le a = All-nil (λ a. a.set.is_zombie ≡ true)
all_dead zero (x ∷ []) le a =
    All-cons (λ b. b.set.is_zombie ≡ true) (with_set as_zombie x) [] refl
    (All-nil (λ b. b.set.is_zombie ≡ true))
all_dead zero (x ∷ y ∷ xs) le a = absurd (omega (arith, le))
all_dead (suc n) (x ∷ xs) le a =
    All-cons (λ b. b.set.is_zombie ≡ true) x (change_at xs n (with_set as_zombie))
    (All-head (λ b. b.set.is_zombie ≡ true) x (take n xs) a)
    (all_dead n xs (omega (arith, le))
    (All-tail (λ b. b.set.is_zombie ≡ true) x (take n xs) a))

module _ (t : TrackerData) (limits : Limits) (stage : StageData) (state : StageState)
    (is : IsSoundState t stage state)
    (lacks : is_complete_by t stage state.results ≡ false) where
  abbrev done : ℕ → Bool
  done p = is_done_by t stage.target state.results p

  abbrev missing : List ℕ
  missing = missing_by t stage state.results

  abbrev fresh : TaskSetData
  fresh = fresh_set missing (is_map stage.target) limits t.epoch

  new_of : IsSetOf stage (new_set t limits stage state.results state.held)
  new_of =
      record {
        sound = flagged_sound state.held fresh
            (held_fresh missing (is_map stage.target) limits t.epoch 0 0
            (AllPairs-filter (λ p q. p < q) (λ p. not (done p)) (numbers_below stage.tasks)
            (numbers_rise 0 stage.tasks))
            (filter_some done (numbers_below stage.tasks) lacks)).sound;
        kind = refl;
        within = All-map (λ task. task.partition < stage.tasks) (flagged state.held) fresh.tasks
            (fresh_within done stage.tasks);
      }

  new_newest : IsNewest t stage state.results
      (Some (new_set t limits stage state.results state.held))
  new_newest =
      record {
        made = λ p exec shuffle target h.
            absurd (search (rules, sym (fresh_finish state.held missing p) ∙ h));
        wanted = λ p h. not_true (done p)
            (all_in (λ q. not (done q) ≡ true) missing p
            (filter_passes (λ q. not (done q)) (numbers_below stage.tasks))
            (sym (fresh_wants state.held missing p) ∙ h));
        covered = λ p kind lt ne h. covered p lt (sym (fresh_wants state.held missing p) ∙ h);
      }
    where
      covered : (p : ℕ) → p < stage.tasks → is_in missing p ≡ false → done p ≡ true
      covered p lt none = by (done p) refl
        where
          itself : (p == p) ≡ true
          itself = grind (arith, nat_tests)

          by : (b : Bool) → done p ≡ b → b ≡ true
          by true e = refl
          by false e =
              absurd (clash (in_filter (λ q. not (done q)) (numbers_below stage.tasks) p
              (any_below (λ q. q == p) stage.tasks p lt itself) (ap not e)) none)

  -- its tasks are held back by the flags of the stage
  new_held : AreHeldBy state.held (Some (new_set t limits stage state.results state.held))
  new_held =
      All-map (λ task. task.denied ≡ at_or state.held task.partition false)
      (flagged state.held) fresh.tasks (λ i d l. refl)

  pub started_sound : IsSoundState t stage (started t limits stage state)
  started_sound =
      record {
        results = is.results;
        flags = record {
          many = is.flags.many;
          held = rw (newest_started t limits stage state) new_held;
        };
        attempts = record {
          each = All-push (IsAttemptOf stage) before newest
              (attempts_changed stage state.attempts (length state.attempts - 1)
              (with_set as_zombie)
              (λ a at. keeps_with stage a as_zombie (keeps_zombie a.set)) is.attempts).each
              (record { set = new_of; failed = λ e. absurd (true≢false (sym e)) });
          older = rw (take_push before newest)
              (all_dead (length state.attempts - 1) state.attempts (omega arith)
              is.attempts.older);
        };
        newest = rw (newest_started t limits stage state) new_newest;
      }
    where
      before : List StageAttempt
      before = change_at state.attempts (length state.attempts - 1) (with_set as_zombie)

      newest : StageAttempt
      newest = stage_attempt (new_set t limits stage state.results state.held) false

-- it begins now
pub births_started :
    (t : TrackerData) (limits : Limits) (stage : StageData) (state : StageState)
    → births_of (started t limits stage state).attempts
    ≡ births_of state.attempts ++ t.epoch ∷ []
births_started t limits stage state =
    births_pushed (change_at state.attempts (length state.attempts - 1) (with_set as_zombie))
    (stage_attempt (new_set t limits stage state.results state.held) false)
    ∙ ap (λ bs. bs ++ t.epoch ∷ [])
    (births_changed state.attempts (length state.attempts - 1) (with_set as_zombie) (λ a. refl))

-- ---- all stages

pub looking_sound :
    (d : DagData) (submitted looked : ℕ → Bool) → IsSoundDag d
    → AreLookedAt d submitted looked → IsSoundDag (after_looking d looked)
looking_sound d submitted looked sound are =
    sound_from (after_looking d looked) sound.tracker sound.stages
    (by_number_length (moved_if d looked) 0 d.states ∙ sound.states)
    (births_moved d (λ s. births_of (attempts_of d s))
    (λ s. births_of (attempts_of (after_looking d looked) s)) births (births_in d sound))
    charged at
  where
    charged_in : (s : ℕ) (o : Option StageState) (b c : Bool)
        → AreCharged d.tracker.epoch (attempts_in o)
        → AreCharged d.tracker.epoch (attempts_in (option_map (λ state.
        if b then (if c then started d.tracker d.limits (stage_at d s) state
        else as_waiting state) else state) o))
    charged_in s None b c are = are
    charged_in s (Some state) true true are =
        charged_started d.tracker.epoch d.tracker d.limits (stage_at d s) state refl are
    charged_in s (Some state) true false are = are
    charged_in s (Some state) false c are = are

    charged : (s : ℕ)
        → AreCharged d.tracker.epoch (attempts_of (after_looking d looked) s)
    charged s =
        rw (state_after d looked s)
        (charged_in s (slice_get d.states s) (looked s) (has_inputs d s) (sound.charged s))

    more : (s : ℕ) (o : Option StageState) (b c : Bool) → has_inputs d s ≡ c
        → (births_of (attempts_in (option_map (λ state.
        if b then (if c then started d.tracker d.limits (stage_at d s) state
        else as_waiting state) else state) o)) ≡ births_of (attempts_in o))
        ⊎ ((births_of (attempts_in (option_map (λ state.
        if b then (if c then started d.tracker d.limits (stage_at d s) state
        else as_waiting state) else state) o))
        ≡ births_of (attempts_in o) ++ d.tracker.epoch ∷ []) × (has_inputs d s ≡ true))
    more s None b c e = inl refl
    more s (Some state) true true e =
        inr (births_started d.tracker d.limits (stage_at d s) state, e)
    more s (Some state) true false e = inl refl
    more s (Some state) false c e = inl refl

    births : (s : ℕ)
        → (births_of (attempts_of (after_looking d looked) s) ≡ births_of (attempts_of d s))
        ⊎ ((births_of (attempts_of (after_looking d looked) s)
        ≡ births_of (attempts_of d s) ++ d.tracker.epoch ∷ []) × (has_inputs d s ≡ true))
    births s =
        rw (state_after d looked s)
        (more s (slice_get d.states s) (looked s) (has_inputs d s) refl)

    own : (s : ℕ) (state : StageState) → slice_get d.states s ≡ Some state
        → IsSoundState d.tracker (stage_at d s) state → (b : Bool) → looked s ≡ b
        → (c : Bool)
        → IsSoundState d.tracker (stage_at d s)
        (if b then (if c then started d.tracker d.limits (stage_at d s) state
        else as_waiting state) else state)
    own s state e is true look true =
        started_sound d.tracker d.limits (stage_at d s) state is
        (sym (ap (λ o. is_complete_by d.tracker (stage_at d s) (results_in o)) e)
        ∙ looked_lacks d submitted looked s are look)
    own s state e is true look false =
        record {
          results = is.results;
          flags = is.flags;
          attempts = is.attempts;
          newest = is.newest;
        }
    own s state e is false look c = is

    at : (s : ℕ)
        → IsSoundAt d.tracker (stage_at d s) (slice_get (after_looking d looked).states s)
    at s =
        rw (state_after d looked s)
        (sound_mapped d.tracker d.tracker (stage_at d s) (moved_if d looked s)
        (slice_get d.states s)
        (λ state e is. own s state e is (looked s) refl (has_inputs d s)) (sound_at d s sound))

pub submitted_sound :
    (d : DagData) (submitted : ℕ → Bool) (after : DagData) → IsSoundDag d
    → IsSubmitted d submitted after → IsSoundDag after
submitted_sound d submitted after sound (looked, are, is) =
    subst IsSoundDag (sym is) (looking_sound d submitted looked sound are)
