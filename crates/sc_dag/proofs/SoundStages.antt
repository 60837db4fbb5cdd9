-- What holds of every job, stage by stage.
use Rattle.std.proofs.Common.{◌≡◌, ◌≢◌, ◌⊎◌, inl, inr, ℕ, ◌-◌, ◌<◌, ◌≤◌, Bool, true, false, if◌then◌else◌, List, [], All, length, take, Option, Some, None, IfSome, option_map, slice_get, refl, sym, subst, ◌∙◌, arith, rules, true≢false}
use Rattle.std.proofs.lemmas.Bool.{cases_eq}
use Rattle.std.proofs.lemmas.List.Elements.{All-nil}
use Rattle.sc_ids.specs.Changes.{change_at}
use Rattle.sc_ids.specs.Graphs.{StageData}
use Rattle.sc_ids.specs.declared.blocks.ShuffleId.{ShuffleId}
use Rattle.sc_ids.specs.declared.blocks.Target.TheVariants as targets
use Rattle.sc_ids.proofs.ChangeLemmas.{length_change_at, slice_get_change_other, slice_get_change_same}
use Rattle.sc_taskset.specs.TaskSetData.{TaskSetData}
use Rattle.sc_taskset.specs.declared.tasks.Finish.TheVariants.{OnExecutor}
use Rattle.sc_tracker.specs.TrackerData.{TrackerData, output_of, outputs_of}
use Rattle.sc_tracker.specs.TrackerFacts.{IsSoundTracker}
use Rattle.sc_dag.specs.DagData.{DagData, StageState, dag_data, newest_set, stage_at, with_state}
use Rattle.sc_dag.specs.Outputs.{block_of, held_in, is_done_by, results_in}
use Rattle.sc_dag.specs.Reports.{wants_in}
use Rattle.sc_dag.specs.Births.{AreCharged, births_of}
use Rattle.sc_dag.specs.Sound.{AreHeldBy, AreSoundStages, IsAttemptOf, IsSoundDag, attempts_in, attempts_of, finish_in}
use Rattle.sc_dag.specs.Submission.{is_map}
use Rattle.sc_dag.specs.declared.attempts.StageAttempt.{StageAttempt}
use Rattle.sc_dag.proofs.Births.{Ages, AreBirths, KeepsBirths, ages_same, births_in, births_kept, births_with}
use Rattle.sc_dag.proofs.Charges.{charged_later, charged_none}
use Rattle.sc_dag.proofs.Moving.{newest_among}

-- the attempts of a stage
pub record AreAttempts (stage : StageData) (attempts : List StageAttempt) : Type 0 where
  pub each : All (IsAttemptOf stage) attempts
  pub older : All (λ a. a.set.is_zombie ≡ true) (take (length attempts - 1) attempts)

-- what the newest set of a stage says of its outputs
pub record IsNewest
    (t : TrackerData) (stage : StageData) (results : List Bool) (o : Option TaskSetData)
    : Type 0 where
  pub made : (p exec : ℕ) (shuffle : ShuffleId) → stage.target ≡ targets.Map shuffle
      → finish_in o p ≡ OnExecutor exec
      → IfSome (output_of t (block_of shuffle p)).here (λ loc. loc.exec ≡ exec)
  pub wanted : (p : ℕ) → wants_in o p ≡ true → is_done_by t stage.target results p ≡ false
  pub covered : (p : ℕ) → is_map stage.target ≡ false → p < stage.tasks → o ≢ None
      → wants_in o p ≡ false → is_done_by t stage.target results p ≡ true

-- a result stage has a place for each of its results
abbrev pub HasPlaces : StageData → List Bool → Type 0
HasPlaces stage results = length results ≡ (if is_map stage.target then 0 else stage.tasks)

-- a stage has a flag for each partition, and by these its newest set holds tasks back
pub record AreFlags (stage : StageData) (flags : List Bool) (o : Option TaskSetData) : Type 0 where
  pub many : length flags ≡ stage.tasks
  pub held : AreHeldBy flags o

-- what holds of a stage
pub record IsSoundState (t : TrackerData) (stage : StageData) (state : StageState) : Type 0 where
  pub results : HasPlaces stage state.results
  pub flags : AreFlags stage state.held (newest_set state)
  pub attempts : AreAttempts stage state.attempts
  pub newest : IsNewest t stage state.results (newest_set state)

abbrev pub IsSoundAt : TrackerData → StageData → Option StageState → Type 0
IsSoundAt t stage None = HasPlaces stage [] × AreFlags stage [] None
IsSoundAt t stage (Some state) = IsSoundState t stage state

-- ---- stage by stage and back

pub sound_at : (d : DagData) (s : ℕ) → IsSoundDag d
    → IsSoundAt d.tracker (stage_at d s) (slice_get d.states s)
sound_at d s sound =
    by (slice_get d.states s) (sound.results s)
    (record { many = sound.flags s; held = sound.held s })
    (record { each = sound.attempts s; older = sound.older s })
    (record { made = sound.made s; wanted = sound.wanted s; covered = sound.covered s })
  where
    by : (o : Option StageState) → HasPlaces (stage_at d s) (results_in o)
        → AreFlags (stage_at d s) (held_in o) (newest_among o)
        → AreAttempts (stage_at d s) (attempts_in o)
        → IsNewest d.tracker (stage_at d s) (results_in o) (newest_among o)
        → IsSoundAt d.tracker (stage_at d s) o
    by None results flags attempts newest = (results, flags)
    by (Some state) results flags attempts newest =
        record { results = results; flags = flags; attempts = attempts; newest = newest }

places_at : (t : TrackerData) (stage : StageData) (o : Option StageState) → IsSoundAt t stage o
    → HasPlaces stage (results_in o)
places_at t stage None is = is.0
places_at t stage (Some state) is = is.results

flags_at : (t : TrackerData) (stage : StageData) (o : Option StageState) → IsSoundAt t stage o
    → AreFlags stage (held_in o) (newest_among o)
flags_at t stage None is = is.1
flags_at t stage (Some state) is = is.flags

attempts_at : (t : TrackerData) (stage : StageData) (o : Option StageState) → IsSoundAt t stage o
    → AreAttempts stage (attempts_in o)
attempts_at t stage None is =
    record { each = All-nil (IsAttemptOf stage); older = All-nil (λ a. a.set.is_zombie ≡ true) }
attempts_at t stage (Some state) is = is.attempts

pub no_newest : (t : TrackerData) (stage : StageData) (results : List Bool)
    → IsNewest t stage results None
no_newest t stage results =
    record {
      made = λ p exec shuffle is h. absurd (search (rules, h));
      wanted = λ p h. absurd (true≢false (sym h));
      covered = λ p is lt ne h. absurd (ne refl);
    }

newest_of : (t : TrackerData) (stage : StageData) (o : Option StageState) → IsSoundAt t stage o
    → IsNewest t stage (results_in o) (newest_among o)
newest_of t stage None is = no_newest t stage []
newest_of t stage (Some state) is = is.newest

pub sound_from :
    (d : DagData) → IsSoundTracker d.tracker → AreSoundStages d.stages d.tracker
    → length d.states ≡ length d.stages
    → AreBirths d.stages d.tracker (λ s. births_of (attempts_of d s))
    → ((s : ℕ) → AreCharged d.tracker.epoch (attempts_of d s))
    → ((s : ℕ) → IsSoundAt d.tracker (stage_at d s) (slice_get d.states s)) → IsSoundDag d
sound_from d tracker stages long births charged at =
    record {
      tracker = tracker;
      stages = stages;
      states = long;
      results = λ s. places_at d.tracker (stage_at d s) (slice_get d.states s) (at s);
      flags = λ s. (flags_at d.tracker (stage_at d s) (slice_get d.states s) (at s)).many;
      held = λ s. (flags_at d.tracker (stage_at d s) (slice_get d.states s) (at s)).held;
      attempts = λ s.
          (attempts_at d.tracker (stage_at d s) (slice_get d.states s) (at s)).each;
      older = λ s. (attempts_at d.tracker (stage_at d s) (slice_get d.states s) (at s)).older;
      made = λ s. (newest_of d.tracker (stage_at d s) (slice_get d.states s) (at s)).made;
      wanted = λ s. (newest_of d.tracker (stage_at d s) (slice_get d.states s) (at s)).wanted;
      covered = λ s. (newest_of d.tracker (stage_at d s) (slice_get d.states s) (at s)).covered;
      born = births.turn;
      charged = charged;
      inputs = births.there;
    }

-- a change of the state of a stage
pub sound_mapped :
    (t u : TrackerData) (stage : StageData) (f : StageState → StageState) (o : Option StageState)
    → ((state : StageState) → o ≡ Some state → IsSoundState t stage state
    → IsSoundState u stage (f state))
    → IsSoundAt t stage o → IsSoundAt u stage (option_map f o)
sound_mapped t u stage f None h is = is
sound_mapped t u stage f (Some state) h is = h state refl is

-- room for outputs where there was as much before
pub stages_moved :
    (stages : List StageData) (t u : TrackerData)
    → ((shuffle : ShuffleId) → length (outputs_of t shuffle) ≤ length (outputs_of u shuffle))
    → AreSoundStages stages t → AreSoundStages stages u
stages_moved stages t u more sound =
    record {
      older = sound.older;
      apart = sound.apart;
      read = sound.read;
      room = λ s shuffle is. (let had = sound.room s shuffle is in
          let m = more shuffle in omega (arith, had, m));
    }

-- one stage changed, and the tracker
pub sound_changed :
    (d : DagData) (u : TrackerData) (s : ℕ) (f : StageState → StageState)
    → KeepsBirths f
    → ((state : StageState) → AreCharged d.tracker.epoch state.attempts
    → slice_get d.states s ≡ Some state → AreCharged u.epoch (f state).attempts)
    → Ages d.tracker u → IsSoundDag d → IsSoundTracker u
    → ((shuffle : ShuffleId)
    → length (outputs_of d.tracker shuffle) ≤ length (outputs_of u shuffle))
    → ((k : ℕ) → (k ≡ s → ⊥) → IsSoundAt d.tracker (stage_at d k) (slice_get d.states k)
    → IsSoundAt u (stage_at d k) (slice_get d.states k))
    → ((state : StageState) → slice_get d.states s ≡ Some state
    → IsSoundState d.tracker (stage_at d s) state → IsSoundState u (stage_at d s) (f state))
    → IsSoundDag (dag_data d.stages (change_at d.states s f) u d.limits)
sound_changed d u s f keeps charges ages sound tracker room others own =
    sound_from (dag_data d.stages (change_at d.states s f) u d.limits) tracker
    (stages_moved d.stages d.tracker u room sound.stages)
    (length_change_at d.states s f ∙ sound.states)
    (births_kept d.stages d.tracker u (λ k. births_of (attempts_of d k))
    (λ k. births_of (attempts_in (slice_get (change_at d.states s f) k)))
    (λ k. births_with d.states s k f keeps) ages (births_in d sound))
    (λ k. charged k (cases_eq k s)) (λ k. by k (cases_eq k s))
  where
    charged_here : (o : Option StageState) → slice_get d.states s ≡ o
        → AreCharged d.tracker.epoch (attempts_in o)
        → AreCharged u.epoch (attempts_in (option_map f o))
    charged_here None e are = charged_none u.epoch [] refl
    charged_here (Some state) e are = charges state are e

    charged : (k : ℕ) → (k ≡ s) ⊎ (k ≡ s → ⊥)
        → AreCharged u.epoch (attempts_in (slice_get (change_at d.states s f) k))
    charged k (inl e) =
        subst (λ j. AreCharged u.epoch (attempts_in (slice_get (change_at d.states s f) j)))
        (sym e)
        (rw (slice_get_change_same d.states s f)
        (charged_here (slice_get d.states s) refl (sound.charged s)))
    charged k (inr ne) =
        rw (slice_get_change_other d.states s k f ne)
        (charged_later d.tracker.epoch u.epoch (attempts_of d k) ages.epoch (sound.charged k))

    here : IsSoundAt u (stage_at d s) (slice_get (change_at d.states s f) s)
    here = rw (slice_get_change_same d.states s f)
        (sound_mapped d.tracker u (stage_at d s) f (slice_get d.states s) own
        (sound_at d s sound))

    by : (k : ℕ) → (k ≡ s) ⊎ (k ≡ s → ⊥)
        → IsSoundAt u (stage_at d k) (slice_get (change_at d.states s f) k)
    by k (inl e) =
        subst (λ j. IsSoundAt u (stage_at d j) (slice_get (change_at d.states s f) j)) (sym e) here
    by k (inr ne) =
        rw (slice_get_change_other d.states s k f ne) (others k ne (sound_at d k sound))

-- one stage changed alone
pub sound_with :
    (d : DagData) (s : ℕ) (f : StageState → StageState) → KeepsBirths f
    → ((state : StageState) → AreCharged d.tracker.epoch state.attempts
    → slice_get d.states s ≡ Some state → AreCharged d.tracker.epoch (f state).attempts)
    → IsSoundDag d
    → ((state : StageState) → slice_get d.states s ≡ Some state
    → IsSoundState d.tracker (stage_at d s) state
    → IsSoundState d.tracker (stage_at d s) (f state))
    → IsSoundDag (with_state d s f)
sound_with d s f keeps charges sound own =
    sound_changed d d.tracker s f keeps charges (ages_same d.tracker) sound sound.tracker
    (λ shuffle. omega arith) (λ k ne is. is) own
