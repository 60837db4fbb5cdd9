-- Successes of map tasks forget no stage.
use Rattle.std.proofs.Common.{◌≡◌, ℕ, Bool, true, false, if◌then◌else◌, Option, Some, None, slice_get, refl, ap, sym, subst, ◌∙◌, true≢false}
use Rattle.std.specs.List.{list_all}
use Rattle.sc_base.specs.Lists.{numbers_below}
use Rattle.sc_ids.specs.Changes.{change_at}
use Rattle.sc_ids.specs.declared.attempts.AttemptId.{AttemptId}
use Rattle.sc_ids.specs.declared.blocks.Loc.{Loc}
use Rattle.sc_ids.specs.declared.blocks.ShuffleId.{ShuffleId}
use Rattle.sc_ids.specs.declared.blocks.Target.{Target}
use Rattle.sc_ids.specs.declared.blocks.Target.TheVariants as targets
use Rattle.sc_ids.proofs.ChangeLemmas.{length_change_at, slice_get_change_other}
use Rattle.sc_taskset.specs.Reports.{after_end, after_success}
use Rattle.sc_tracker.specs.TrackerData.{TrackerData}
use Rattle.sc_tracker.specs.Tracking.{is_bogus, registered}
use Rattle.sc_dag.specs.DagData.{DagData, StageState, changed_newest, changed_set, dag_data, newest_at, place_of_attempt, stage_at, with_state}
use Rattle.sc_dag.specs.Laws.{GoesOn, MapSuccessesGoOn}
use Rattle.sc_dag.specs.Outputs.{block_of, is_complete, is_complete_by, results_in}
use Rattle.sc_dag.specs.Reports.{CompletesMap, block_by, ended_in_own, is_finished_short, is_of_newest, is_repeat, registered_by, succeeded_in_both, succeeded_in_own, wants_in, with_output}
use Rattle.sc_dag.specs.Sound.{IsSoundDag, runner_of}
use Rattle.sc_dag.specs.Submission.{IsSubmitted, is_map, this_stage}
use Rattle.sc_dag.proofs.Calm.{calm_set}
use Rattle.sc_dag.proofs.Ending.{EndsWhole, SucceedsAt, older_succeeds, set_succeeds, succeeds_calm, succeeds_changed}
use Rattle.sc_dag.proofs.Finishes.{success_ends}
use Rattle.sc_dag.proofs.GoingOn.{SameOthers, others_with}
use Rattle.sc_dag.proofs.Items.{change_twice}
use Rattle.sc_dag.proofs.Outcomes.{map_outcome}
use Rattle.sc_dag.proofs.Runners.{older_place}
use Rattle.sc_dag.proofs.Sets.{keeps_success}
use Rattle.sc_dag.proofs.Tests.{not_false}
use Rattle.sc_dag.proofs.Trackers.{done_alike, other_outputs}

-- a success ends a set only where all of it is finished
pub success_whole : (p : ℕ) (nth : Option ℕ) (now : ℕ)
    → EndsWhole (λ set. after_success set p nth now)
success_whole p nth now =
    record {
      dead = λ set z. (keeps_success set p nth now).dead z;
      ends = λ set l z. success_ends set p nth now l z;
    }

-- the stage of an attempt that succeeded, by its own set
abbrev pub own_set : AttemptId → ℕ → StageState → StageState
own_set a now = changed_set a.stage_attempt
    (λ set. after_success set a.partition (Some a.nth) now)

-- and by the newest one
abbrev pub newest_too : AttemptId → ℕ → StageState → StageState
newest_too a now = changed_newest (λ set. after_success set a.partition None now)

own_succeeds :
    (d : DagData) (a : AttemptId) (now : ℕ)
    → SucceedsAt (slice_get d.states a.stage)
    (slice_get (change_at d.states a.stage (own_set a now)) a.stage)
own_succeeds d a now =
    succeeds_changed d.states a.stage (own_set a now)
    (λ state e. set_succeeds state (place_of_attempt state a.stage_attempt)
    (λ set. after_success set a.partition (Some a.nth) now)
    (success_whole a.partition (Some a.nth) now))

both_succeed :
    (d : DagData) (a : AttemptId) (exec now : ℕ) → IsSoundDag d
    → runner_of d a ≡ Some exec → wants_in (newest_at d a.stage) a.partition ≡ true
    → is_of_newest d a ≡ false
    → SucceedsAt (slice_get d.states a.stage)
    (slice_get (change_at d.states a.stage (λ state. newest_too a now (own_set a now state)))
    a.stage)
both_succeed d a exec now sound runs wants older =
    succeeds_changed d.states a.stage (λ state. newest_too a now (own_set a now state))
    (λ state e. older_succeeds state (place_of_attempt state a.stage_attempt)
    (λ set. after_success set a.partition (Some a.nth) now)
    (λ set. after_success set a.partition None now)
    (older_place d a exec now sound runs wants state e older)
    (success_whole a.partition None now))

ended_succeeds :
    (d : DagData) (a : AttemptId)
    → SucceedsAt (slice_get d.states a.stage)
    (slice_get (ended_in_own d a).states a.stage)
ended_succeeds d a =
    succeeds_changed d.states a.stage _
    (λ state e. succeeds_calm (Some state) _
    (calm_set state (place_of_attempt state a.stage_attempt)
    (λ set. after_end set a.partition a.nth) (λ set. refl)))

-- ---- map tasks

-- what a map success that left this is to go on as
abbrev MapGoesOn : DagData → ℕ → DagData → DagData → Type 0
MapGoesOn d s mid after =
    (is_complete mid s ≡ true → CompletesMap mid s after → GoesOn d after)
    × (is_finished_short mid s ≡ true → IsSubmitted mid (this_stage s) after → GoesOn d after)
    × (is_complete mid s ≡ false → is_finished_short mid s ≡ false → GoesOn d mid)

-- a registration completes no other stage
registered_others :
    (d : DagData) (a : AttemptId) (f : StageState → StageState) (shuffle : ShuffleId) (loc : Loc)
    → IsSoundDag d → (stage_at d a.stage).target ≡ targets.Map shuffle
    → SameOthers d (change_at d.states a.stage f)
    (registered d.tracker (block_of shuffle a.partition) loc) a.stage
registered_others d a f shuffle loc sound target =
    record {
      states_same = λ k ne. slice_get_change_other d.states a.stage k f ne;
      lacks = λ k ne e. lacks k ne
          ∙ ap (λ o. is_complete_by d.tracker (stage_at d k) (results_in o))
          (slice_get_change_other d.states a.stage k f ne)
          ∙ e;
    }
  where
    u : TrackerData
    u = registered d.tracker (block_of shuffle a.partition) loc

    lacks : (k : ℕ) → (k ≡ a.stage → ⊥)
        → is_complete_by u (stage_at d k)
        (results_in (slice_get (change_at d.states a.stage f) k))
        ≡ is_complete_by d.tracker (stage_at d k)
        (results_in (slice_get (change_at d.states a.stage f) k))
    lacks k ne =
        ap (λ g. list_all g (numbers_below (stage_at d k).tasks))
        (λ i. λ p. done_alike d.tracker u (stage_at d k).target
        (results_in (slice_get (change_at d.states a.stage f) k)) p
        (other_outputs d k a.stage a.partition shuffle loc sound.stages target ne p) i)

pub map_successes_go_on : MapSuccessesGoOn
map_successes_go_on d a loc epoch now after sound settled kind runs =
    by (is_repeat d a) refl (is_bogus d.tracker loc epoch)
  where
    s : ℕ
    s = a.stage

    -- a change of its stage alone
    alone : (f : StageState → StageState)
        → ((state : StageState) → (f state).results ≡ state.results)
        → SucceedsAt (slice_get d.states s) (slice_get (change_at d.states s f) s)
        → MapGoesOn d s (with_state d s f) after
    alone f same at =
        map_outcome d (change_at d.states s f) d.tracker s
        (length_change_at d.states s f ∙ sound.states) (others_with d s f same) at settled after

    registers : (shuffle : ShuffleId) → (stage_at d s).target ≡ targets.Map shuffle
        → (f : StageState → StageState)
        → SucceedsAt (slice_get d.states s) (slice_get (change_at d.states s f) s)
        → MapGoesOn d s (dag_data d.stages (change_at d.states s f)
        (registered d.tracker (block_of shuffle a.partition) loc) d.limits) after
    registers shuffle target f at =
        map_outcome d (change_at d.states s f)
        (registered d.tracker (block_of shuffle a.partition) loc) s
        (length_change_at d.states s f ∙ sound.states)
        (registered_others d a f shuffle loc sound target) at settled after

    both : (shuffle : ShuffleId) → (stage_at d s).target ≡ targets.Map shuffle
        → wants_in (newest_at d s) a.partition ≡ true → (b : Bool) → is_of_newest d a ≡ b
        → let u = registered d.tracker (block_of shuffle a.partition) loc in
        let moved = dag_data d.stages d.states u d.limits in
        MapGoesOn d s (if b then succeeded_in_own moved a now
        else with_state (succeeded_in_own moved a now) s (newest_too a now)) after
    both shuffle target w true e =
        registers shuffle target (own_set a now) (own_succeeds d a now)
    both shuffle target w false e =
        subst (λ states. MapGoesOn d s (dag_data d.stages states
        (registered d.tracker (block_of shuffle a.partition) loc) d.limits) after)
        (sym (change_twice d.states s (own_set a now) (newest_too a now)))
        (registers shuffle target (λ state. newest_too a now (own_set a now state))
        (both_succeed d a loc.exec now sound runs w e))

    so : (target : Target) → (stage_at d s).target ≡ target → is_map target ≡ true
        → wants_in (newest_at d s) a.partition ≡ true
        → MapGoesOn d s (succeeded_in_both (dag_data d.stages d.states
        (registered_by d.tracker (block_by target a.partition) loc) d.limits) a now) after
    so (targets.Map shuffle) is k w = both shuffle is w (is_of_newest d a) refl
    so (targets.Result node) is k w = absurd (true≢false (sym k))

    by : (b : Bool) → is_repeat d a ≡ b → (c : Bool)
        → MapGoesOn d s (if b then ended_in_own d a
        else if c then succeeded_in_own d a now
        else succeeded_in_both (with_output d a loc) a now) after
    by true e c = alone _ (λ state. refl) (ended_succeeds d a)
    by false e true = alone (own_set a now) (λ state. refl) (own_succeeds d a now)
    by false e false = so (stage_at d s).target refl kind (not_false _ e)
