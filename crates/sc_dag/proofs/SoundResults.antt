-- Successes of result tasks keep what holds of every job.
use Rattle.std.proofs.Common.{◌≡◌, ℕ, ◌<◌, Bool, true, false, if◌then◌else◌, List, length, Some, None, refl, ap, sym, subst, ◌∙◌, arith, true≢false}
use Rattle.sc_ids.specs.Changes.{change_at}
use Rattle.sc_ids.specs.Graphs.{StageData}
use Rattle.sc_ids.specs.declared.attempts.AttemptId.{AttemptId}
use Rattle.sc_ids.specs.declared.blocks.Target.{Target}
use Rattle.sc_ids.specs.declared.blocks.Target.TheVariants as targets
use Rattle.sc_ids.proofs.ChangeLemmas.{at_or_change_other, at_or_change_same, length_change_at}
use Rattle.sc_taskset.specs.Reports.{after_success}
use Rattle.sc_dag.specs.DagData.{DagData, StageState, changed_newest, changed_set, dag_data, newest_at, stage_at, with_state}
use Rattle.sc_dag.specs.Outputs.{is_complete, is_done_by}
use Rattle.sc_dag.specs.Reports.{after_result_success, completed, completed_if, ended_in_own, is_of_newest, is_repeat, succeeded_in_both, succeeded_in_own, wants_in, with_result}
use Rattle.sc_dag.specs.Sound.{IsSoundDag, runner_of}
use Rattle.sc_dag.specs.Submission.{is_map}
use Rattle.sc_dag.proofs.Births.{KeepsBirths, births_newest, births_own}
use Rattle.sc_dag.proofs.Items.{change_twice}
use Rattle.sc_dag.proofs.Keeping.{completed_sound, ended_sound}
use Rattle.sc_dag.proofs.Runners.{newest_place, older_place, runs_in, wanted_in}
use Rattle.sc_dag.proofs.SoundStages.{HasPlaces, sound_with}
use Rattle.sc_dag.proofs.Successes.{SucceedsTo, success_in_both, success_in_newest}
use Rattle.sc_dag.proofs.Tests.{clash, not_false}
use Rattle.sc_dag.proofs.Charging.{charged_both, charged_success}

-- an attempt that runs, of a partition that its stage's newest set wants
module _ (d : DagData) (a : AttemptId) (exec now : ℕ) (sound : IsSoundDag d)
    (runs : runner_of d a ≡ Some exec)
    (wants : wants_in (newest_at d a.stage) a.partition ≡ true) where
  abbrev stage : StageData
  stage = stage_at d a.stage

  -- a result
  pub with_result_sound : is_map stage.target ≡ false
      → IsSoundDag (with_state (succeeded_in_both d a now) a.stage (with_result a.partition))
  with_result_sound kind = by (is_of_newest d a) refl
    where
      own_set : StageState → StageState
      own_set = changed_set a.stage_attempt
          (λ set. after_success set a.partition (Some a.nth) now)

      newest_too : StageState → StageState
      newest_too = changed_newest (λ set. after_success set a.partition None now)

      own_births : KeepsBirths own_set
      own_births =
          births_own a.stage_attempt (λ set. after_success set a.partition (Some a.nth) now)
          (λ set. refl)

      results : StageState → List Bool
      results state = change_at state.results a.partition (λ _. true)

      places : (state : StageState) → HasPlaces stage state.results
          → HasPlaces stage (results state)
      places state has = length_change_at state.results a.partition (λ _. true) ∙ has

      other : (target : Target) (state : StageState) (p : ℕ) → (a.partition ≡ p → ⊥)
          → is_done_by d.tracker target (results state) p
          ≡ is_done_by d.tracker target state.results p
      other (targets.Map shuffle) state p ne = refl
      other (targets.Result node) state p ne =
          at_or_change_other state.results a.partition p false (λ _. true) (λ e. ne (sym e))

      done : (target : Target) (state : StageState) → is_map target ≡ false
          → a.partition < length state.results
          → is_done_by d.tracker target (results state) a.partition ≡ true
      done (targets.Map shuffle) state k lt = absurd (true≢false k)
      done (targets.Result node) state k lt =
          at_or_change_same state.results a.partition false (λ _. true) lt

      to : (state : StageState) → HasPlaces stage state.results
          → SucceedsTo d.tracker d.tracker stage state.results (results state) a.partition exec
      to state has =
          record {
            others = λ p ne. other stage.target state p ne;
            outputs = λ p shuffle ne target. refl;
            made = λ shuffle target. absurd (clash (ap is_map target) kind);
            done = λ k lt. done stage.target state k
                (let n : length state.results ≡ stage.tasks = rw kind at has in
                omega (arith, n, lt));
          }

      by : (b : Bool) → is_of_newest d a ≡ b
          → IsSoundDag (with_state (if b then succeeded_in_own d a now
          else with_state (succeeded_in_own d a now) a.stage newest_too)
          a.stage (with_result a.partition))
      by true e =
          subst (λ states. IsSoundDag (dag_data d.stages states d.tracker d.limits))
          (sym (change_twice d.states a.stage own_set (with_result a.partition)))
          (sound_with d a.stage (λ state. with_result a.partition (own_set state)) own_births
          (λ state are at. charged_success d.tracker.epoch a now state are) sound
          (λ state at is.
          success_in_newest d.tracker d.tracker stage state (results state) a exec now is
          (runs_in d a exec state at runs) (wanted_in d a exec now sound runs wants state at)
          (newest_place d a exec now sound runs wants state at e)
          (places state is.results) (to state is.results)))
      by false e =
          subst (λ states. IsSoundDag (dag_data d.stages states d.tracker d.limits))
          (sym (ap (λ states. change_at states a.stage (with_result a.partition))
          (change_twice d.states a.stage own_set newest_too)
          ∙ change_twice d.states a.stage (λ state. newest_too (own_set state))
          (with_result a.partition)))
          (sound_with d a.stage
          (λ state. with_result a.partition (newest_too (own_set state)))
          (λ state. births_newest (λ set. after_success set a.partition None now) (λ set. refl)
          (own_set state) ∙ own_births state)
          (λ state are at. charged_both d.tracker.epoch a now state are) sound
          (λ state at is.
          success_in_both d.tracker d.tracker stage state (results state) a exec now is
          (wanted_in d a exec now sound runs wants state at)
          (older_place d a exec now sound runs wants state at e)
          (places state is.results) (to state is.results)))

-- a success of a result task
pub result_success_sound :
    (d : DagData) (a : AttemptId) (exec now : ℕ) → IsSoundDag d
    → is_map (stage_at d a.stage).target ≡ false → runner_of d a ≡ Some exec
    → IsSoundDag (after_result_success d a now)
result_success_sound d a exec now sound kind runs = by (is_repeat d a) refl
  where
    after : DagData
    after = with_state (succeeded_in_both d a now) a.stage (with_result a.partition)

    whole : (b : Bool) → IsSoundDag after
        → IsSoundDag (if b then with_state after a.stage completed else after)
    whole true is = completed_sound after a.stage is
    whole false is = is

    by : (b : Bool) → is_repeat d a ≡ b
        → IsSoundDag (if b then ended_in_own d a else completed_if after a.stage)
    by true e = ended_sound d a sound
    by false e =
        whole (is_complete after a.stage)
        (with_result_sound d a exec now sound runs (not_false _ e) kind)
