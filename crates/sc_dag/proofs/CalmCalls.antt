-- Calls that end no task set forget no stage.
use Rattle.std.proofs.Common.{◌≡◌, ℕ, ◌-◌, Bool, true, false, List, length, map, Option, Some, None, option_map, slice_get, refl, ap, ◌∙◌}
use Rattle.std.proofs.lemmas.Option.{slice_get-map}
use Rattle.sc_base.specs.Lists.{numbers_below}
use Rattle.sc_ids.specs.Graphs.{StageData}
use Rattle.sc_ids.specs.declared.attempts.AttemptId.{AttemptId}
use Rattle.sc_taskset.specs.Offers.{handed}
use Rattle.sc_taskset.specs.Reports.{after_end, after_failure, after_held, after_loss}
use Rattle.sc_tracker.specs.TrackerData.{TrackerData}
use Rattle.sc_tracker.specs.Tracking.{after_executor_lost, after_gone}
use Rattle.sc_tracker.specs.Trust.{is_live as is_live_executor, is_newer}
use Rattle.sc_dag.specs.DagData.{DagData, StageState, is_live_set, place_of_attempt, set_in, stage_at, with_set}
use Rattle.sc_dag.specs.Laws.{GoesOn, OthersGoOn}
use Rattle.sc_dag.specs.Losses.{after_lost, after_seen, without_executor}
use Rattle.sc_dag.specs.Outputs.{is_complete, is_complete_by, is_done_by, results_in}
use Rattle.sc_dag.specs.Reports.{ended_in_own, told_held}
use Rattle.sc_dag.specs.Settled.{IsSettled}
use Rattle.sc_dag.specs.declared.attempts.StageAttempt.{StageAttempt}
use Rattle.sc_dag.proofs.Calm.{IsCalm, calm_goes_on, calm_same, calm_set, with_goes_on}
use Rattle.sc_dag.proofs.Items.{count_mapped}
use Rattle.sc_dag.proofs.Keeping.{newest_mapped}
use Rattle.sc_dag.proofs.SoundLosses.{Forgets, done_forgotten, gone_forgets, lost_forgets}
use Rattle.sc_dag.proofs.Tests.{all_false}

pub ended_goes_on : (d : DagData) (a : AttemptId) → IsSettled d → GoesOn d (ended_in_own d a)
ended_goes_on d a settled =
    with_goes_on d a.stage _ (λ state. refl)
    (λ state. calm_set state (place_of_attempt state a.stage_attempt)
    (λ set. after_end set a.partition a.nth) (λ set. refl)) settled

-- what was missing is, once outputs are forgotten
complete_forgotten :
    (t u : TrackerData) (exec : ℕ) (stage : StageData) (results : List Bool) → Forgets t u exec
    → is_complete_by t stage results ≡ false → is_complete_by u stage results ≡ false
complete_forgotten t u exec stage results f e =
    all_false (is_done_by t stage.target results) (is_done_by u stage.target results)
    (numbers_below stage.tasks) (λ p. done_forgotten t u exec stage.target results p f) e

seen_goes_on : (d : DagData) (exec found : ℕ) → IsSettled d → GoesOn d (after_seen d exec found)
seen_goes_on d exec found settled =
    calm_goes_on d d.states (after_gone d.tracker exec found)
    (λ s. calm_same (slice_get d.states s))
    (λ s e. by (is_newer (slice_get d.tracker.trust exec) found) refl s e) settled
  where
    by : (b : Bool) → is_newer (slice_get d.tracker.trust exec) found ≡ b → (s : ℕ)
        → is_complete d s ≡ false → is_complete (after_seen d exec found) s ≡ false
    by true is s e =
        complete_forgotten d.tracker (after_gone d.tracker exec found) exec (stage_at d s)
        (results_in (slice_get d.states s)) (gone_forgets d.tracker exec found is) e
    by false is s e = rw is e

lost_goes_on : (d : DagData) (exec : ℕ) → IsSettled d → GoesOn d (after_lost d exec)
lost_goes_on d exec settled =
    calm_goes_on d (map (without_executor exec) d.states) (after_executor_lost d.tracker exec)
    (λ s. rw (slice_get-map (without_executor exec) d.states s) (calm (slice_get d.states s)))
    (λ s e. by (is_live_executor (slice_get d.tracker.trust exec)) refl s
    (ap (is_complete_by d.tracker (stage_at d s)) (results s) ∙ e)) settled
  where
    lose : StageAttempt → StageAttempt
    lose = with_set (λ set. after_loss set exec)

    same : (o : Option StageAttempt)
        → is_live_set (set_in (option_map lose o)) ≡ is_live_set (set_in o)
    same None = refl
    same (Some a) = refl

    calm : (o : Option StageState) → IsCalm o (option_map (without_executor exec) o)
    calm None = calm_same None
    calm (Some state) =
        record {
          waits = refl;
          live = ap (λ x. is_live_set (set_in x)) (newest_mapped state.attempts lose)
              ∙ same (slice_get state.attempts (length state.attempts - 1));
          failed = count_mapped (λ a. a.has_failed) state.attempts lose (λ a. refl);
        }

    kept : (o : Option StageState)
        → results_in (option_map (without_executor exec) o) ≡ results_in o
    kept None = refl
    kept (Some state) = refl

    results : (s : ℕ) → results_in (slice_get (map (without_executor exec) d.states) s)
        ≡ results_in (slice_get d.states s)
    results s =
        ap results_in (slice_get-map (without_executor exec) d.states s)
        ∙ kept (slice_get d.states s)

    by : (b : Bool) → is_live_executor (slice_get d.tracker.trust exec) ≡ b → (s : ℕ)
        → is_complete_by d.tracker (stage_at d s)
        (results_in (slice_get (map (without_executor exec) d.states) s)) ≡ false
        → is_complete (after_lost d exec) s ≡ false
    by true is s e =
        complete_forgotten d.tracker (after_executor_lost d.tracker exec) exec (stage_at d s)
        (results_in (slice_get (map (without_executor exec) d.states) s))
        (lost_forgets d.tracker exec is) e
    by false is s e = rw is e

pub others_go_on : OthersGoOn
others_go_on d sound settled = (
  λ a exec now. with_goes_on d a.stage _ (λ state. refl)
      (λ state. calm_set state (length state.attempts - 1)
      (λ set. handed set a.partition exec now) (λ set. refl)) settled,
  λ a cause. with_goes_on d a.stage _ (λ state. refl)
      (λ state. calm_set state (place_of_attempt state a.stage_attempt)
      (λ set. after_failure set a.partition a.nth cause) (λ set. refl)) settled,
  λ s p denied. with_goes_on d s (told_held p denied) (λ state. refl)
      (λ state. (let calm = calm_set state (length state.attempts - 1)
      (λ set. after_held set p denied) (λ set. refl) in
      record { waits = calm.waits; live = calm.live; failed = calm.failed })) settled,
  λ exec found. seen_goes_on d exec found settled,
  λ exec. lost_goes_on d exec settled,
)
