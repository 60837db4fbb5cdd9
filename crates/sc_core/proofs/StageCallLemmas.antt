-- What the calls that tell of stages do to the attempts that run.
use Rattle.std.proofs.Common.{ℕ, ◌==◌, Bool, true, false, if◌then◌else◌, Option, Some, None, option_map, slice_get, refl, sym, subst}
use Rattle.sc_taskset.specs.declared.tasks.Verdict.{Verdict}
use Rattle.sc_taskset.specs.declared.tasks.Verdict.TheVariants as verdicts
use Rattle.sc_dag.specs.DagData.{DagData, StageState, stage_at, with_state}
use Rattle.sc_dag.specs.Outputs.{has_inputs}
use Rattle.sc_dag.specs.Reports.{CompletesMap, FailsStage, completed, with_failed}
use Rattle.sc_dag.specs.Submission.{IsSubmitted, as_waiting, by_number, moved_if, started, waiting_stages}
use Rattle.sc_dag.proofs.Items.{by_number_at}
use Rattle.sc_dag.proofs.Moving.{results_after}
use Rattle.sc_core.proofs.MoveLemmas.{Calm, SameResults, moves_then, results_then, state_calm, state_results, states_calm}
use Rattle.sc_core.proofs.SetLemmas.{nothing}
use Rattle.sc_core.proofs.StateLemmas.{MovesOf, calm_same}
use Rattle.sc_core.proofs.StateChangeLemmas.{completed_calm, failed_calm, started_calm, waiting_calm}

-- ---- submissions

pub submitted_calm :
    (d after : DagData) (submitted : ℕ → Bool) → IsSubmitted d submitted after → Calm d after
submitted_calm d after submitted (looked, are, is) =
    subst (λ x. Calm d x) (sym is)
    (states_calm d (by_number (moved_if d looked) 0 d.states)
    (λ s. rw (by_number_at (moved_if d looked) d.states s) (by s (slice_get d.states s))))
  where
    moved : (s : ℕ) (state : StageState) (a b : Bool)
        → MovesOf nothing None (Some state)
        (Some (if a then (if b then started d.tracker d.limits (stage_at d s) state
        else as_waiting state) else state))
    moved s state true true = started_calm d.tracker d.limits (stage_at d s) state
    moved s state true false = waiting_calm state
    moved s state false b = calm_same (Some state)

    by : (s : ℕ) (o : Option StageState)
        → MovesOf nothing None o (option_map (moved_if d looked s) o)
    by s None = calm_same None
    by s (Some state) = moved s state (looked s) (has_inputs d s)

pub submitted_results :
    (d after : DagData) (submitted : ℕ → Bool) → IsSubmitted d submitted after
    → SameResults d after
submitted_results d after submitted (looked, are, is) =
    subst (λ x. SameResults d x) (sym is) (results_after d looked)

pub completes_calm :
    (d : DagData) (s : ℕ) (after : DagData) → CompletesMap d s after → Calm d after
completes_calm d s after is =
    moves_then nothing None d (with_state d s completed) after
    (state_calm d s completed completed_calm)
    (submitted_calm (with_state d s completed) after
    (waiting_stages (with_state d s completed)) is)

pub completes_results :
    (d : DagData) (s : ℕ) (after : DagData) → CompletesMap d s after → SameResults d after
completes_results d s after is =
    results_then d (with_state d s completed) after
    (state_results d s completed (λ state. refl))
    (submitted_results (with_state d s completed) after
    (waiting_stages (with_state d s completed)) is)

pub fails_calm :
    (d : DagData) (s number : ℕ) (verdict : Verdict) (after : DagData)
    → FailsStage d s number verdict after → Calm d after
fails_calm d s number verdicts.Limit after (often, is) =
    subst (λ x. Calm d x) (sym is) (state_calm d s (with_failed number) (failed_calm number))
fails_calm d s number verdicts.Again after (often, is) =
    moves_then nothing None d (with_state d s (with_failed number)) after
    (state_calm d s (with_failed number) (failed_calm number))
    (submitted_calm (with_state d s (with_failed number)) after (λ r. r == s) is)

pub fails_results :
    (d : DagData) (s number : ℕ) (verdict : Verdict) (after : DagData)
    → FailsStage d s number verdict after → SameResults d after
fails_results d s number verdicts.Limit after (often, is) =
    subst (λ x. SameResults d x) (sym is) (state_results d s (with_failed number) (λ state. refl))
fails_results d s number verdicts.Again after (often, is) =
    results_then d (with_state d s (with_failed number)) after
    (state_results d s (with_failed number) (λ state. refl))
    (submitted_results (with_state d s (with_failed number)) after (λ r. r == s) is)
