-- Every call keeps what holds of every job.
use Rattle.std.proofs.Common.{ℕ, ◌≡◌, ◌<◌, ◌-◌, IfSome, Option, Some, None, length, slice_get, ap, refl, ◌∙◌}
use Rattle.sc_taskset.specs.declared.tasks.Verdict.{Verdict}
use Rattle.sc_taskset.specs.declared.tasks.Verdict.TheVariants.{Again, Limit}
use Rattle.std.proofs.Common.{subst, sym}
use Rattle.sc_dag.specs.DagData.{DagData, with_state, StageState, place_of_attempt, set_in}
use Rattle.sc_dag.specs.Laws.{CallsKeepSound, IsChargeable}
use Rattle.sc_dag.specs.Reports.{FailsStage, completed, with_failed}
use Rattle.sc_dag.specs.Sound.{IsSoundDag}
use Rattle.sc_dag.specs.Submission.{this_stage, waiting_stages}
use Rattle.sc_dag.proofs.Keeping.{completed_sound, failed_sound, handed_sound, hold_sound, with_failed_sound}
use Rattle.sc_dag.proofs.SoundLosses.{lost_sound_dag, seen_sound}
use Rattle.sc_dag.proofs.SoundResults.{result_success_sound}
use Rattle.sc_dag.proofs.SoundSubmissions.{submitted_sound}
use Rattle.sc_dag.proofs.SoundSuccesses.{map_success_sound}
use Rattle.sc_dag.specs.Offers.{number_in}
use Rattle.sc_dag.proofs.Moving.{newest_among}
use Rattle.sc_dag.proofs.Runners.{place_newest}
use Rattle.sc_dag.specs.declared.attempts.StageAttempt.{StageAttempt}

pub calls_keep_sound : CallsKeepSound
calls_keep_sound d sound = (
  λ submitted after is. submitted_sound d submitted after sound is,
  λ a exec now may. handed_sound d a exec now sound may,
  λ a loc epoch now kind runs. map_success_sound d a loc epoch now sound kind runs,
  λ a exec now kind runs. result_success_sound d a exec now sound kind runs,
  λ a cause. failed_sound d a cause sound,
  fails,
  λ s after is. submitted_sound (with_state d s completed)
      (waiting_stages (with_state d s completed)) after (completed_sound d s sound) is,
  λ s p denied. hold_sound d s p denied sound,
  λ exec found. seen_sound d exec found sound,
  λ exec live. lost_sound_dag d exec sound live,
)
  where
    may : (s number : ℕ) → IsChargeable d s number → (state : StageState)
        → slice_get d.states s ≡ Some state
        → (place_of_attempt state number ≡ length state.attempts - 1)
        × IfSome (slice_get state.attempts (length state.attempts - 1))
        (λ a. a.set.born < d.tracker.epoch)
    may s number charge state at = (
      place_newest state number (charge.newest ∙ ap number_in at),
      by (slice_get state.attempts (length state.attempts - 1)) refl
          (subst (λ o. IfSome o (λ set. set.born < d.tracker.epoch))
          (ap newest_among at) charge.begun),
    )
      where
        by : (o : Option StageAttempt)
            → slice_get state.attempts (length state.attempts - 1) ≡ o
            → IfSome (set_in o) (λ set. set.born < d.tracker.epoch)
            → IfSome o (λ a. a.set.born < d.tracker.epoch)
        by None e h = tt
        by (Some a) e h = h

    fails : (s number : ℕ) (verdict : Verdict) (after : DagData) → IsChargeable d s number
        → FailsStage d s number verdict after → IsSoundDag after
    fails s number Limit after charge is =
        subst IsSoundDag (sym is.1) (with_failed_sound d s number sound (may s number charge))
    fails s number Again after charge is =
        submitted_sound (with_state d s (with_failed number)) (this_stage s) after
        (with_failed_sound d s number sound (may s number charge)) is.1
