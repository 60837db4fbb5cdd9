-- Executors that were told lost, as a plan says.
use Rattle.std.proofs.Common.{◌≡◌, ℕ, zero, suc, ◌<◌, Bool, true, false, List, [], ◌∷◌, length, refl, subst, arith}
use Rattle.std.proofs.lemmas.Bool.{and_parts, false≢true}
use Rattle.sc_core.specs.CoreData.{CoreData}
use Rattle.sc_core.specs.Losses.{is_due_after}
use Rattle.sc_core.specs.Sound.{IsSoundCore}
use Rattle.sc_plan.specs.Orders.{loss_of}
use Rattle.sc_plan.specs.declared.lines.PlanLine.{PlanLine}
use Rattle.sc_tracker.specs.Trust.{are_lost, trust_at}
use Rattle.sc_tracker.specs.declared.trust.Trust.{Trust}
use Rattle.sc_causes.specs.Losses.{EmptyPlansLoseNone, PlannedLossesAlone}

-- where all are lost each one is
each_lost : (trust : List Trust) (exec : ℕ) → are_lost trust ≡ true → exec < length trust
    → (trust_at trust exec).lost ≡ true
each_lost [] exec all within = absurd (omega arith)
each_lost (t ∷ trust) zero all within = (and_parts t.lost (are_lost trust) all).0
each_lost (t ∷ trust) (suc exec) all within =
    each_lost trust exec (and_parts t.lost (are_lost trust) all).1 (omega arith)

pub planned_losses_alone : PlannedLossesAlone
planned_losses_alone plan end exec sound same all within =
    let lost = each_lost end.dag.tracker.trust exec all within in
    let P : List PlanLine → Type 0 = λ lines. is_due_after (loss_of lines exec) end.told ≡ true in
    record { lost = lost; due = subst P same (sound.lost exec lost) }

pub empty_plans_lose_none : EmptyPlansLoseNone
empty_plans_lose_none = record {
  none = λ exec. refl;
  left = λ end sound same some. decided end sound same some (are_lost end.dag.tracker.trust) refl;
}
  where
    decided : (end : CoreData) → IsSoundCore end → end.plan ≡ [] → 0 < length end.dag.tracker.trust
        → (b : Bool) → are_lost end.dag.tracker.trust ≡ b → b ≡ false
    decided end sound same some false all = refl
    decided end sound same some true all =
        absurd (false≢true (planned_losses_alone [] end 0 sound same all some).due)
