-- What a desk has forgotten over all jobs, and what it knows where a job begins again.
use Rattle.std.proofs.Common.{◌≤◌, List, sym, subst, arith}
use Rattle.sc_lineage.specs.ScriptData.{WorkData}
use Rattle.sc_plan.specs.Orders.{due_count, planned_losses, wipes_of}
use Rattle.sc_plan.specs.declared.lines.PlanLine.{PlanLine}
use Rattle.sc_tracker.specs.TrackerData.{trust_of}
use Rattle.sc_tracker.proofs.TrustLemmas.{later_same}
use Rattle.sc_bound.specs.Charged.{AreSeenInTime}
use Rattle.sc_bound.proofs.EventLemmas.{epochs_are_planned}
use Rattle.sc_desk.specs.DeskData.{DeskData, core_of}
use Rattle.sc_desk.specs.Sound.{IsSoundDesk}
use Rattle.sc_epochs.specs.Desks.{AgainGoesForward, DesksForgetAsPlanned}

-- what a desk has seen of stores came in time, as its core has the plan
pub seen_in_time : (work : WorkData) (d : DeskData) → IsSoundDesk work d
    → AreSeenInTime (core_of d)
seen_in_time work d sound exec =
    subst (λ (plan : List PlanLine).
    (trust_of (core_of d).dag.tracker exec).seen ≤ due_count (wipes_of plan exec) (core_of d).told)
    (sym sound.plan) (sound.seen exec)

pub desks_forget_as_planned : DesksForgetAsPlanned
desks_forget_as_planned work d core sound =
    subst (λ (plan : List PlanLine). (core_of d).dag.tracker.epoch ≤ planned_losses plan)
    sound.plan (epochs_are_planned (core_of d) core (seen_in_time work d sound))

pub again_goes_forward : AgainGoesForward
again_goes_forward t sound =
    record { epoch = omega arith; trust = λ exec. later_same (trust_of t exec) }
