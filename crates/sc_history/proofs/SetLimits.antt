-- The task sets of a job have its limits.
use Rattle.std.proofs.Common.{◌≡◌, ℕ, Bool, List, Option, Some, None, IfSome, slice_get, refl, ap, sym, ◌∙◌, rules}
use Rattle.sc_ids.specs.Graphs.{StageData}
use Rattle.sc_ids.specs.declared.attempts.AttemptId.{AttemptId}
use Rattle.sc_ids.specs.declared.limits.Limits.{Limits}
use Rattle.sc_plan.specs.declared.lines.PlanLine.{PlanLine}
use Rattle.sc_taskset.specs.TaskSetData.{TaskSetData}
use Rattle.sc_dag.specs.DagData.{DagData, StageState, attempt_in, set_in}
use Rattle.sc_dag.specs.Reports.{set_of}
use Rattle.sc_dag.specs.declared.attempts.StageAttempt.{StageAttempt}
use Rattle.sc_core.specs.CoreData.{CoreData}
use Rattle.sc_core.specs.Openings.{IsOpening}
use Rattle.sc_core.specs.Steps.{Steps}
use Rattle.sc_core.specs.declared.answers.Answer.{Answer}
use Rattle.sc_core.specs.declared.events.Event.{Event}
use Rattle.sc_core.proofs.LookupLemmas.{set_among}
use Rattle.sc_history.proofs.Growing.{IsCalm, Slot, attempt_among, numbered_slot}
use Rattle.sc_history.proofs.GrowingCalls.{steps_grow}
use Rattle.sc_history.proofs.Starting.{opening_slot}

SameLimits : StageAttempt → StageAttempt → Type 0
SameLimits x y = y.set.limits ≡ x.set.limits

HasLimits : Limits → StageAttempt → Type 0
HasLimits L x = x.set.limits ≡ L

limits_calm : (L : Limits) → IsCalm SameLimits (HasLimits L) L
unfolding SameLimits HasLimits
limits_calm L =
    record {
      same = λ x. refl;
      chain = λ x y z h k. k ∙ h;
      hands = λ x p exec now. refl;
      succeeds = λ x p nth now. refl;
      ends = λ x p nth. refl;
      holds = λ x p denied. refl;
      loses = λ x exec. refl;
      stops = λ x. refl;
      forgives = λ x. refl;
      begins = λ t stage results held. refl;
      stays = λ x y h k. h ∙ k;
    }

-- all sets have these limits
abbrev pub HaveLimits : Limits → DagData → Type 0
HaveLimits L d =
    (s k : ℕ) → IfSome (attempt_among (slice_get d.states s) k) (λ x. x.set.limits ≡ L)

pub limits_kept : (L : Limits) (c after : CoreData) (event : Event) (answer : Answer)
    → c.dag.limits ≡ L → Steps c event answer after → HaveLimits L c.dag
    → HaveLimits L after.dag
unfolding SameLimits HasLimits
limits_kept L c after event answer same step have s k =
    by (attempt_among (slice_get c.dag.states s) k) (attempt_among (slice_get after.dag.states s) k)
    (numbered_slot SameLimits (HasLimits L) (slice_get c.dag.states s)
    (slice_get after.dag.states s) k
    (steps_grow SameLimits (HasLimits L) L (limits_calm L) (λ x. refl)
    (λ x p nth cause. refl) c after event answer same step s))
    (have s k)
  where
    by : (o x : Option StageAttempt) → Slot SameLimits (HasLimits L) o x
        → IfSome o (λ y. y.set.limits ≡ L) → IfSome x (λ y. y.set.limits ≡ L)
    by None None q h = tt
    by None (Some y) q h = q
    by (Some x) None q h = absurd q
    by (Some x) (Some y) q h = q ∙ h

pub limits_begin :
    (graph : List StageData) (limits : Limits) (saved : Bool) (plan : List PlanLine)
    (last : Option CoreData) (c : CoreData) → IsOpening graph limits saved plan last c
    → HaveLimits limits c.dag
unfolding SameLimits HasLimits
limits_begin graph limits saved plan last c o s k =
    by (attempt_among (slice_get c.dag.states s) k)
    (opening_slot SameLimits (HasLimits limits) graph limits saved plan last c
    (limits_calm limits) o s k)
  where
    by : (x : Option StageAttempt) → Slot SameLimits (HasLimits limits) None x
        → IfSome x (λ y. y.set.limits ≡ limits)
    by None q = tt
    by (Some y) q = q

-- the set of an attempt
pub limits_of_set : (L : Limits) (d : DagData) (a : AttemptId) (set : TaskSetData)
    → HaveLimits L d → set_of d a ≡ Some set → set.limits ≡ L
limits_of_set L d a set have e =
    state (slice_get d.states a.stage) (have a.stage a.stage_attempt) e
  where
    one : (o : Option StageAttempt) → IfSome o (λ x. x.set.limits ≡ L) → set_in o ≡ Some set
        → set.limits ≡ L
    one None h is = absurd (search (rules, is))
    one (Some x) h is =
        let same : x.set ≡ set = search (rules, is) in
        ap (λ (s : TaskSetData). s.limits) (sym same) ∙ h

    state : (o : Option StageState) → IfSome (attempt_among o a.stage_attempt)
        (λ x. x.set.limits ≡ L) → set_among o a.stage_attempt ≡ Some set → set.limits ≡ L
    state None h is = absurd (search (rules, is))
    state (Some x) h is = one (attempt_in x a.stage_attempt) h is
