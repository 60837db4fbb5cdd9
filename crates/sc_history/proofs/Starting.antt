-- The attempts of a job that begins are new.
use Rattle.std.proofs.Common.{◌≡◌, ℕ, zero, suc, ◌+◌, Bool, List, [], ◌∷◌, Option, None, slice_get, refl, subst}
use Rattle.sc_ids.specs.Graphs.{StageData}
use Rattle.sc_ids.specs.declared.limits.Limits.{Limits}
use Rattle.sc_plan.specs.declared.lines.PlanLine.{PlanLine}
use Rattle.sc_dag.specs.DagData.{DagData}
use Rattle.sc_dag.specs.Openings.{blank_states}
use Rattle.sc_dag.specs.Submission.{this_stage}
use Rattle.sc_dag.specs.declared.attempts.StageAttempt.{StageAttempt}
use Rattle.sc_core.specs.CoreData.{CoreData, result_stage}
use Rattle.sc_core.specs.Openings.{IsOpening}
use Rattle.sc_history.proofs.Growing.{IsCalm, Slot, attempt_among, dag_submitted, numbered_slot}

-- stages that nothing was done for have no attempt
none_blank : (last : Option DagData) (n : ℕ) (stages : List StageData) (s k : ℕ)
    → attempt_among (slice_get (blank_states last n stages) s) k ≡ None
none_blank last n [] s k = refl
none_blank last n (stage ∷ stages) zero k = refl
none_blank last n (stage ∷ stages) (suc s) k = none_blank last (n + 1) stages s k

pub opening_slot : (A : StageAttempt → StageAttempt → Type 0) (New : StageAttempt → Type 0)
    (graph : List StageData) (limits : Limits) (saved : Bool) (plan : List PlanLine)
    (last : Option CoreData) (c : CoreData) → IsCalm A New limits
    → IsOpening graph limits saved plan last c → (s k : ℕ)
    → Slot A New None (attempt_among (slice_get c.dag.states s) k)
opening_slot A New graph limits saved plan last c calm o s k =
    subst (λ x. Slot A New x (attempt_among (slice_get c.dag.states s) k)) none
    (numbered_slot A New (slice_get o.dag.states s) (slice_get c.dag.states s) k
    (dag_submitted A New limits calm o.dag c.dag (this_stage (result_stage o.dag)) o.limits_are
    o.submits s))
  where
    none : attempt_among (slice_get o.dag.states s) k ≡ None
    none = rw (o.opens.states) (none_blank _ 0 o.dag.stages s k)
