-- Attempts of a stage in a list.
use Rattle.std.proofs.Common.{◌≡◌, ℕ, ◌<◌, List, ap, get_or, length}
use Rattle.std.proofs.Math.ListN.{set}
use Rattle.sc_ids.specs.Changes.{change_at}
use Rattle.sc_ids.proofs.ChangeLemmas.{set_changed}
use Rattle.sc_taskset.specs.TaskSetData.{TaskSetData}
use Rattle.sc_dag.specs.DagData.{stage_attempt, with_set}
use Rattle.sc_dag.specs.declared.attempts.StageAttempt.{StageAttempt}

-- an attempt whose task set was changed by a call
pub set_with_set :
    (xs : List StageAttempt) (i : ℕ) (x : StageAttempt) (s : TaskSetData)
    (f : TaskSetData → TaskSetData)
    → i < length xs → x ≡ get_or xs i x → s ≡ f x.set
    → set xs i (stage_attempt s x.has_failed) ≡ change_at xs i (with_set f)
set_with_set xs i x s f h e g =
    set_changed xs i x (stage_attempt s x.has_failed) (with_set f) h e
    (ap (λ t. stage_attempt t x.has_failed) g)
