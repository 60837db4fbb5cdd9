-- What one change makes of a stage, or of an attempt of one.
use Rattle.std.specs.Prelude.{◌-◌, length, map}
use Rattle.sc_ids.specs.Changes.{change_at}
use Rattle.sc_taskset.specs.Reports.{after_end, after_held, after_loss, after_success, as_zombie}
use Rattle.sc_dag.specs.DagData.{StageState, place_of_attempt, with_attempts, with_set}
use Rattle.sc_dag.specs.Reports.{completed, failed_attempt, forgiven, told_held, with_result}
use Rattle.sc_dag.specs.Submission.{as_waiting}
use Rattle.sc_dag.specs.declared.attempts.AttemptChange.{AttemptChange}
use Rattle.sc_dag.specs.declared.attempts.AttemptChange.TheVariants as attempts
use Rattle.sc_dag.specs.declared.attempts.StageAttempt.{StageAttempt}
use Rattle.sc_dag.specs.declared.changes.RowChange.{RowChange}
use Rattle.sc_dag.specs.declared.changes.RowChange.TheVariants as rows

-- an attempt of a stage that was changed
abbrev pub attempt_by : AttemptChange → StageAttempt → StageAttempt
attempt_by (attempts.Success partition nth now) =
    with_set (λ set. after_success set partition nth now)
attempt_by (attempts.End partition nth) = with_set (λ set. after_end set partition nth)
attempt_by (attempts.Held partition denied) = with_set (λ set. after_held set partition denied)
attempt_by attempts.Zombie = with_set as_zombie
attempt_by attempts.Failed = failed_attempt
attempt_by attempts.Forgiven = forgiven
attempt_by (attempts.Lost exec) = with_set (λ set. after_loss set exec)

-- a stage that was changed
abbrev pub state_by : RowChange → StageState → StageState
state_by (rows.Own number change) =
    λ state. with_attempts state
    (change_at state.attempts (place_of_attempt state number) (attempt_by change))
state_by (rows.Newest change) =
    λ state. with_attempts state
    (change_at state.attempts (length state.attempts - 1) (attempt_by change))
state_by (rows.All change) =
    λ state. with_attempts state (map (attempt_by change) state.attempts)
state_by (rows.HasResult partition) = with_result partition
state_by (rows.Held partition denied) = told_held partition denied
state_by rows.Waits = as_waiting
state_by rows.Complete = completed
