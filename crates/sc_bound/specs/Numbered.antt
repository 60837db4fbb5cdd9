-- The task sets of a job, by their stages and the numbers of their attempts.
use Rattle.std.specs.Prelude.{ℕ, Option, Some, None, slice_get}
use Rattle.sc_taskset.specs.TaskSetData.{TaskSetData}
use Rattle.sc_dag.specs.DagData.{DagData, StageState, attempt_in, set_in}

-- the task set of the attempt of a number, of a stage that may be there
abbrev pub set_numbered : Option StageState → ℕ → Option TaskSetData
set_numbered None number = None
set_numbered (Some state) number = set_in (attempt_in state number)

abbrev pub set_at : DagData → ℕ → ℕ → Option TaskSetData
set_at d stage number = set_numbered (slice_get d.states stage) number
