-- What the loss of outputs and executors leaves.
use Rattle.std.specs.Prelude.{ℕ, map}
use Rattle.sc_taskset.specs.Reports.{after_loss}
use Rattle.sc_tracker.specs.Tracking.{after_executor_lost, after_gone}
use Rattle.sc_dag.specs.DagData.{DagData, StageState, dag_data, with_attempts, with_set, with_tracker}

-- a fetch has shown a generation of an executor's store
abbrev pub after_seen : DagData → ℕ → ℕ → DagData
after_seen d exec found = with_tracker d (after_gone d.tracker exec found)

-- a stage whose task sets were told that an executor is lost
abbrev pub without_executor : ℕ → StageState → StageState
without_executor exec state =
    with_attempts state (map (with_set (λ set. after_loss set exec)) state.attempts)

-- an executor was told lost: its outputs are forgotten, and what ran on it runs no more
abbrev pub after_lost : DagData → ℕ → DagData
after_lost d exec =
    dag_data d.stages (map (without_executor exec) d.states) (after_executor_lost d.tracker exec)
    d.limits
