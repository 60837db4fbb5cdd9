-- Executors with their logs, once they take no more tasks.
use Rattle.std.specs.Prelude.{ℕ, ◌≡◌, ◌<◌, List, length, map}
use Rattle.std.specs.List.{slice_index_or}
use Rattle.sc_lineage.specs.ScriptData.{WorkData}
use Rattle.sc_exec.specs.Lefts.{IsCause}
use Rattle.sc_exec.specs.declared.lefts.Left.{Left}
use Rattle.sc_exec.specs.declared.workers.Worker.{Worker}
use Rattle.sc_logs.specs.declared.logs.ExecLog.{ExecLog}

abbrev pub logs_of : List Worker → List ExecLog
logs_of workers = map (λ w. w.log) workers

abbrev pub lefts_of : List Worker → List Left
lefts_of workers = map (λ w. w.left) workers

-- why an executor takes no more tasks is as its log tells
abbrev pub HasCause : WorkData → Worker → Type 0
HasCause work w = IsCause work w.log w.left

-- each of so many executors has one, at its place
pub record AreInPlace (executors : ℕ) (workers : List Worker) : Type 0 where
  pub many : length workers ≡ executors
  pub place : (exec : ℕ) (d : Worker) → exec < length workers
      → (slice_index_or workers exec d).log.exec ≡ exec
