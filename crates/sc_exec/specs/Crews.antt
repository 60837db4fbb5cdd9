-- Executors with their sides of the queue of reports.
use Rattle.std.specs.Prelude.{ℕ, ◌≡◌, ◌<◌, List, length}
use Rattle.std.specs.List.{slice_index_or}
use Rattle.sc_lineage.specs.ScriptData.{WorkData}
use Rattle.sc_exec.specs.Working.{HasWorked, IsFresh}
use Rattle.sc_exec.specs.declared.crews.Member.{Member}
use Rattle.sc_exec.specs.declared.workers.Worker.{Worker}

abbrev pub worker_of : {W J q : _} → Member W J q → Worker
worker_of m = m.worker

-- what an executor pushes is marked with it
abbrev pub IsMarked : {W J q : _} → Member W J q → Type 0
IsMarked m = m.poster.exec ≡ m.worker.log.exec

-- one of so many executors did nothing yet
abbrev pub IsFreshMember : {W J q : _} → ℕ → Member W J q → Type 0
IsFreshMember executors m = IsFresh executors m.worker × IsMarked m

-- it has worked since
abbrev pub HasWorkedMember : {W J q : _} → WorkData → Member W J q → Member W J q → Type 0
HasWorkedMember work m after = HasWorked work m.worker after.worker

-- each of them has
pub record HaveWorked {W J q : _} (work : WorkData) (ms after : List (Member W J q)) : Type 0
  where
    pub many : length after ≡ length ms
    pub each : (i : ℕ) (d : Member W J q) → i < length ms
        → HasWorkedMember work (slice_index_or ms i d) (slice_index_or after i d)
