use Rattle.std.proofs.Common.{◌≡◌, All}
use Rattle.sc_exec.specs.Workers.{AreInPlace}
use Rattle.sc_exec.specs.Working.{IsFresh}
use Rattle.sc_rows.proofs.executors.crew.Given as goal

abbrev pub invariant-loop-exec : goal.invariant-loop-exec
invariant-loop-exec g l =
    record {
      fresh : All (IsFresh l.fn.executors) l.workers.items;
      places : AreInPlace l.exec l.workers.items;
    }
