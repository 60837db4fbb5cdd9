use Rattle.std.proofs.Common.{◌≡◌, length}
use Rattle.crossbeam_queue.specs.Passes.{view}
use Rattle.sc_queue.specs.Rule.{pushed_of}
use Rattle.sc_queue.proofs.relays.send_all.Given as goal

abbrev pub invariant-loop-i : goal.invariant-loop-i
invariant-loop-i g l =
    (l.poster.exec ≡ l.fn.poster.exec) × (length (pushed_of (view l.poster.pass)) ≡ l.i)
