use Rattle.std.proofs.Common.{◌≡◌}
use Rattle.crossbeam_queue.specs.Passes.{view}
use Rattle.sc_queue.specs.Rule.{pushed_of}
use Rattle.sc_exec.specs.Receipts.{Awaits}
use Rattle.sc_exec.specs.Sending.{IsLastSent}
use Rattle.sc_exec.proofs.work.work_loop.Given as goal

abbrev pub invariant-loop : goal.invariant-loop
invariant-loop g l =
    (goal.iterator-loop g).can_next l.iterator' × (goal.iterator-loop g).is_finite l.iterator'
    × (l.log.exec ≡ l.fn.log.exec) × Awaits l.sent l.log
    × IsLastSent l.sent (pushed_of (view l.poster.pass))
