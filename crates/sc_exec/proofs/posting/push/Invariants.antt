use Rattle.std.proofs.Common.{◌≡◌}
use Rattle.crossbeam_queue.specs.Passes.{view}
use Rattle.sc_queue.specs.Rule.{pushed_of}
use Rattle.sc_exec.proofs.posting.push.Given as goal

abbrev pub invariant-loop : goal.invariant-loop
invariant-loop g l =
    (l.report ≡ l.fn.report) × (l.poster.exec ≡ l.fn.poster.exec)
    × (pushed_of (view l.poster.pass) ≡ pushed_of (view l.fn.poster.pass))
