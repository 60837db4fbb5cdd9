use Rattle.std.proofs.Common.{◌≡◌, length, true}
use Rattle.crossbeam_queue.specs.Passes.{IsPassOf, view}
use Rattle.sc_queue.specs.Rule.{as_list, is_driver}
use Rattle.sc_exec.specs.Draining.{Gains, kept_of}
use Rattle.sc_exec.proofs.drains.drain_into.Given as goal

abbrev pub invariant-loop : goal.invariant-loop
invariant-loop g l =
    let was = l.fn in
    Gains g.W.Naming.work (kept_of was.desk.desk was.held (view was.pass))
    (kept_of l.desk.desk l.held (view l.pass)) (as_list l.held)
    × IsPassOf l.queue l.pass × (is_driver (view l.pass) ≡ true)
    × (l.before ≡ length was.desk.desk.journal.entries)
