use Rattle.std.proofs.Common.{◌≡◌, ◌≤◌, All, length, map, true, vec_capacity}
use Rattle.crossbeam_queue.specs.Passes.{IsPassOf, view}
use Rattle.sc_queue.specs.Rule.{is_driver, made_of}
use Rattle.sc_exec.specs.Crews.{IsMarked, worker_of}
use Rattle.sc_exec.proofs.crews.enlist.Given as goal

abbrev pub invariant-loop-worker : goal.invariant-loop-worker
invariant-loop-worker g l =
    (goal.iterator-loop-worker g).can_next l.worker-iterator
    × (goal.iterator-loop-worker g).is_finite l.worker-iterator
    × IsPassOf l.queue l.pass × (is_driver (view l.pass) ≡ true)
    × (made_of (view l.pass) ≡ length l.yielded)
    × (map worker_of l.members.items ≡ l.yielded) × All IsMarked l.members.items
    × (length l.fn.workers.items ≤ vec_capacity l.members)
