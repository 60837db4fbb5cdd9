use Rattle.std.proofs.Common.{◌≡◌, ◌≤◌, length, map, vec_capacity}
use Rattle.sc_exec.specs.Crews.{worker_of}
use Rattle.sc_exec.proofs.crews.dismiss.Given as goal

abbrev pub invariant-loop-member : goal.invariant-loop-member
invariant-loop-member g l =
    (goal.iterator-loop-member g).can_next l.member-iterator
    × (goal.iterator-loop-member g).is_finite l.member-iterator
    × (l.workers.items ≡ map worker_of l.yielded)
    × (length l.fn.members.items ≤ vec_capacity l.workers)
