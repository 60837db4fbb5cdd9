use Rattle.std.proofs.Common.{◌≡◌, ◌≤◌, length, vec_capacity}
use Rattle.sc_exec.specs.Workers.{lefts_of, logs_of}
use Rattle.sc_exec.proofs.workers.into_logs.Given as goal

abbrev pub invariant-loop-worker : goal.invariant-loop-worker
invariant-loop-worker l =
    (goal.iterator-loop-worker).can_next l.worker-iterator
    × (goal.iterator-loop-worker).is_finite l.worker-iterator
    × (l.logs.items ≡ logs_of l.yielded) × (l.lefts.items ≡ lefts_of l.yielded)
    × (length l.fn.workers.items ≤ vec_capacity l.logs)
    × (length l.fn.workers.items ≤ vec_capacity l.lefts)
