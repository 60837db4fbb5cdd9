use Rattle.std.proofs.Common.{◌≡◌, ◌≤◌, length, vec_capacity}
use Rattle.sc_context.proofs.starts.locked.Given as goal

abbrev pub invariant-loop-store : goal.invariant-loop-store
invariant-loop-store g l =
    (goal.iterator-loop-store g).can_next l.store-iterator
    × (goal.iterator-loop-store g).is_finite l.store-iterator
    × (length l.room.items ≡ length l.yielded)
    × (length l.fn.stores.items ≤ vec_capacity l.room)
