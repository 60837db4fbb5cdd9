use Rattle.std.proofs.Common.{◌≡◌, ℕ, ◌<◌, None}
use Rattle.sc_desk.specs.Orders.{order_at}
use Rattle.sc_desk.proofs.orders.Orders.first_due.Given as goal

abbrev pub invariant-loop-exec : goal.invariant-loop-exec
invariant-loop-exec l =
    (exec : ℕ) → exec < l.exec
    → order_at l.fn.plan l.fn.told l.self-inside.given.items exec ≡ None
