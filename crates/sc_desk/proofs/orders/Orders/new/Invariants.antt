use Rattle.std.proofs.Common.{◌≡◌, replicate}
use Rattle.sc_desk.specs.Orders.{no_orders}
use Rattle.sc_desk.proofs.orders.Orders.new.Given as goal

abbrev pub invariant-loop : goal.invariant-loop
invariant-loop l = l.given.items ≡ replicate l.counter no_orders
