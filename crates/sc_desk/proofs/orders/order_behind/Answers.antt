use Rattle.std.proofs.Common.{arith}
use Rattle.sc_plan.specs.Orders.{evicts_of, wipes_of}
use Rattle.sc_desk.proofs.OrderLemmas.{due_room}
use Rattle.sc_desk.proofs.orders.order_behind.Goals as goal

pub wipe_order-requires-clause-known_number : goal.wipe_order-requires-clause-known_number
wipe_order-requires-clause-known_number c =
    omega (
      arith,
      c.if-from-due_wipes.true,
      c.from.ensures,
      c.due_wipes.ensures.count,
      due_room (wipes_of c.args.plan.now c.args.exec) c.args.told,
    )

pub evict_order-requires-clause-known_number : goal.evict_order-requires-clause-known_number
evict_order-requires-clause-known_number c =
    omega (
      arith,
      c.if-from-due_evicts.true,
      c.from-else-from-due_wipes.ensures,
      c.due_evicts.ensures.count,
      due_room (evicts_of c.args.plan.now c.args.exec) c.args.told,
    )
