use Rattle.std.proofs.Common.{arith}
use Rattle.sc_plan.specs.Orders.{wipes_of}
use Rattle.sc_world.proofs.CodeOrders.{is_known}
use Rattle.sc_world.proofs.worlds.World.is_wipe_due.Goals as goal

pub wipe_order-requires-clause-known_number : goal.wipe_order-requires-clause-known_number
wipe_order-requires-clause-known_number g c =
    let count = c.due_wipes-due.ensures.count in
    is_known (wipes_of c.plan-plan.result.now c.args.order.exec) c.told.result c.args.order.number
    (omega (arith, count))
