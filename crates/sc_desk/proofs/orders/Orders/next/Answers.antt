use Rattle.sc_desk.specs.Orders.{ordered_at}
use Rattle.sc_desk.proofs.OrderLemmas.{next_is}
use Rattle.sc_desk.proofs.orders.Orders.next.Goals as goal

pub count-requires : goal.count-requires
count-requires c =
    let order = c.in-Some.order in
    (next_is c.args.plan.now c.args.told order.exec (ordered_at c.args.self.now order.exec) order
    c.in-Some.ensures.due).number_is
