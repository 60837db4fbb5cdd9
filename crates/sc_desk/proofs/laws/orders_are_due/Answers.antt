use Rattle.sc_desk.proofs.OrderLemmas.{next_orders_are_due}
use Rattle.sc_desk.proofs.laws.orders_are_due.Goals as goal

pub returns : goal.returns
returns c = next_orders_are_due
