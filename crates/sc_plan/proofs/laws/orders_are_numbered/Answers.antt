use Rattle.sc_plan.proofs.NumberingLemmas.{numbered}
use Rattle.sc_plan.proofs.laws.orders_are_numbered.Goals as goal

pub returns : goal.returns
returns c = numbered
