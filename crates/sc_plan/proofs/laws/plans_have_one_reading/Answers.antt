use Rattle.sc_plan.proofs.OneReading.{one_reading}
use Rattle.sc_plan.proofs.laws.plans_have_one_reading.Goals as goal

pub returns : goal.returns
returns c = one_reading
