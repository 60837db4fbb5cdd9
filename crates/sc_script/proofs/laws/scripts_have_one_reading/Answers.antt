use Rattle.sc_script.proofs.OneReading.{one_reading}
use Rattle.sc_script.proofs.laws.scripts_have_one_reading.Goals as goal

pub returns : goal.returns
returns c = one_reading
