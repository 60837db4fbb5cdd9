use Rattle.sc_core.proofs.LawLemmas.{side_events_stay_aside}
use Rattle.sc_core.proofs.laws.side_events_stay_aside.Goals as goal

pub returns : goal.returns
returns c = side_events_stay_aside
