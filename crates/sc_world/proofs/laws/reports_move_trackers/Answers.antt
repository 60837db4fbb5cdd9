use Rattle.sc_world.proofs.TrackLemmas.{reports_move_trackers}
use Rattle.sc_world.proofs.laws.reports_move_trackers.Goals as goal

pub returns : goal.returns
returns c = reports_move_trackers
