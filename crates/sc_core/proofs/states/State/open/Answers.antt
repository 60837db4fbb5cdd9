use Rattle.std.proofs.Common.{subst, sym}
use Rattle.sc_dag.specs.Openings.{FitsJob}
use Rattle.sc_tracker.specs.TrackerData.{TrackerData}
use Rattle.sc_core.proofs.states.State.open.Goals as goal

pub open_with-requires-clause-fits : goal.open_with-requires-clause-fits
open_with-requires-clause-fits c =
    subst (λ (t : TrackerData). FitsJob t c.args.graph.now) (sym c.in_ok-tracker.ensures)
    c.requires.fits
