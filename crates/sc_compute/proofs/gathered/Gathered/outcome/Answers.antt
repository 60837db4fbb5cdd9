use Rattle.std.proofs.Common.{subst}
use Rattle.sc_lineage.specs.Actions.{rows_together}
use Rattle.sc_compute.specs.Gathering.{IsGathered}
use Rattle.sc_compute.proofs.ResultLemmas.{saves_settle}
use Rattle.sc_compute.proofs.gathered.Gathered.outcome.Goals as goal

pub returns-in-Saves : goal.returns-in-Saves
returns-in-Saves c = λ action rows is.
    saves_settle action rows (rows_together rows)
    (subst (λ g. IsGathered action g (rows_together rows)) c.in-Saves.is is)
