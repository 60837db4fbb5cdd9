use Rattle.std.specs.Option.{option_map}
use Rattle.sc_desk.proofs.BeginLemmas.{fits_job}
use Rattle.sc_desk.proofs.begins.core_behind.Goals as goal

pub open-requires-clause-fits : goal.open-requires-clause-fits
open-requires-clause-fits g c =
    rw c.graph-in_default.ensures
    (fits_job g.W.Naming.work c.limits-limits.result c.args.job.now
    (option_map (λ l. l.now) c.args.last) c.is_job.ensures c.requires.fits)
