use Rattle.std.specs.Option.{option_map}
use Rattle.sc_jobs.specs.JobData.{saves}
use Rattle.sc_desk.specs.Begins.{left_for}
use Rattle.sc_desk.proofs.AgainLemmas.{left_fits, left_well}
use Rattle.sc_desk.proofs.BeginLemmas.{opened_alike}
use Rattle.sc_desk.proofs.begins.journal_of.Goals as goal

pub begin-requires : goal.begin-requires
begin-requires g c =
    let work = g.W.Naming.work in
    let before = option_map (λ l. l.now) c.args.last in
    opened_alike work work.limits c.args.job.now (saves work c.args.job.now.goal)
    (left_for c.args.again before) c.in_ok-core.core c.in_ok-opening.opening c.is_job.ensures
    (left_fits work c.args.again before c.requires.fits)
    (left_well c.args.again before c.are_sound.ensures) c.in_ok-core.ensures
    c.in_ok-opening.ensures
