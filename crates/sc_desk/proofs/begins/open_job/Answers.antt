use Rattle.std.proofs.Common.{◌∙◌, ap, length, refl}
use Rattle.std.specs.Option.{option_map}
use Rattle.sc_desk.specs.Begins.{begun_desk}
use Rattle.sc_desk.specs.DeskData.{passed_data}
use Rattle.sc_desk.proofs.BeginLemmas.{fresh_sound}
use Rattle.sc_desk.proofs.begins.open_job.Goals as goal

pub returns-clause-sound : goal.returns-clause-sound
returns-clause-sound g c =
    fresh_sound g.W.Naming.work
    (begun_desk c.in_ok-job.job c.in_ok-begun.begun.journal.0 c.in_ok-begun.begun.results.items
    (passed_data c.plan.new.carried c.passed.inside.ordered))
    (option_map (λ l. l.now) c.args.last) c.is_job.ensures c.requires.fits
    c.in_ok-begun.ensures.sound c.in_ok-begun.ensures.fresh c.in_ok-begun.ensures.results
    refl c.in_ok-job.ensures.carried_on c.in_ok-job.ensures.still_right
    (ap (λ p. length p.ordered) c.passed.view_is ∙ c.requires.passed.many)
