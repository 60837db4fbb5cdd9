use Rattle.std.proofs.Common.{ap, subst, true}
use Rattle.std.specs.Option.{option_map}
use Rattle.sc_jobs.specs.JobData.{JobData}
use Rattle.sc_desk.specs.Begins.{left_for}
use Rattle.sc_desk.specs.DeskData.{DeskData, desk_data}
use Rattle.sc_desk.specs.Sound.{AreEvident}
use Rattle.sc_desk.proofs.AgainLemmas.{left_fits}
use Rattle.sc_desk.proofs.BeginLemmas.{fresh_sound}
use Rattle.sc_desk.proofs.EvidenceLemmas.{evident_as}
use Rattle.sc_desk.proofs.desks.Desk.again.Goals as goal

pub invariant_of-begun : goal.invariant_of-begun
invariant_of-begun g c =
    let work = g.W.Naming.work in
    let last = option_map (λ l. l.now) c.args.last in
    fresh_sound work
    (desk_data c.self.inside.job c.self.inside.carried c.in-Ok.begun.journal.0
    c.in-Ok.begun.results.items c.new.result.items c.args.ordered) (left_for true last)
    c.is_job.ensures (left_fits work true last c.requires.fits) c.in-Ok.ensures.sound
    c.in-Ok.ensures.fresh c.in-Ok.ensures.results c.new.ensures.items c.self.invariant.carried
    c.self.invariant.bounds c.requires.many

pub returns-clause-evidence : goal.returns-clause-evidence
returns-clause-evidence g c = λ is.
    let j = c.self.inside.journal.0 in
    let history = c.close-history.result in
    subst (λ (x : JobData). AreEvident g.W.Naming.work x history.opening history.entries.items
    history.end is) (ap (λ (d : DeskData). d.job) c.self.view_is)
    (evident_as g.W.Naming.work c.self.inside.job j.opening history.opening j.core history.end
    j.entries history.entries.items c.close-history.ensures.opening
    c.close-history.ensures.entries c.close-history.ensures.end c.self.invariant.evidence is)
