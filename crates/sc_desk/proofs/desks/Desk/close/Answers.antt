use Rattle.std.proofs.Common.{subst, sym}
use Rattle.sc_core.proofs.LimitLemmas.{done_jobs_are_whole}
use Rattle.sc_core.specs.CoreData.{CoreData}
use Rattle.sc_core.specs.Sound.{IsSoundCore}
use Rattle.sc_desk.specs.Begins.{FitsRun}
use Rattle.sc_desk.specs.DeskData.{desk_data}
use Rattle.sc_desk.proofs.EndLemmas.{all_there}
use Rattle.sc_desk.proofs.EvidenceLemmas.{evident_as}
use Rattle.sc_desk.proofs.desks.Desk.close.Goals as goal

pub returns-clause-whole : goal.returns-clause-whole
returns-clause-whole g c =
    rw (← c.self.view_is)
    (all_there done_jobs_are_whole g.W.Naming.work
    (desk_data c.self.inside.job c.self.inside.carried c.self.inside.journal.0
    c.self.inside.results.items c.self.inside.shelf.items c.self.inside.ordered) c.self.invariant
    (subst IsSoundCore c.core.ensures c.is_sound.ensures))

pub returns-clause-evidence : goal.returns-clause-evidence
returns-clause-evidence g c =
    let j = c.self.inside.journal.0 in
    evident_as g.W.Naming.work c.self.inside.job j.opening c.close-history.result.opening j.core
    c.close-history.result.end j.entries c.close-history.result.entries.items
    c.close-history.ensures.opening c.close-history.ensures.entries c.close-history.ensures.end
    c.self.invariant.evidence

pub returns-clause-fits : goal.returns-clause-fits
returns-clause-fits g c =
    let is = c.self.invariant in
    subst (λ (x : CoreData). FitsRun g.W.Naming.work x) (sym c.close-history.ensures.end)
    (record { tracker = is.fits; execs = is.execs; plan = is.plan; seen = is.seen })
