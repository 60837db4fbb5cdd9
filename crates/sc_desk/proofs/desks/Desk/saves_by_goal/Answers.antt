use Rattle.std.proofs.Common.{◌∙◌, ap}
use Rattle.sc_core.specs.Posts.{is_save}
use Rattle.sc_core.proofs.IsSaveLemmas.{opened_saving}
use Rattle.sc_history.proofs.SavingLemmas.{saves_stay}
use Rattle.sc_jobs.specs.JobData.{saves}
use Rattle.sc_desk.proofs.desks.Desk.saves_by_goal.Goals as goal

pub returns : goal.returns
returns g c =
    let is = c.self.invariant in
    let opened = is.opened in
    let j = c.self.inside.journal.0 in
    rw (← c.self.view_is)
    (saves_stay j.opening j.core j.entries c.is_replay.ensures
    ∙ ap is_save opened.committers
    ∙ opened_saving (saves g.W.Naming.work c.self.inside.job.goal) j.opening is.began opened.job)
