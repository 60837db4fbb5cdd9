use Rattle.std.proofs.Common.{Option, IfOk, option_map, subst}
use Rattle.sc_core.specs.CoreData.{CoreData}
use Rattle.sc_core.specs.Openings.{IsOpening}
use Rattle.sc_core.proofs.LeavingLemmas.{last_leaves_well}
use Rattle.sc_history.proofs.OpeningLemmas.{openings_agree}
use Rattle.sc_rows.proofs.jobs.begun.Goals as goal

pub begin-requires : goal.begin-requires
begin-requires g c =
    let before : Option CoreData = option_map (λ l. l.now) c.args.last in
    openings_agree c.args.graph.now c.args.limits c.args.saves c.args.plan.now before
    c.expect-core.result c.expect-opening.result c.requires.job c.requires.fits
    (last_leaves_well before c.is_live_behind.ensures.sound)
    (subst (λ r. IfOk r
    (λ k. IsOpening c.args.graph.now c.args.limits c.args.saves c.args.plan.now before k))
    c.expect-core.ensures c.open-2.ensures)
    (subst (λ r. IfOk r
    (λ k. IsOpening c.args.graph.now c.args.limits c.args.saves c.args.plan.now before k))
    c.expect-opening.ensures c.open.ensures)
