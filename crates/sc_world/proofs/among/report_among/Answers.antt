use Rattle.std.proofs.Common.{None, rules}
use Rattle.sc_world.proofs.CodeAmong.{is_busy, written_as}
use Rattle.sc_world.specs.declared.places.AttemptState.TheVariants as phases
use Rattle.sc_world.proofs.among.report_among.Goals as goal

pub returns-clause-gone : goal.returns-clause-gone
returns-clause-gone g c =
    written_as c.args.held.now.items c.args.exec c.index_mut.result.now c.take_report.new.self None
    (is_busy c.args.held.now.items c.args.exec phases.Reports c.requires.reports
    (λ e. search (rules, e)))
    c.index_mut.ensures.value c.take_report.ensures.empty
