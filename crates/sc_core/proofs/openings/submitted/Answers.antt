use Rattle.std.proofs.Common.{option_map}
use Rattle.sc_core.proofs.OpenLemmas.{begins_with}
use Rattle.sc_core.proofs.openings.submitted.Goals as goal

pub returns : goal.returns
returns c =
    begins_with c.args.graph.now c.args.limits (option_map (λ l. l.now.0.dag) c.args.last)
    (option_map (λ s. s.now.0) c.stages_behind.result) c.args.tracker c.in_ok-stages.stages.0
    c.prepare.new.self.0 c.submit_result.new.self.0 c.stages_behind.ensures
    c.in_ok-stages.ensures.opens c.in_ok-stages.ensures.limits c.prepare.ensures.same
    c.submit_result.ensures
