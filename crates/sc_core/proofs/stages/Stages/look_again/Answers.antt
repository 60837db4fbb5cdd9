use Rattle.std.proofs.Common.{◌∙◌, sym}
use Rattle.sc_dag.specs.DagData.{with_state}
use Rattle.sc_dag.specs.Outputs.{is_complete}
use Rattle.sc_dag.specs.Reports.{completed, is_finished_short}
use Rattle.sc_dag.specs.Submission.{this_stage, waiting_stages}
use Rattle.sc_core.proofs.KeptLemmas.{submitted_inputs}
use Rattle.sc_core.proofs.TellLemmas.{looks_complete, looks_short}
use Rattle.sc_core.proofs.stages.Stages.look_again.Goals as goal

pub invariant_of-self : goal.invariant_of-self
invariant_of-self c =
    let d = with_state c.self.inside.dag.0 c.args.stage completed in
    submitted_inputs d c.map_done.new.self.0 (waiting_stages d)
    c.self.inside.kept c.map_done.ensures c.self.invariant

pub invariant_of-self-then-is_finished_short : goal.invariant_of-self-then-is_finished_short
invariant_of-self-then-is_finished_short c =
    submitted_inputs c.self.inside.dag.0 c.submit.new.self.0 (this_stage c.args.stage)
    c.self.inside.kept c.submit.ensures c.self.invariant

pub returns-then-is_complete : goal.returns-then-is_complete
returns-then-is_complete c =
    let d = c.self.inside.dag.0 in
    rw (← c.self.view_is)
    (looks_complete (is_complete d c.args.stage) (is_finished_short d c.args.stage) d
    c.args.stage c.map_done.new.self.0 (sym c.is_complete.ensures ∙ c.if-is_complete.true)
    c.map_done.ensures)

pub returns-then-is_finished_short : goal.returns-then-is_finished_short
returns-then-is_finished_short c =
    let d = c.self.inside.dag.0 in
    rw (← c.self.view_is)
    (looks_short (is_complete d c.args.stage) (is_finished_short d c.args.stage) d
    c.args.stage c.submit.new.self.0 (sym c.is_complete.ensures ∙ c.if-is_complete.false)
    (sym c.is_finished_short.ensures ∙ c.if-is_finished_short.true) c.submit.ensures)
