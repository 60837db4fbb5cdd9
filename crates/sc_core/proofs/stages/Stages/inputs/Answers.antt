use Rattle.std.proofs.Common.{◌∙◌}
use Rattle.sc_core.proofs.KeptLemmas.{put_inputs}
use Rattle.sc_core.proofs.stages.Stages.inputs.Goals as goal

pub invariant_of-self-2 : goal.invariant_of-self-2
invariant_of-self-2 c =
    put_inputs c.self.inside.dag.0 c.self.inside.kept c.put.new.self c.args.stage
    c.in_ok-share.field-0 c.self.invariant c.put.ensures
    (c.in_ok-share.ensures ∙ c.in_ok-inputs-2.ensures ∙ c.in_ok-inputs_in.ensures)
