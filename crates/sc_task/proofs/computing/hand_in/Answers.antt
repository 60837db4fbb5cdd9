use Rattle.std.proofs.Common.{◌∙◌, sym}
use Rattle.sc_task.proofs.HandingLemmas.{outputs_by}
use Rattle.sc_task.proofs.computing.hand_in.Goals as goal

pub hand_in-requires-clause-outputs : goal.hand_in-requires-clause-outputs
hand_in-requires-clause-outputs c =
    outputs_by c.args.work.now c.args.stage.now c.in-Map.shuffle c.args.outputs.now
    c.in_ok-outputs-in-Map.outputs.items c.requires.stage (sym c.target.ensures ∙ c.in-Map.is)
    c.requires.of c.in_ok-outputs-in-Map.ensures
