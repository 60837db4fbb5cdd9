use Rattle.std.proofs.Common.{subst, sym}
use Rattle.sc_compute.specs.Inputs.{HasInputs}
use Rattle.sc_task.proofs.HandingLemmas.{parent_known}
use Rattle.sc_task.proofs.computing.made_to_map.Goals as goal

pub prepare-requires-clause-known : goal.prepare-requires-clause-known
prepare-requires-clause-known g c =
    parent_known c.args.work.now c.args.node c.args.side c.mapped_by.result
    c.is_sound.ensures.script c.requires.known c.requires.side c.mapped_by.ensures

pub prepare-requires-clause-inputs : goal.prepare-requires-clause-inputs
prepare-requires-clause-inputs g c =
    subst (HasInputs c.args.work.now c.args.stages) (sym c.mapped_by.ensures) c.requires.inputs
