use Rattle.std.proofs.Common.{◌∙◌, subst, arith}
use Rattle.sc_lineage.specs.ScriptData.{IsSoundWork}
use Rattle.sc_core.proofs.StaffLemmas.{first_has_live}
use Rattle.sc_rows.proofs.world_saves.again.Goals as goal

pub again-again-requires-clause-live : goal.again-again-requires-clause-live
again-again-requires-clause-live g c =
    let sound = subst IsSoundWork (c.get.ensures ∙ c.is_named.ensures) c.is_sound.ensures in
    let above = sound.limits.executors.above in
    first_has_live g.W.Naming.work.limits (omega (arith, above))
