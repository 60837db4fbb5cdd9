use Rattle.std.proofs.Common.{◌∙◌, subst, arith}
use Rattle.std.proofs.lemmas.Result.{IfOk-at_ok}
use Rattle.sc_lineage.specs.ScriptData.{IsSoundWork}
use Rattle.sc_core.proofs.StaffLemmas.{first_has_live}
use Rattle.sc_context.proofs.AloneLemmas.{again_stands}
use Rattle.sc_rows.proofs.WorldLemmas.{again_first}
use Rattle.sc_rows.proofs.alone.begun_again.Goals as goal

pub again-begun-requires-clause-live : goal.again-begun-requires-clause-live
again-begun-requires-clause-live g c =
    let sound = subst IsSoundWork (c.get.ensures ∙ c.is_named.ensures) c.is_sound.ensures in
    let above = sound.limits.executors.above in
    first_has_live g.W.Naming.work.limits (omega (arith, above))

pub returns-clause-first : goal.returns-clause-first
returns-clause-first g c =
    again_first g.W.Naming.work c.args.desk c.in-Ok.desk _ c.requires.first
    (IfOk-at_ok _ c.in-Ok.is c.again-begun.ensures.begun)

pub returns-clause-stand : goal.returns-clause-stand
returns-clause-stand g c = λ dir files begun stand renewed.
    again_stands c.laws_of_files.ensures g.W.Naming.work c.args.desk c.in-Ok.desk _ _ dir files
    begun
    (IfOk-at_ok _ c.in-Ok.is c.again-begun.ensures.begun)
    stand renewed
