use Rattle.std.proofs.Common.{◌≡◌, List, Option, None, ap, replicate, subst, sym, ◌∙◌}
use Rattle.sc_core.specs.Sound.{IsSoundCore}
use Rattle.sc_ids.specs.declared.limits.Limits.{Limits}
use Rattle.sc_lineage.specs.ScriptData.{WorkData}
use Rattle.sc_task.specs.Attempts.{AttemptData}
use Rattle.sc_world.specs.Runs.{IsWorld}
use Rattle.sc_world.specs.WorldData.{world_data}
use Rattle.sc_world.proofs.CodeKeeps.{begun_world}
use Rattle.sc_world.proofs.worlds.World.begin.Goals as goal

pub invariant_of-result : goal.invariant_of-result
invariant_of-result g c =
    let executors : c.limits.result.executors ≡ g.W.Naming.work.limits.executors =
    ap (λ (l : Limits). l.executors) c.limits.ensures
    ∙ ap (λ (w : WorkData). w.limits.executors) (c.get.ensures ∙ c.work-2.ensures) in
    let held : c.in-Ok.held.items ≡ replicate g.W.Naming.work.limits.executors None =
    c.in-Ok.ensures ∙ ap (λ n. replicate n None) executors in
    subst (λ (h : List (Option AttemptData)). IsWorld g.W.Naming.work
    (world_data c.args.desk c.args.stores.items h)) (sym held)
    (begun_world g.W.Naming.work c.args.desk c.args.stores.items c.requires.begun
    (subst IsSoundCore c.core.ensures c.is_sound-2.ensures) c.is_sound.ensures c.requires.ready)
