use Rattle.std.proofs.Common.{◌∙◌, ◌<◌, ℕ, ap, subst, sym, arith}
use Rattle.sc_lineage.specs.ScriptData.{WorkData}
use Rattle.sc_core.proofs.StaffLemmas.{runs_not_lost}
use Rattle.sc_world.specs.WorldData.{core_in}
use Rattle.sc_world.proofs.worlds.World.next_live.Goals as goal

pub unreachable-requires : goal.unreachable-requires
unreachable-requires g c =
    let world = c.is_world.ensures in
    let many = world.desk.execs
    ∙ sym (ap (λ l. l.executors) (c.limits-executors.ensures
    ∙ ap (λ (w : WorkData). w.limits) (c.get.ensures ∙ c.work-2.ensures))) in
    runs_not_lost (core_in c.args.self.now) world.core c.requires.runs
    (λ exec lt. c.in-None.ensures exec (omega arith) (subst (λ (n : ℕ). exec < n) many lt))
