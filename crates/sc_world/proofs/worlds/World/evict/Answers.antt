use Rattle.std.proofs.Common.{◌≡◌, subst, sym, true}
use Rattle.sc_core.specs.CoreData.{job_runs}
use Rattle.sc_world.specs.WorldData.{WorldData, core_in, world_data}
use Rattle.sc_world.proofs.CodeKeeps.{evicts_keep}
use Rattle.sc_world.proofs.worlds.World.evict.Goals as goal

pub invariant_of-self : goal.invariant_of-self
invariant_of-self g c =
    let w = world_data c.self.inside.desk c.self.inside.stores.items c.self.inside.held.items in
    evicts_keep g.W.Naming.work w c.args.exec c.evict_among.new.stores.items c.self.invariant
    (subst (λ (x : WorldData). job_runs (core_in x) ≡ true) (sym c.self.view_is) c.requires.runs)
    c.evict_among.ensures
