use Rattle.std.proofs.Common.{◌≡◌, subst, sym, true}
use Rattle.sc_core.specs.CoreData.{job_runs}
use Rattle.sc_world.specs.WorldData.{WorldData, core_in, world_data}
use Rattle.sc_world.proofs.CodeKeeps.{orders_keep}
use Rattle.sc_world.proofs.worlds.World.next_order.Goals as goal

pub invariant_of-self : goal.invariant_of-self
invariant_of-self g c =
    let w = world_data c.self.inside.desk c.self.inside.stores.items c.self.inside.held.items in
    orders_keep g.W.Naming.work w c.due_order-order.result c.due_order-order.new.self
    c.self.invariant
    (subst (λ (x : WorldData). job_runs (core_in x) ≡ true) (sym c.self.view_is) c.requires.runs)
    c.due_order-order.ensures c.is_sound.ensures
