use Rattle.std.proofs.Common.{◌≡◌, subst, sym, true}
use Rattle.sc_core.specs.CoreData.{job_runs}
use Rattle.sc_desk.specs.Orders.{IsDueAmong}
use Rattle.sc_plan.specs.Orders.{wipes_of}
use Rattle.sc_world.specs.WorldData.{WorldData, core_in, world_data}
use Rattle.sc_world.proofs.CodeKeeps.{wipes_keep}
use Rattle.sc_world.proofs.CodeOrders.{is_wiping}
use Rattle.sc_world.proofs.worlds.World.wipe.Goals as goal

pub wipe_among-requires-clause-wipes : goal.wipe_among-requires-clause-wipes
wipe_among-requires-clause-wipes g c =
    is_wiping g.W.Naming.work.plan (core_in c.args.self.now).told c.args.order c.requires.due

pub invariant_of-self : goal.invariant_of-self
invariant_of-self g c =
    let w = world_data c.self.inside.desk c.self.inside.stores.items c.self.inside.held.items in
    wipes_keep g.W.Naming.work w c.args.order c.wipe_among.result
    c.wipe_among.new.stores.items c.self.invariant
    (subst (λ (x : WorldData). job_runs (core_in x) ≡ true) (sym c.self.view_is) c.requires.runs)
    (subst (λ (x : WorldData). IsDueAmong (wipes_of g.W.Naming.work.plan c.args.order.exec)
    (core_in x).told c.args.order) (sym c.self.view_is) c.requires.due)
    c.wipe_among.ensures
