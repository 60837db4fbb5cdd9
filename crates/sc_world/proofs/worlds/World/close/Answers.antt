use Rattle.std.proofs.Common.{subst, sym}
use Rattle.sc_core.specs.CoreData.{CoreData}
use Rattle.sc_world.specs.Runs.{AreReady}
use Rattle.sc_world.proofs.worlds.World.close.Goals as goal

pub returns-clause-ready : goal.returns-clause-ready
returns-clause-ready g c =
    let is = c.self.invariant.sound in
    subst
    (λ (x : CoreData). AreReady g.W.Naming.work c.self.inside.stores.items x.dag.tracker x.told)
    (sym c.close.ensures.end)
    (record { many = is.stores; own = is.own; tied = is.tied; due = is.due })
