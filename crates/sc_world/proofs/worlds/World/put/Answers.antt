use Rattle.std.proofs.Common.{◌≡◌, ap₂, subst, sym}
use Rattle.sc_world.specs.Runs.{IsWorld}
use Rattle.sc_world.specs.WorldData.{world_data}
use Rattle.sc_world.proofs.CodeKeeps.{both_err, either_if, puts_keep}
use Rattle.sc_world.proofs.worlds.World.put.Goals as goal

pub invariant_of-self : goal.invariant_of-self
invariant_of-self g c =
    let w = world_data c.self.inside.desk c.self.inside.stores.items c.self.inside.held.items in
    let after = world_data c.self.inside.desk c.put_among.new.stores.items
    c.put_among.new.held.items in
    either_if c.put_among.result _ (after ≡ w) _
    (λ loc puts. puts_keep g.W.Naming.work w c.args.exec loc c.put_among.new.held.items
    c.put_among.new.stores.items c.self.invariant puts)
    (λ same. subst (λ x. IsWorld g.W.Naming.work x) (sym same) c.self.invariant)
    c.put_among.ensures.puts
    (both_err c.put_among.result _ _ _
    (λ held stores. ap₂ (world_data c.self.inside.desk) stores held)
    c.put_among.ensures.refused c.put_among.ensures.same)
