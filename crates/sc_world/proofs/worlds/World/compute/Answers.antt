use Rattle.std.proofs.Common.{◌≡◌, ap₂, subst, sym}
use Rattle.std.proofs.lemmas.Result.{IfOk-weaker}
use Rattle.sc_world.specs.Runs.{IsWorld}
use Rattle.sc_world.specs.Steps.{Computes}
use Rattle.sc_world.specs.WorldData.{WorldData, world_data}
use Rattle.sc_world.proofs.CodeKeeps.{both_err, computes_keep, either_if}
use Rattle.sc_world.proofs.CodeSteps.{computes_in}
use Rattle.sc_world.proofs.worlds.World.compute.Goals as goal

pub invariant_of-self : goal.invariant_of-self
invariant_of-self g c =
    let w = world_data c.self.inside.desk c.self.inside.stores.items c.self.inside.held.items in
    let after = world_data c.self.inside.desk c.compute_among.new.stores.items
    c.compute_among.new.held.items in
    either_if c.compute_among.result _ (after ≡ w) _
    (λ kept computes. computes_keep g.W.Naming.work w c.args.exec kept
    c.compute_among.new.held.items c.compute_among.new.stores.items c.self.invariant computes)
    (λ same. subst (λ x. IsWorld g.W.Naming.work x) (sym same) c.self.invariant)
    c.compute_among.ensures.computes
    (both_err c.compute_among.result _ _ _
    (λ held stores. ap₂ (world_data c.self.inside.desk) stores held)
    c.compute_among.ensures.refused c.compute_among.ensures.same)

pub returns-clause-computes : goal.returns-clause-computes
returns-clause-computes g c =
    let w = world_data c.self.inside.desk c.self.inside.stores.items c.self.inside.held.items in
    let after = world_data c.self.inside.desk c.compute_among.new.stores.items
    c.compute_among.new.held.items in
    IfOk-weaker c.compute_among.result _ _
    (λ kept computes. subst
    (λ (x : WorldData). Computes g.W.Naming.work x c.args.exec kept after) c.self.view_is
    (computes_in g.W.Naming.work w c.args.exec kept c.compute_among.new.held.items
    c.compute_among.new.stores.items computes))
    c.compute_among.ensures.computes
