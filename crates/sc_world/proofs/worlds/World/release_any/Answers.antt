use Rattle.std.proofs.Common.{refl, subst, sym}
use Rattle.sc_desk.specs.DeskData.{DeskData}
use Rattle.sc_world.specs.Runs.{IsWorld}
use Rattle.sc_world.specs.Steps.{ReleasesOne}
use Rattle.sc_world.specs.WorldData.{WorldData, world_data}
use Rattle.sc_world.proofs.CodeKeeps.{releases_keep}
use Rattle.sc_world.proofs.worlds.World.release_any.Goals.{in-Ok, in-Err}
use Rattle.sc_world.proofs.worlds.World.release_any.Goals as goal

pub invariant_of-self : goal.invariant_of-self
invariant_of-self g c =
    let w = world_data c.self.inside.desk c.self.inside.stores.items c.self.inside.held.items in
    elim c.match-release.branch [
      | in-Ok v ↦
          releases_keep g.W.Naming.work w c.args.key c.release.new.self v.in-Ok.receipt
          c.self.invariant v.in-Ok.ensures.released v.is_sound.ensures
      | in-Err v ↦
          subst (λ (d : DeskData). IsWorld g.W.Naming.work
          (world_data d c.self.inside.stores.items c.self.inside.held.items))
          (sym v.in-Err.ensures.refused) c.self.invariant
    ]

pub returns-clause-releases : goal.returns-clause-releases
returns-clause-releases g c =
    elim c.match-release.branch [
      | in-Ok v ↦
          rw v.result-is
          (subst (λ (x : WorldData). ReleasesOne x c.args.key v.in-Ok.receipt.answer
          (world_data c.release.new.self c.self.inside.stores.items c.self.inside.held.items))
          c.self.view_is
          (record {
            desk = c.release.new.self;
            receipt = v.in-Ok.receipt;
            releases = v.in-Ok.ensures.released;
            told = refl;
            is = refl;
          }))
      | in-Err v ↦ rw v.result-is tt
    ]
