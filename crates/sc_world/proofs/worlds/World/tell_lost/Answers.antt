use Rattle.std.proofs.Common.{subst, sym}
use Rattle.sc_desk.specs.DeskData.{DeskData}
use Rattle.sc_world.specs.Runs.{IsWorld}
use Rattle.sc_world.specs.WorldData.{world_data}
use Rattle.sc_world.proofs.CodeKeeps.{loses_keep}
use Rattle.sc_world.proofs.worlds.World.tell_lost.Goals.{in-Ok, in-Err-OutOfMemory}
use Rattle.sc_world.proofs.worlds.World.tell_lost.Goals as goal

pub invariant_of-self : goal.invariant_of-self
invariant_of-self g c =
    let w = world_data c.self.inside.desk c.self.inside.stores.items c.self.inside.held.items in
    elim c.match-tell_lost.branch [
      | in-Ok v ↦
          loses_keep g.W.Naming.work w c.args.exec c.tell_lost.new.self v.in-Ok.receipt
          c.self.invariant v.in-Ok.ensures.lost v.is_sound.ensures
      | in-Err-OutOfMemory v ↦
          subst (λ (d : DeskData). IsWorld g.W.Naming.work
          (world_data d c.self.inside.stores.items c.self.inside.held.items))
          (sym v.in-Err-OutOfMemory.ensures.refused) c.self.invariant
    ]
