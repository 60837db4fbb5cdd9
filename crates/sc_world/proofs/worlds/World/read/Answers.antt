use Rattle.std.proofs.Common.{List, Option, None, IfSome, subst, sym}
use Rattle.sc_base.specs.Lists.{at_or}
use Rattle.sc_store.specs.StoreData.{StoreData}
use Rattle.sc_task.specs.Attempts.{AttemptData}
use Rattle.sc_world.specs.Places.{ReadStands, ReadsAmong}
use Rattle.sc_world.specs.Runs.{IsWorld}
use Rattle.sc_world.specs.WorldData.{world_data}
use Rattle.sc_world.proofs.CodeKeeps.{either_way, read_stands, reads_keep}
use Rattle.sc_world.proofs.worlds.World.read.Goals as goal

pub read_among-requires-clause-stands : goal.read_among-requires-clause-stands
read_among-requires-clause-stands g c =
    let w = world_data c.self.inside.desk c.self.inside.stores.items c.self.inside.held.items in
    subst (λ (s : List StoreData). IfSome (at_or c.self.inside.held.items c.args.exec None)
    (ReadStands s)) (sym c.as_slice.ensures.value)
    (read_stands g.W.Naming.work w c.args.exec c.self.invariant)

pub invariant_of-self : goal.invariant_of-self
invariant_of-self g c =
    let w = world_data c.self.inside.desk c.self.inside.stores.items c.self.inside.held.items in
    either_way c.read_among.result _ _ _
    (λ reads. reads_keep g.W.Naming.work w c.args.exec c.read_among.new.held.items
    c.self.invariant
    (subst (λ (s : List StoreData). ReadsAmong s c.args.exec c.self.inside.held.items
    c.read_among.new.held.items) c.as_slice.ensures.value reads))
    (λ same. subst (λ (held : List (Option AttemptData)). IsWorld g.W.Naming.work
    (world_data c.self.inside.desk c.self.inside.stores.items held)) (sym same)
    c.self.invariant)
    c.read_among.ensures.reads c.read_among.ensures.refused
