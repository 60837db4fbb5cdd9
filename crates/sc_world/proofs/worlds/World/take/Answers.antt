use Rattle.std.proofs.Common.{◌<◌, length, subst, sym}
use Rattle.sc_world.specs.Steps.{Takes}
use Rattle.sc_world.specs.WorldData.{WorldData, world_data}
use Rattle.sc_world.proofs.CodeKeeps.{takes_keep}
use Rattle.sc_world.proofs.CodeSteps.{takes_in}
use Rattle.sc_world.proofs.worlds.World.take.Goals as goal

pub invariant_of-self-2 : goal.invariant_of-self-2
invariant_of-self-2 g c =
    let w = world_data c.self.inside.desk c.self.inside.stores.items c.self.inside.held.items in
    takes_keep g.W.Naming.work w c.args.exec c.in_ok-taken.field-0.taken
    c.in_ok-taken.field-0.answer c.take_logged.new.self c.give_among.new.held.items
    c.self.invariant
    (subst (λ (x : WorldData). c.args.exec < length x.held) (sym c.self.view_is)
    c.requires.there)
    c.in_ok-taken.ensures.taken c.give_among.ensures c.is_sound.ensures

pub returns-clause-takes : goal.returns-clause-takes
returns-clause-takes g c =
    let w = world_data c.self.inside.desk c.self.inside.stores.items c.self.inside.held.items in
    subst (λ (x : WorldData). Takes x c.args.exec c.in_ok-taken.field-0.answer
    (world_data c.take_logged.new.self c.self.inside.stores.items c.give_among.new.held.items))
    c.self.view_is
    (takes_in w c.args.exec c.in_ok-taken.field-0.taken c.in_ok-taken.field-0.answer
    c.take_logged.new.self c.give_among.new.held.items c.in_ok-taken.ensures.taken
    c.give_among.ensures)
