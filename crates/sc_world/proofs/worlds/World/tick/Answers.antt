use Rattle.std.proofs.Common.{refl, subst}
use Rattle.sc_world.specs.Steps.{TicksOne}
use Rattle.sc_world.specs.WorldData.{WorldData, world_data}
use Rattle.sc_world.proofs.CodeKeeps.{ticks_keep}
use Rattle.sc_world.proofs.worlds.World.tick.Goals as goal

pub invariant_of-self-2 : goal.invariant_of-self-2
invariant_of-self-2 g c =
    let w = world_data c.self.inside.desk c.self.inside.stores.items c.self.inside.held.items in
    ticks_keep g.W.Naming.work w c.args.now c.note.new.self c.in_ok-noted.noted
    c.self.invariant c.in_ok-noted.ensures.noted c.is_sound.ensures

pub returns-clause-ticks : goal.returns-clause-ticks
returns-clause-ticks g c =
    subst (λ (x : WorldData). TicksOne x c.args.now c.in_ok-noted.noted.answer
    (world_data c.note.new.self c.self.inside.stores.items c.self.inside.held.items))
    c.self.view_is
    (record {
      desk = c.note.new.self;
      noted = c.in_ok-noted.noted;
      notes = c.in_ok-noted.ensures.noted;
      told = refl;
      is = refl;
    })
