use Rattle.sc_world.proofs.CodeTurns.{asks_in}
use Rattle.sc_world.proofs.worlds.World.request.Goals as goal

pub returns-clause-asks : goal.returns-clause-asks
returns-clause-asks g c =
    asks_in g.W.Naming.work c.args.self.now c.take.new.self c.args.exec c.in_ok-take.field-0
    c.is_world.ensures.core c.is_world.ensures.sound c.requires.runs c.requires.rests
    c.requires.due c.requires.live c.in_ok-take.ensures.takes
    c.has_sound_desk.ensures
