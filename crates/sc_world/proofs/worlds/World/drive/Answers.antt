use Rattle.sc_world.proofs.CodeTurns.{losses_turn}
use Rattle.sc_world.proofs.worlds.World.drive.Goals as goal

pub returns-in_ok-tell_lost-in-Some-clause-drives :
    goal.returns-in_ok-tell_lost-in-Some-clause-drives
returns-in_ok-tell_lost-in-Some-clause-drives g c =
    losses_turn g.W.Naming.work c.args.self.now c.tell_lost.new.self c.in-Some.lost
    c.in_ok-tell_lost-in-Some.field-0 c.is_world.ensures.core c.requires.rests
    c.in_ok-tell_lost-in-Some.ensures.lost c.has_sound_desk.ensures
