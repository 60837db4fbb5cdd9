use Rattle.sc_world.proofs.CodeRuns.{evicts_on, wipes_on}
use Rattle.sc_world.proofs.worlds.World.carry_out.Goals as goal

pub returns-in-Drop-clause-on : goal.returns-in-Drop-clause-on
returns-in-Drop-clause-on g c =
    wipes_on g.W.Naming.work c.args.self.now c.wipe.new.self c.args.order c.wipe.result
    c.wipe.ensures c.has_sound_desk.ensures

pub returns-in-Evict-clause-on : goal.returns-in-Evict-clause-on
returns-in-Evict-clause-on g c =
    evicts_on g.W.Naming.work c.args.self.now c.evict.new.self c.args.order.exec c.evict.ensures
    c.has_sound_desk.ensures
