use Rattle.sc_world.specs.Turns.{AreLost}
use Rattle.sc_world.specs.WorldData.{core_in}
use Rattle.sc_world.proofs.worlds.World.live_between.Given as goal

abbrev pub invariant-loop-exec : goal.invariant-loop-exec
invariant-loop-exec g l = AreLost (core_in l.self) l.fn.from l.exec
