use Rattle.sc_world.specs.Files.{OutputGoesOn}
use Rattle.sc_world.specs.Serial.{GoesOn, IsAlone, IsNoMore, steps_left}
use Rattle.sc_world.specs.Turns.{AdvancesBy}
use Rattle.sc_world.specs.WorldData.{held_at}
use Rattle.sc_world.proofs.worlds.World.finish.Given as goal

abbrev pub invariant-loop-alloc : goal.invariant-loop-alloc
invariant-loop-alloc g l = record {
  on : GoesOn g.W.Naming.work l.fn.self l.self;
  alone : IsAlone l.exec l.self;
  no_more : IsNoMore g.W.Naming.work l.fn.self l.self;
  goes : AdvancesBy g.W.Naming.work l.exec l.fn.self l.self;
  files : OutputGoesOn g.W.Naming.work l.fn.self l.self g.F.Files.state l.fn.output
      l.output;
}

abbrev pub decreases-loop-alloc : goal.decreases-loop-alloc
decreases-loop-alloc g l = steps_left (held_at l.self l.exec)
