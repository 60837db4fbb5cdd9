use Rattle.sc_core.specs.CoreData.{job_runs}
use Rattle.sc_world.specs.Files.{OutputGoesOn}
use Rattle.sc_world.specs.Serial.{GoesOn, IsResting, left_in}
use Rattle.sc_world.specs.Turns.{TakesTurns}
use Rattle.sc_world.specs.WorldData.{core_in}
use Rattle.sc_world.proofs.CodeTurns.{turns_left}
use Rattle.sc_world.proofs.worlds.World.serial.Given as goal

abbrev pub invariant-loop-alloc : goal.invariant-loop-alloc
invariant-loop-alloc g l = record {
  on : GoesOn g.W.Naming.work l.fn.self l.self;
  rests : IsResting l.self;
  turns : TakesTurns g.W.Naming.work 0 l.fn.self l.exec l.self;
  files : OutputGoesOn g.W.Naming.work l.fn.self l.self g.F.Files.state l.fn.output
      l.output;
}

abbrev pub decreases-loop-alloc : goal.decreases-loop-alloc
decreases-loop-alloc g l =
    turns_left (job_runs (core_in l.self)) (left_in g.W.Naming.work l.self)
