use Rattle.std.proofs.Common.{take}
use Rattle.sc_world.specs.Files.{OutputGoesOn}
use Rattle.sc_world.specs.Runs.{Runs}
use Rattle.sc_world.proofs.worlds.World.apply_all.Given as goal

abbrev pub invariant-loop-step : goal.invariant-loop-step
invariant-loop-step g l = record {
  runs : Runs g.W.Naming.work l.fn.self (take l.step-index l.steps) l.answers.items l.self;
  files : OutputGoesOn g.W.Naming.work l.fn.self l.self g.F.Files.state l.fn.output
      l.output;
}
