use Rattle.std.proofs.Common.{arith}
use Rattle.sc_world.specs.Turns.{no_step, one_step}
use Rattle.sc_world.proofs.CodeRuns.{goes_then, stays}
use Rattle.sc_world.proofs.CodeTurns.{no_more_then}
use Rattle.sc_world.proofs.FilesLemmas.{goes_on_then, stays_put}
use Rattle.sc_world.proofs.worlds.World.finish.Goals as goal

pub loop-alloc-init : goal.loop-alloc-init
loop-alloc-init g c =
    record {
      on = stays g.W.Naming.work c.args.self.now;
      alone = c.requires.alone;
      no_more = λ runs. (runs, omega arith);
      goes = no_step;
      files = stays_put g.W.Naming.work c.args.self.now g.F.Files.state c.args.output.now
          c.requires.stand;
    }

pub loop-alloc-preserved : goal.loop-alloc-preserved
loop-alloc-preserved g c =
    record {
      on = goes_then g.W.Naming.work c.args.self.now c.loop-alloc.self c.advance.new.self
          c.loop-alloc.invariant.on c.in_ok-advance.ensures.advances.on;
      alone = c.in_ok-advance.ensures.advances.alone;
      no_more = no_more_then g.W.Naming.work c.args.self.now c.loop-alloc.self c.advance.new.self
          c.loop-alloc.invariant.no_more c.in_ok-advance.ensures.advances.no_more;
      goes = one_step c.loop-alloc.self c.advance.new.self c.loop-alloc.invariant.goes
          c.in_ok-advance.ensures.goes;
      files = goes_on_then g.W.Naming.work c.args.self.now c.loop-alloc.self c.advance.new.self
          g.F.Files.state c.args.output.now c.loop-alloc.output c.advance.new.output
          c.loop-alloc.invariant.files c.in_ok-advance.ensures.files;
    }

pub returns-in_err-advance-clause-files : goal.returns-in_err-advance-clause-files
returns-in_err-advance-clause-files g c =
    goes_on_then g.W.Naming.work c.args.self.now c.loop-alloc.self c.advance.new.self
    g.F.Files.state c.args.output.now c.loop-alloc.output c.advance.new.output
    c.loop-alloc.invariant.files c.in_err-advance.ensures.files
