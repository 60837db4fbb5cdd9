use Rattle.std.proofs.Common.{sym, ◌∙◌}
use Rattle.std.proofs.lemmas.Result.{err_from_is_err_and}
use Rattle.sc_world.specs.Turns.{no_turn, one_turn}
use Rattle.sc_world.proofs.CodeRuns.{goes_then, reached_then, stays}
use Rattle.sc_world.proofs.FilesLemmas.{goes_on_then, stays_put}
use Rattle.sc_world.proofs.worlds.World.serial.Goals as goal

pub loop-alloc-init : goal.loop-alloc-init
loop-alloc-init g c =
    record {
      on = stays g.W.Naming.work c.args.self.now;
      rests = c.requires.rests;
      turns = no_turn;
      files = stays_put g.W.Naming.work c.args.self.now g.F.Files.state c.args.output.now
          c.requires.stand;
    }

pub returns-in_err-exec-clause-reaches : goal.returns-in_err-exec-clause-reaches
returns-in_err-exec-clause-reaches g c =
    reached_then g.W.Naming.work c.args.self.now c.loop-alloc.self c.turn.new.self
    c.loop-alloc.invariant.on.reaches c.in_err-exec.ensures.on.reaches

pub returns-in_err-exec-clause-short : goal.returns-in_err-exec-clause-short
returns-in_err-exec-clause-short g c =
    let p = err_from_is_err_and c.from_residual.result c.from_residual.ensures.1 in
    rw p.1
    (record {
      turn = c.loop-alloc.exec;
      mid = c.loop-alloc.self;
      turns = c.loop-alloc.invariant.turns;
      runs = sym c.runs.ensures ∙ c.loop-alloc-test.true;
      leaves = c.in_err-exec.ensures.leaves;
    })

pub loop-alloc-preserved : goal.loop-alloc-preserved
loop-alloc-preserved g c =
    record {
      on = goes_then g.W.Naming.work c.args.self.now c.loop-alloc.self c.turn.new.self
          c.loop-alloc.invariant.on c.in_ok-exec.ensures.turns.on;
      rests = c.in_ok-exec.ensures.turns.rests;
      turns = one_turn c.loop-alloc.exec c.in_ok-exec.exec c.loop-alloc.self c.turn.new.self
          c.loop-alloc.invariant.turns c.in_ok-exec.ensures.takes;
      files = goes_on_then g.W.Naming.work c.args.self.now c.loop-alloc.self c.turn.new.self
          g.F.Files.state c.args.output.now c.loop-alloc.output c.turn.new.output
          c.loop-alloc.invariant.files c.in_ok-exec.ensures.files;
    }

pub returns-in_err-exec-clause-files : goal.returns-in_err-exec-clause-files
returns-in_err-exec-clause-files g c =
    goes_on_then g.W.Naming.work c.args.self.now c.loop-alloc.self c.turn.new.self
    g.F.Files.state c.args.output.now c.loop-alloc.output c.turn.new.output
    c.loop-alloc.invariant.files c.in_err-exec.ensures.files
