use Rattle.std.proofs.Common.{arith, get_or, rules, take}
use Rattle.sc_world.specs.declared.steps.Step.TheVariants as steps
use Rattle.sc_world.proofs.CodeRuns.{reached, reached_by, reached_then, runs_next}
use Rattle.sc_world.proofs.FilesLemmas.{goes_on_then, stays_put}
use Rattle.sc_world.proofs.worlds.World.apply_all.Goals as goal

pub returns-in_err-answers-clause-reaches : goal.returns-in_err-answers-clause-reaches
returns-in_err-answers-clause-reaches g c = reached g.W.Naming.work c.args.self.now

pub returns-in_err-push-clause-reaches : goal.returns-in_err-push-clause-reaches
returns-in_err-push-clause-reaches g c =
    reached_then g.W.Naming.work c.args.self.now c.loop-step.self c.apply.new.self
    (record {
      steps = take c.loop-step.step-index c.args.steps.now;
      answers = c.loop-step.answers.items;
      runs = c.loop-step.invariant.runs;
    })
    (reached_by g.W.Naming.work c.loop-step.self c.apply.new.self
    (get_or c.args.steps.now c.loop-step.step-index (steps.Take 0)) c.in_ok-answer.answer
    c.in_ok-answer.ensures.goes c.has_sound_desk.ensures)

pub returns-in_err-answers-clause-files : goal.returns-in_err-answers-clause-files
returns-in_err-answers-clause-files g c =
    stays_put g.W.Naming.work c.args.self.now g.F.Files.state c.args.output.now c.requires.stand

pub returns-in_err-answer-clause-files : goal.returns-in_err-answer-clause-files
returns-in_err-answer-clause-files g c =
    goes_on_then g.W.Naming.work c.args.self.now c.loop-step.self c.apply.new.self
    g.F.Files.state c.args.output.now c.loop-step.output c.apply.new.output
    c.loop-step.invariant.files c.in_err-answer.ensures.files

pub returns-in_err-push-clause-files : goal.returns-in_err-push-clause-files
returns-in_err-push-clause-files g c =
    goes_on_then g.W.Naming.work c.args.self.now c.loop-step.self c.apply.new.self
    g.F.Files.state c.args.output.now c.loop-step.output c.apply.new.output
    c.loop-step.invariant.files c.in_ok-answer.ensures.files

pub loop-step-init : goal.loop-step-init
loop-step-init g c =
    record {
      runs = search rules;
      files = stays_put g.W.Naming.work c.args.self.now g.F.Files.state c.args.output.now
          c.requires.stand;
    }

pub loop-step-preserved : goal.loop-step-preserved
loop-step-preserved g c =
    record {
      runs = runs_next g.W.Naming.work c.args.self.now c.loop-step.self c.apply.new.self
          c.args.steps.now c.loop-step.step-index (steps.Take 0) c.loop-step.answers.items
          c.push.new.self.items c.in_ok-answer.answer (omega arith) c.loop-step.invariant.runs
          c.in_ok-answer.ensures.goes c.has_sound_desk.ensures c.in_ok-push.ensures.items;
      files = goes_on_then g.W.Naming.work c.args.self.now c.loop-step.self c.apply.new.self
          g.F.Files.state c.args.output.now c.loop-step.output c.apply.new.output
          c.loop-step.invariant.files c.in_ok-answer.ensures.files;
    }
