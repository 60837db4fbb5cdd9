use Rattle.std.proofs.Common.{All, rules, subst, sym}
use Rattle.std.proofs.lemmas.List.Elements.{All-push}
use Rattle.sc_exec.specs.Working.{IsFresh}
use Rattle.sc_context.proofs.crews.fresh_workers.Goals as goal

pub loop-exec-preserved : goal.loop-exec-preserved
loop-exec-preserved c =
    let executors = c.args.executors in
    record {
      fresh = subst (λ ws. All (IsFresh executors) ws) (sym c.in_ok-push.ensures.items)
          (All-push (IsFresh executors) c.loop-exec.workers.items c.in_ok-fresh_worker.field-0
          c.loop-exec.invariant.fresh
          (c.in_ok-fresh_worker.ensures.fresh executors c.loop-exec-test.true));
      places = search rules;
    }
