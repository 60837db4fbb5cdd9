use Rattle.std.proofs.Common.{rules, ◌≡◌, ◌<◌, ◌+◌, ◌++◌, All, List, [], ◌∷◌, arith, subst, sym}
use Rattle.std.proofs.lemmas.List.Elements.{All-push}
use Rattle.sc_exec.specs.Workers.{AreInPlace}
use Rattle.sc_exec.specs.Working.{IsFresh}
use Rattle.sc_exec.specs.declared.workers.Worker.{Worker}
use Rattle.sc_rows.proofs.CrewLemmas.{one_more_in_place}
use Rattle.sc_rows.proofs.executors.crew.Goals as goal

pub loop-exec-preserved : goal.loop-exec-preserved
loop-exec-preserved g c =
    let before = c.loop-exec.workers.items in
    let pushed : c.push.new.self.items ≡ before ++ c.fresh.result ∷ [] = search rules in
    let known : c.loop-exec.exec < c.args.executors =
    omega (arith, c.loop-exec-test.true, c.loop-exec.auto.exec-end) in
    record {
      fresh = subst (λ (ws : List Worker). All (IsFresh c.args.executors) ws) (sym pushed)
          (All-push (IsFresh c.args.executors) before c.fresh.result c.loop-exec.invariant.fresh
          (c.fresh.ensures.fresh c.args.executors known));
      places = subst (λ (ws : List Worker). AreInPlace (c.loop-exec.exec + 1) ws) (sym pushed)
          (one_more_in_place c.loop-exec.exec before c.fresh.result
          c.loop-exec.invariant.places c.fresh.ensures.exec);
    }
