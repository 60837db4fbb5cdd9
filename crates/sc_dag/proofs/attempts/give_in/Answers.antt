use Rattle.std.proofs.Common.{sym, arith}
use Rattle.std.proofs.lemmas.Result.{on_ok_weaker}
use Rattle.sc_ids.proofs.ChangeLemmas.{change_at_past}
use Rattle.sc_taskset.specs.Offers.{handed}
use Rattle.sc_dag.specs.DagData.{with_set}
use Rattle.sc_dag.proofs.AttemptLemmas.{set_with_set}
use Rattle.sc_dag.proofs.attempts.give_in.Goals as goal

pub returns-then-place-len-clause-given : goal.returns-then-place-len-clause-given
returns-then-place-len-clause-given c =
    let v = c.args.attempts.now in
    on_ok_weaker c.give.result
    (λ e. set_with_set v.items c.args.place c.index_mut.result.now c.give.new.self
    (λ set. handed set c.args.partition c.args.exec c.args.now) (omega (arith, v.ok.0))
    c.index_mut.ensures.value e)
    c.give.ensures.given

pub returns-else-place-len-clause-given : goal.returns-else-place-len-clause-given
returns-else-place-len-clause-given c =
    let v = c.args.attempts.now in
    sym (change_at_past v.items c.args.place
    (with_set (λ set. handed set c.args.partition c.args.exec c.args.now))
    (omega (arith, v.ok.0)))
