use Rattle.std.proofs.Common.{sym, arith, true, false}
use Rattle.sc_ids.proofs.ChangeLemmas.{set_change_at, change_at_past}
use Rattle.sc_dag.proofs.NumberLemmas.{result_counted}
use Rattle.sc_dag.proofs.changes.put_result_in.Goals as goal

pub returns-then-partition-len-clause-items : goal.returns-then-partition-len-clause-items
returns-then-partition-len-clause-items c =
    let v = c.args.results.now in
    set_change_at v.items c.args.partition false (λ _. true) (omega (arith, v.ok.0))

pub returns-then-partition-len-clause-count : goal.returns-then-partition-len-clause-count
returns-then-partition-len-clause-count c =
    let v = c.args.results.now in
    result_counted v.items c.args.partition c.index.result.now (omega (arith, v.ok.0))
    c.index.ensures

pub returns-else-partition-len-clause-items : goal.returns-else-partition-len-clause-items
returns-else-partition-len-clause-items c =
    let v = c.args.results.now in
    sym (change_at_past v.items c.args.partition (λ _. true) (omega (arith, v.ok.0)))

pub returns-else-partition-len-clause-count : goal.returns-else-partition-len-clause-count
returns-else-partition-len-clause-count c = omega arith
