use Rattle.std.proofs.Common.{arith, false, sym}
use Rattle.sc_ids.proofs.ChangeLemmas.{change_at_past, set_change_at}
use Rattle.sc_dag.proofs.changes.flag_in.Goals as goal

pub returns-then-partition-len : goal.returns-then-partition-len
returns-then-partition-len c =
    let v = c.args.flags.now in
    set_change_at v.items c.args.partition false (λ _. c.args.flag) (omega (arith, v.ok.0))

pub returns-else-partition-len : goal.returns-else-partition-len
returns-else-partition-len c =
    let v = c.args.flags.now in
    sym (change_at_past v.items c.args.partition (λ _. c.args.flag) (omega (arith, v.ok.0)))
