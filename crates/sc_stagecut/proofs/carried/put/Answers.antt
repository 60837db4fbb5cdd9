use Rattle.std.proofs.Common.{Some, arith, sym}
use Rattle.sc_ids.proofs.ChangeLemmas.{change_at_past, set_change_at}
use Rattle.sc_stagecut.proofs.carried.put.Goals as goal

pub returns-then-node-len : goal.returns-then-node-len
returns-then-node-len c =
    let found = Some c.args.found in
    set_change_at c.args.bounds.now.items c.args.node found (λ _. found) (omega arith)

pub returns-else-node-len : goal.returns-else-node-len
returns-else-node-len c =
    let found = Some c.args.found in
    sym (change_at_past c.args.bounds.now.items c.args.node (λ _. found) (omega arith))
