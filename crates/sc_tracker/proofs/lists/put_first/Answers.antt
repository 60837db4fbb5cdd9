use Rattle.std.proofs.Common.{None, arith, sym}
use Rattle.sc_ids.proofs.ChangeLemmas.{change_at_past, set_change_at}
use Rattle.sc_tracker.proofs.lists.put_first.Goals as goal

pub returns-then-exec-len : goal.returns-then-exec-len
returns-then-exec-len c =
    let v = c.args.firsts.now in
    set_change_at v.items c.args.exec None (λ _. c.args.first) (omega (arith, v.ok.0))

pub returns-else-exec-len : goal.returns-else-exec-len
returns-else-exec-len c =
    let v = c.args.firsts.now in
    sym (change_at_past v.items c.args.exec (λ _. c.args.first) (omega (arith, v.ok.0)))
