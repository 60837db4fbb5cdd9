use Rattle.std.proofs.Common.{None, sym, arith}
use Rattle.sc_ids.proofs.ChangeLemmas.{set_change_at, change_at_past}
use Rattle.sc_desk.proofs.posts.put.Goals as goal

pub returns-then-partition-len : goal.returns-then-partition-len
returns-then-partition-len c =
    let v = c.args.results.now in
    set_change_at v.items c.args.partition None (λ _. c.args.given) (omega (arith, v.ok.0))

pub returns-else-partition-len : goal.returns-else-partition-len
returns-else-partition-len c =
    let v = c.args.results.now in
    sym (change_at_past v.items c.args.partition (λ _. c.args.given) (omega (arith, v.ok.0)))
