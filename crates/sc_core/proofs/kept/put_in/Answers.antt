use Rattle.std.proofs.Common.{Some, None, sym, arith}
use Rattle.sc_ids.proofs.ChangeLemmas.{set_change_at, change_at_past}
use Rattle.sc_core.proofs.kept.put_in.Goals as goal

pub returns-then-stage-len : goal.returns-then-stage-len
returns-then-stage-len c =
    let v = c.args.lists.now in
    set_change_at v.items c.args.stage None (λ _. Some c.args.inputs) (omega (arith, v.ok.0))

pub returns-else-stage-len : goal.returns-else-stage-len
returns-else-stage-len c =
    let v = c.args.lists.now in
    sym (change_at_past v.items c.args.stage (λ _. Some c.args.inputs) (omega (arith, v.ok.0)))
