use Rattle.std.proofs.Common.{sym, arith}
use Rattle.sc_ids.proofs.ChangeLemmas.{set_changed, change_at_past}
use Rattle.sc_tracker.specs.Outputs.{forgotten}
use Rattle.sc_tracker.proofs.outputs.forget_in.Goals as goal

pub returns-then-map-len : goal.returns-then-map-len
returns-then-map-len c =
    let v = c.args.outputs.now in
    set_changed v.items c.args.map c.index_mut.result.now c.forget.new.self
    forgotten (omega (arith, v.ok.0)) c.index_mut.ensures.value c.forget.ensures

pub returns-else-map-len : goal.returns-else-map-len
returns-else-map-len c =
    let v = c.args.outputs.now in
    sym (change_at_past v.items c.args.map forgotten (omega (arith, v.ok.0)))
