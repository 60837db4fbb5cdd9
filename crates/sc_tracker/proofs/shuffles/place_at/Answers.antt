use Rattle.std.proofs.Common.{sym, arith}
use Rattle.sc_ids.proofs.ChangeLemmas.{change_at_past, set_changed}
use Rattle.sc_tracker.specs.Tracking.{with_placed}
use Rattle.sc_tracker.proofs.shuffles.place_at.Goals as goal

pub returns-then-place-len : goal.returns-then-place-len
returns-then-place-len c =
    let v = c.args.shuffles.now in
    set_changed v.items c.args.place.at c.index_mut.result.now c.place.new.self
    (with_placed c.args.place.map c.args.loc c.args.epoch) (omega (arith, v.ok.0))
    c.index_mut.ensures.value c.place.ensures

pub returns-else-place-len : goal.returns-else-place-len
returns-else-place-len c =
    let v = c.args.shuffles.now in
    sym (change_at_past v.items c.args.place.at
    (with_placed c.args.place.map c.args.loc c.args.epoch) (omega (arith, v.ok.0)))
