use Rattle.std.proofs.Common.{sym, arith}
use Rattle.sc_ids.proofs.ChangeLemmas.{change_at_past, set_changed}
use Rattle.sc_tracker.specs.Lists.{with_one_forgotten}
use Rattle.sc_tracker.proofs.shuffles.forget_at.Goals as goal

pub returns-then-place-len : goal.returns-then-place-len
returns-then-place-len c =
    let v = c.args.shuffles.now in
    set_changed v.items c.args.place.at c.index_mut.result.now c.forget_one.new.self
    (with_one_forgotten c.args.place.map) (omega (arith, v.ok.0))
    c.index_mut.ensures.value c.forget_one.ensures

pub returns-else-place-len : goal.returns-else-place-len
returns-else-place-len c =
    let v = c.args.shuffles.now in
    sym (change_at_past v.items c.args.place.at (with_one_forgotten c.args.place.map)
    (omega (arith, v.ok.0)))
