use Rattle.std.proofs.Common.{arith, sym}
use Rattle.sc_ids.specs.Changes.{change_at}
use Rattle.sc_ids.proofs.ChangeLemmas.{change_at_past, set_changed}
use Rattle.sc_tracker.proofs.lists.put_at.Goals as goal

pub returns-then-place-len : goal.returns-then-place-len
returns-then-place-len c =
    let v = c.args.rows.now in
    set_changed v.items c.args.place.at c.index_mut.result.now c.put.new.self
    (λ row. change_at row c.args.place.map (λ _. c.args.link)) (omega (arith, v.ok.0))
    c.index_mut.ensures.value c.put.ensures

pub returns-else-place-len : goal.returns-else-place-len
returns-else-place-len c =
    let v = c.args.rows.now in
    sym (change_at_past v.items c.args.place.at
    (λ row. change_at row c.args.place.map (λ _. c.args.link)) (omega (arith, v.ok.0)))
