use Rattle.std.proofs.Common.{◌≡◌, ◌<◌, ◌+◌, ◌-◌, ◌∙◌, ℕ, arith, ap, get_or, length, subst, sym, take}
use Rattle.std.proofs.lemmas.List.Edits.{length-remove}
use Rattle.sc_taskset.proofs.LossLemmas.{AreLeft, left_none, left_off, left_on, listed_off, listed_on, lost_freed, lost_partition, lost_there, place_there, same_next}
use Rattle.sc_taskset.proofs.TableLemmas.{get_same}
use Rattle.sc_taskset.proofs.losses.lose_listed.Goals as goal

pub offset_bounds-as_slice-place : goal.offset_bounds-as_slice-place
offset_bounds-as_slice-place g c =
    let rows = c.loop-at.table in
    let xs = c.loop-at.places.items in
    let at : ℕ = c.loop-at.at - 1 in
    let place = c.index-place.result.now in
    let within : at < length xs =
    omega (arith, c.loop-at-test.true, c.loop-at.invariant.within) in
    let here : get_or xs at 0 ≡ place = get_same xs at 0 _ within ∙ sym c.index-place.ensures in
    let there = place_there c.args.exec xs rows at place within here c.loop-at.invariant.listed in
    omega (arith, there, ap length c.as_slice.ensures, c.as_slice.type_inv.1)

pub bounds-as_slice-place : goal.bounds-as_slice-place
bounds-as_slice-place g c =
    let rows = c.loop-at.table in
    let xs = c.loop-at.places.items in
    let at : ℕ = c.loop-at.at - 1 in
    let place = c.index-place.result.now in
    let within : at < length xs =
    omega (arith, c.loop-at-test.true, c.loop-at.invariant.within) in
    let here : get_or xs at 0 ≡ place = get_same xs at 0 _ within ∙ sym c.index-place.ensures in
    let there = place_there c.args.exec xs rows at place within here c.loop-at.invariant.listed in
    omega (arith, there, ap length c.as_slice.ensures)

pub put_freed-requires-clause-there : goal.put_freed-requires-clause-there
put_freed-requires-clause-there g c =
    let rows = c.loop-at.table in
    let xs = c.loop-at.places.items in
    let at : ℕ = c.loop-at.at - 1 in
    let place = c.index-place.result.now in
    let within : at < length xs =
    omega (arith, c.loop-at-test.true, c.loop-at.invariant.within) in
    let here : get_or xs at 0 ≡ place = get_same xs at 0 _ within ∙ sym c.index-place.ensures in
    let there = place_there c.args.exec xs rows at place within here c.loop-at.invariant.listed in
    there

pub put_freed-requires-clause-same : goal.put_freed-requires-clause-same
put_freed-requires-clause-same g c =
    let rows = c.loop-at.table in
    let xs = c.loop-at.places.items in
    let at : ℕ = c.loop-at.at - 1 in
    let place = c.index-place.result.now in
    let within : at < length xs =
    omega (arith, c.loop-at-test.true, c.loop-at.invariant.within) in
    let here : get_or xs at 0 ≡ place = get_same xs at 0 _ within ∙ sym c.index-place.ensures in
    let there = place_there c.args.exec xs rows at place within here c.loop-at.invariant.listed in
    let lost = lost_there c.args.exec c.args.redoes rows c.as_slice.result.now place _
    c.lost-row.result c.as_slice.ensures there c.lost-row.ensures in
    lost_partition c.args.exec c.args.redoes rows place c.lost-row.result lost

pub put_freed-requires-clause-freed : goal.put_freed-requires-clause-freed
put_freed-requires-clause-freed g c =
    let rows = c.loop-at.table in
    let xs = c.loop-at.places.items in
    let at : ℕ = c.loop-at.at - 1 in
    let place = c.index-place.result.now in
    let within : at < length xs =
    omega (arith, c.loop-at-test.true, c.loop-at.invariant.within) in
    let here : get_or xs at 0 ≡ place = get_same xs at 0 _ within ∙ sym c.index-place.ensures in
    let there = place_there c.args.exec xs rows at place within here c.loop-at.invariant.listed in
    let lost = lost_there c.args.exec c.args.redoes rows c.as_slice.result.now place _
    c.lost-row.result c.as_slice.ensures there c.lost-row.ensures in
    lost_freed c.args.exec c.args.redoes rows place c.lost-row.result lost

pub loop-at-preserved-then-not-is_on : goal.loop-at-preserved-then-not-is_on
loop-at-preserved-then-not-is_on g c =
    let rows = c.loop-at.table in
    let xs = c.loop-at.places.items in
    let at : ℕ = c.loop-at.at - 1 in
    let place = c.index-place.result.now in
    let within : at < length xs =
    omega (arith, c.loop-at-test.true, c.loop-at.invariant.within) in
    let here : get_or xs at 0 ≡ place = get_same xs at 0 _ within ∙ sym c.index-place.ensures in
    let there = place_there c.args.exec xs rows at place within here c.loop-at.invariant.listed in
    let lost = lost_there c.args.exec c.args.redoes rows c.as_slice.result.now place _
    c.lost-row.result c.as_slice.ensures there c.lost-row.ensures in
    let next : c.loop-at.at ≡ at + 1 = omega (arith, c.loop-at-test.true) in
    let off = sym c.is_on.ensures ∙ c.if-not-is_on.true in
    let one = c.tick.ensures in
    let i = c.loop-at.invariant in
    rw (c.put_freed.ensures, c.remove.ensures.items)
    (record {
      within = omega (arith, within, length-remove xs at within);
      listed = listed_off c.args.exec c.args.redoes rows place c.lost-row.result lost xs at within
          here there off i.listed;
      left = left_off c.args.exec c.args.redoes rows place c.lost-row.result lost xs at
          c.loop-at.at next within here there i.left;
      same = same_next c.args.exec c.args.redoes rows place c.lost-row.result lost
          c.args.table.now i.same;
      steps = omega (arith, one, next, i.steps);
    })

pub loop-at-preserved : goal.loop-at-preserved
loop-at-preserved g c =
    let rows = c.loop-at.table in
    let xs = c.loop-at.places.items in
    let at : ℕ = c.loop-at.at - 1 in
    let place = c.index-place.result.now in
    let within : at < length xs =
    omega (arith, c.loop-at-test.true, c.loop-at.invariant.within) in
    let here : get_or xs at 0 ≡ place = get_same xs at 0 _ within ∙ sym c.index-place.ensures in
    let there = place_there c.args.exec xs rows at place within here c.loop-at.invariant.listed in
    let lost = lost_there c.args.exec c.args.redoes rows c.as_slice.result.now place _
    c.lost-row.result c.as_slice.ensures there c.lost-row.ensures in
    let next : c.loop-at.at ≡ at + 1 = omega (arith, c.loop-at-test.true) in
    let on = sym c.is_on.ensures ∙ c.if-not-is_on.false in
    let one = c.tick.ensures in
    let i = c.loop-at.invariant in
    rw c.put_freed.ensures
    (record {
      within = omega (arith, within);
      listed = listed_on c.args.exec c.args.redoes rows place c.lost-row.result lost xs there on
          i.listed;
      left = left_on c.args.exec c.args.redoes rows place c.lost-row.result lost xs at
          c.loop-at.at next within here there i.left;
      same = same_next c.args.exec c.args.redoes rows place c.lost-row.result lost
          c.args.table.now i.same;
      steps = omega (arith, one, next, i.steps);
    })

pub returns-clause-rows : goal.returns-clause-rows
returns-clause-rows g c = λ failures.
    let rows = c.loop-at.table in
    let i = c.loop-at.invariant in
    let none : c.loop-at.at ≡ 0 = omega (arith, c.loop-at-test.false) in
    sym (left_none c.args.exec c.args.redoes rows
    (subst (λ n. AreLeft c.args.exec c.args.redoes (take n c.loop-at.places.items) rows) none
    i.left) failures)
    ∙ i.same failures
