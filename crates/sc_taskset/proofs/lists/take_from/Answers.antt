use Rattle.std.proofs.Common.{◌≡◌, ◌<◌, ◌-◌, ◌∙◌, ℕ, arith, get_or, length, sym}
use Rattle.sc_taskset.proofs.PlaceLemmas.{without_at, without_none}
use Rattle.sc_taskset.proofs.TableLemmas.{get_same}
use Rattle.sc_taskset.proofs.lists.take_from.Goals as goal

pub returns-then-index-place : goal.returns-then-index-place
returns-then-index-place c =
    let xs = c.loop-at.places.items in
    let at : ℕ = c.loop-at.at - 1 in
    let within : at < length xs =
    omega (arith, c.loop-at-test.true, c.loop-at.invariant.within) in
    let here : get_or xs at 0 ≡ c.args.place =
    get_same xs at 0 _ within ∙ sym c.index.ensures ∙ c.if-index-place.true in
    rw (← c.loop-at.invariant.same, c.remove.ensures.items)
    (without_at xs at c.args.place within here)

pub returns : goal.returns
returns c =
    rw (← c.loop-at.invariant.same)
    (without_none c.loop-at.places.items c.args.place
    (λ k l e. c.loop-at.invariant.none k (omega (arith, c.loop-at-test.false)) l e))
