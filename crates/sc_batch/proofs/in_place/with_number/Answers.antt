use Rattle.std.proofs.Common.{rules, get_or, pos, to_z, of_z}
use mir.Val.{SFits}
use mir.Syntax.{w64}
use Rattle.sc_batch.specs.Items.{int_value}
use Rattle.sc_batch.proofs.PlaceLemmas.{number_changed}
use Rattle.sc_batch.proofs.in_place.with_number.Goals as goal

pub loop-number-preserved : goal.loop-number-preserved
loop-number-preserved c =
    let l = c.loop-number in
    let x : SFits w64 (get_or l.numbers l.number-index (pos 0)) = search rules in
    let r : SFits w64 c.value_of.result = search rules in
    number_changed (λ m. int_value c.args.head m (to_z w64 (of_z w64 c.args.other)))
    l.number-index c.args.numbers.now l.numbers c.value_of.result l.invariant
    c.loop-number-test.true x r c.value_of.ensures
