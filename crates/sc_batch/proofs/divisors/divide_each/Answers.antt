use Rattle.std.proofs.Common.{rules, get_or, pos}
use mir.Val.{SFits}
use mir.Syntax.{w64}
use Rattle.sc_batch.specs.Items.{divided}
use Rattle.sc_batch.proofs.PlaceLemmas.{number_changed}
use Rattle.sc_batch.proofs.divisors.divide_each.Goals as goal

pub loop-number-preserved : goal.loop-number-preserved
loop-number-preserved c =
    let l = c.loop-number in
    let x : SFits w64 (get_or l.numbers l.number-index (pos 0)) = search rules in
    let r : SFits w64 c.divided_by.result = search rules in
    number_changed (λ m. divided c.args.rest m (pos c.args.by.number)) l.number-index
    c.args.numbers.now l.numbers c.divided_by.result l.invariant c.loop-number-test.true x r
    c.divided_by.ensures
