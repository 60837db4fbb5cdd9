use Rattle.std.proofs.Common.{rules, ◌<◌, ◌∙◌, length, get_or, pos, arith}
use mir.Val.{SFits}
use mir.Syntax.{w64}
use Rattle.sc_batch.specs.Items.{int_value}
use Rattle.sc_batch.proofs.NumberLemmas.{read_back}
use Rattle.sc_batch.proofs.PlaceLemmas.{zipped_more_to, zipped_whole}
use Rattle.sc_batch.proofs.in_place.with_each.Goals as goal

pub loop-i-preserved : goal.loop-i-preserved
loop-i-preserved c =
    let f = int_value c.args.head in
    let x : SFits w64 (get_or c.loop-i.numbers c.loop-i.i (pos 0)) = search rules in
    let y : SFits w64 (get_or c.args.others.now c.loop-i.i (pos 0)) = search rules in
    let r : SFits w64 c.value_of.result = search rules in
    let within : c.loop-i.i < length c.args.others.now = omega arith in
    zipped_more_to f c.loop-i.i c.args.numbers.now c.loop-i.numbers c.args.others.now (pos 0) _
    (pos 0) c.loop-i-test.true within c.loop-i.invariant
    (read_back f _ _ _ x y r c.value_of.ensures)

pub returns : goal.returns
returns c =
    c.loop-i.invariant
    ∙ zipped_whole (int_value c.args.head) c.loop-i.i c.args.numbers.now c.args.others.now
    c.requires (omega arith)
