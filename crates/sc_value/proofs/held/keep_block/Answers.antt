use Rattle.std.proofs.Common.{◌∙◌, get_or, false, refl, arith}
use Rattle.std.proofs.lemmas.List.{length-set}
use Rattle.sc_value.proofs.KeptLemmas.{kept_next, kept_all, step_below}
use Rattle.sc_value.proofs.held.keep_block.Goals as goal

pub loop-i-preserved : goal.loop-i-preserved
loop-i-preserved g c =
    let out = c.loop-i.block.items in
    let mark = get_or c.args.marks.now c.loop-i.i false in
    let below = step_below mark c.from-n.result c.from-n.ensures in
    record {
      before = omega (arith, below, c.loop-i.invariant.before);
      room = length-set out c.loop-i.n c.index-items-i.result ∙ c.loop-i.invariant.room;
      kept = kept_next c.args.marks.now c.args.items.now out _ c.loop-i.n c.from-n.result
          c.loop-i.i mark c.index-items-i.result (omega arith) (omega arith) (omega arith) refl
          c.from-n.ensures c.index-items-i.is c.loop-i.invariant.kept;
    }

pub returns : goal.returns
returns g c =
    c.truncate.ensures.items
    ∙ kept_all c.args.marks.now c.args.items.now _ _ c.loop-i.i (omega arith)
    c.loop-i.invariant.kept
