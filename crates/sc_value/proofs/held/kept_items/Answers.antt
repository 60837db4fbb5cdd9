use Rattle.std.proofs.Common.{◌∙◌, ◌++◌, ap, arith}
use Rattle.sc_value.proofs.KeptLemmas.{kept_all, kept_more}
use Rattle.sc_value.proofs.held.kept_items.Goals as goal

pub loop-from-preserved : goal.loop-from-preserved
loop-from-preserved g c =
    record {
      within = omega (arith, c.loop-from.invariant.within, c.loop-from-test.true);
      kept = kept_more c.args.marks.now c.args.items.now c.loop-from.out.items _ _ c.loop-from.from
          _ (omega arith)
          (c.in_ok-extend_from_slice.ensures.items
          ∙ ap (λ xs. c.loop-from.out.items ++ xs)
          (c.deref.ensures.value ∙ c.in_ok-keep_block.ensures))
          c.loop-from.invariant.kept;
    }

pub returns : goal.returns
returns g c =
    kept_all c.args.marks.now c.args.items.now _ _ c.loop-from.from (omega arith)
    c.loop-from.invariant.kept
