use Rattle.std.proofs.Common.{◌∙◌, ap, map, arith}
use Rattle.sc_ops.proofs.PairLemmas.{span_len, list_counts}
use Rattle.sc_ops.proofs.ReadLemmas.{read-all}
use Rattle.sc_ops.proofs.keyed.span_lens.Goals as goal

pub returns : goal.returns
returns c = λ rows are.
    read-all span_len c.as_slice-spans.result.now c.loop-span.lens.items c.loop-span.span-index
    (omega arith) c.loop-span.invariant
    ∙ ap (map span_len) c.as_slice-spans.ensures ∙ list_counts rows c.args.lists.now are
