use Rattle.std.proofs.Common.{◌∙◌, ap, arith, take}
use Rattle.sc_value.proofs.BlockLemmas.{block_cut}
use Rattle.sc_value.proofs.blocks.append_part.Goals as goal

pub returns : goal.returns
returns c =
    let part = c.args.part in
    c.truncate.ensures.items
    ∙ ap (take _) c.in_ok-extend_from_slice.ensures.items
    ∙ block_cut c.args.out.now.items c.args.bytes.now part.from part.to 16 _ c.requires.ordered
    (omega arith) (omega arith)
