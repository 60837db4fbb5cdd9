use Rattle.sc_value.specs.Views.{datum_of}
use Rattle.sc_ops.specs.Given.{item_count}
use Rattle.sc_ops.proofs.ReadLemmas.{read-more}
use Rattle.sc_ops.proofs.keyed.list_lens.Goals as goal

pub loop-i-preserved : goal.loop-i-preserved
loop-i-preserved c =
    read-more item_count c.args.rows.now c.loop-i.lens.items c.push.new.self.items
    (datum_of c.in_ok-row.row)
    c.list_len.result c.loop-i.i c.in_ok-row.ensures c.list_len.ensures c.in_ok-push.ensures.items
    c.loop-i.invariant
