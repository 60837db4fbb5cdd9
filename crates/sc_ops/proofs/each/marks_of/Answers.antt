use Rattle.sc_value.specs.Views.{datum_of}
use Rattle.sc_expr.specs.Heads.{truth_in}
use Rattle.sc_ops.proofs.ReadLemmas.{read-more}
use Rattle.sc_ops.proofs.each.marks_of.Goals as goal

pub loop-i-preserved : goal.loop-i-preserved
loop-i-preserved c =
    read-more truth_in c.args.rows.now c.loop-i.marks.items c.push.new.self.items
    (datum_of c.in_ok-row.row)
    c.truth_of.result c.loop-i.i c.in_ok-row.ensures c.truth_of.ensures c.in_ok-push.ensures.items
    c.loop-i.invariant
