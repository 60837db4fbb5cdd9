use Rattle.sc_value.specs.Views.{datum_of}
use Rattle.sc_expr.specs.Heads.{first_of, second_of}
use Rattle.sc_batch.proofs.PairLemmas.{read_more}
use Rattle.sc_batch.proofs.pairs.parts_of_each.Goals as goal

pub loop-i-preserved : goal.loop-i-preserved
loop-i-preserved c = (
  read_more first_of c.args.rows.now c.loop-i.first c.push_parts.new.first
      (datum_of c.in_ok-row.row) c.loop-i.i
      c.in_ok-row.ensures c.in_ok-push_parts.ensures.first c.loop-i.invariant.0,
  read_more second_of c.args.rows.now c.loop-i.second c.push_parts.new.second
      (datum_of c.in_ok-row.row) c.loop-i.i
      c.in_ok-row.ensures c.in_ok-push_parts.ensures.second c.loop-i.invariant.1,
)
