use Rattle.std.proofs.Common.{arith}
use Rattle.sc_columns.proofs.FlatLemmas.{extent_more}
use Rattle.sc_columns.proofs.flats.extent.Goals as goal

pub loop-i-preserved : goal.loop-i-preserved
loop-i-preserved c = record {
  ordered = (let was = c.loop-i.invariant.ordered in omega arith);
  is = extent_more c.args.spans.now c.loop-i.all (record { from = 0; to = 0 }) c.loop-i.i
      (omega arith)
      c.loop-i.invariant.is c.loop-i.invariant.ordered (omega arith) (omega arith);
}
