use Rattle.std.proofs.Common.{arith}
use Rattle.sc_ops.proofs.BatchLemmas.{batch-more, batches-all}
use Rattle.sc_ops.proofs.batches.add_batches.Goals as goal

pub loop-from-preserved : goal.loop-from-preserved
loop-from-preserved c = (
  omega arith,
  batch-more c.loop-from.out.items c.push.new.self.items
      c.args.out.now.items c.args.run.now
      c.in_ok-part.field-0 c.loop-from.from _ (omega arith) c.in_ok-push.ensures.items
      c.in_ok-part.ensures c.loop-from.invariant.1,
)

pub returns : goal.returns
returns c =
    batches-all c.loop-from.out.items c.args.out.now.items c.args.run.now c.loop-from.from
    (omega arith)
    c.loop-from.invariant.1
