use Rattle.std.proofs.Common.{arith}
use Rattle.sc_plan.proofs.TableLemmas.{lows-le-highs}
use Rattle.sc_plan.proofs.lookups.Table.places.Goals as goal

pub returns-clause-ordered : goal.returns-clause-ordered
returns-clause-ordered c =
    omega (
      arith,
      c.below.ensures.count,
      c.below-2.ensures.count,
      lows-le-highs c.args.from c.args.to c.requires c.args.self.now,
    )
