use Rattle.std.proofs.Common.{arith, rules, ap, nat_abs}
use Rattle.std.specs.Int.{w64}
use Rattle.std.proofs.lemmas.Int.{ints, to_z-of_z}
use Rattle.sc_expr.proofs.ListLemmas.{nth_value-found, nth_value-missing}
use Rattle.sc_expr.proofs.lists.nth_taken.Goals as goal

pub returns-then-place-len : goal.returns-then-place-len
returns-then-place-len c =
    nth_value-found c.args.items.items c.args.at _ c.swap_remove.result (omega (arith, ints))
    (ap nat_abs (to_z-of_z w64 c.args.at (search rules))) (omega arith) c.swap_remove.ensures.value

pub returns : goal.returns
returns c =
    nth_value-missing c.args.items.items c.args.at _ (omega (arith, ints))
    (ap nat_abs (to_z-of_z w64 c.args.at (search rules))) (omega arith)
