use Rattle.std.proofs.Common.{◌∙◌, ap, sym, arith, rules, nat_abs}
use Rattle.std.specs.Int.{w64}
use Rattle.std.specs.Prelude.{Ok}
use Rattle.std.proofs.lemmas.Int.{ints, to_z-of_z}
use Rattle.sc_expr.proofs.ListLemmas.{nth_value-found, nth_value-missing}
use Rattle.sc_expr.proofs.lists.nth_copied.Goals as goal

pub returns-in_ok-copy-in-Some : goal.returns-in_ok-copy-in-Some
returns-in_ok-copy-in-Some c =
    let h = c.in-Some.ensures.lookup in
    nth_value-found c.args.items.now c.args.at _ c.in-Some.item.now (omega (arith, ints))
    (ap nat_abs (to_z-of_z w64 c.args.at (search rules))) h.3.0 h.1
    ∙ ap Ok (sym c.in_ok-copy-in-Some.ensures)

pub returns-in-None : goal.returns-in-None
returns-in-None c =
    nth_value-missing c.args.items.now c.args.at _ (omega (arith, ints))
    (ap nat_abs (to_z-of_z w64 c.args.at (search rules))) c.in-None.ensures.lookup.3
