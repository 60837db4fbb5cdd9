use Rattle.std.proofs.Common.{◌∙◌, ap, sym}
use Rattle.sc_value.specs.Datum.{truth}
use Rattle.sc_value.specs.Views.{datum_of}
use Rattle.sc_columns.proofs.ListLemmas.{copies_behind}
use Rattle.sc_columns.proofs.VariantLemmas.{at-Same, datum_of-Bool}
use Rattle.sc_columns.proofs.adds.add_bools.Goals as goal

pub returns-in_ok-push_copies-in-Bool : goal.returns-in_ok-push_copies-in-Bool
returns-in_ok-push_copies-in-Bool c =
    copies_behind truth c.args.out.now.items c.push_copies.new.out.items c.in-Bool.b
    (datum_of c.in-Same.value.value) c.in-Same.n _
    c.in_ok-push_copies-in-Bool.ensures
    (at-Same c.args.column.now c.in-Same.value c.in-Same.n c.in-Same.is)
    (ap datum_of (sym c.deref.ensures ∙ c.in-Bool.is) ∙ datum_of-Bool c.in-Bool.b)
