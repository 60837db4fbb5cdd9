use Rattle.std.proofs.Common.{rules, ◌∙◌, ◌++◌, ap, replicate, sym}
use Rattle.std.proofs.lemmas.Int.{to_z-of_z}
use mir.Syntax.{w64}
use mir.Val.{SFits}
use Rattle.sc_value.specs.Datum.{number}
use Rattle.sc_value.specs.Views.{datum_of}
use Rattle.sc_columns.proofs.ListLemmas.{copies_behind}
use Rattle.sc_columns.proofs.VariantLemmas.{at-Same, datum_of-Int}
use Rattle.sc_columns.proofs.adds.add_ints.Goals as goal

pub returns-in_ok-push_copies-in-Int : goal.returns-in_ok-push_copies-in-Int
returns-in_ok-push_copies-in-Int c =
    let k = c.in-Int.k in
    let n = c.in-Same.n in
    let fits : SFits w64 c.in-Int.k = search rules in
    copies_behind number c.args.out.now.items c.push_copies.new.out.items k
    (datum_of c.in-Same.value.value) n _
    (c.in_ok-push_copies-in-Int.ensures
    ∙ ap (λ m. c.args.out.now.items ++ replicate n m) (to_z-of_z w64 k fits))
    (at-Same c.args.column.now c.in-Same.value n c.in-Same.is)
    (ap datum_of (sym c.deref.ensures ∙ c.in-Int.is) ∙ datum_of-Int k)
