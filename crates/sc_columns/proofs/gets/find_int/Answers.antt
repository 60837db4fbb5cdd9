use Rattle.std.proofs.Common.{rules, ◌∙◌, ap, refl}
use Rattle.std.proofs.lemmas.Int.{to_z-of_z}
use mir.Val.{SFits}
use mir.Syntax.{w64}
use Rattle.sc_value.specs.Datum.{number}
use Rattle.sc_value.specs.Views.{datum_of}
use Rattle.sc_value.specs.declared.values.Value.TheVariants.{Int}
use Rattle.sc_columns.proofs.FindingLemmas.{found-map, past-map}
use Rattle.sc_columns.proofs.VariantLemmas.{datum_of-Int}
use Rattle.sc_columns.proofs.gets.find_int.Goals as goal

pub returns-in-Some : goal.returns-in-Some
returns-in-Some c =
    let n = c.in-Some.n in
    let fits : SFits w64 c.in-Some.n = search rules in
    found-map number c.args.items.now c.args.i n _ c.in-Some.ensures
    (ap (λ m. datum_of (Int m)) (to_z-of_z w64 n fits) ∙ datum_of-Int n)

pub returns-in-None : goal.returns-in-None
returns-in-None c = past-map number c.args.items.now c.args.i _ c.in-None.ensures refl
