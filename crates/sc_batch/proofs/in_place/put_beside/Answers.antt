use Rattle.std.proofs.Common.{rules, ◌≤◌, ◌∙◌, length, map, replicate, ap, sym, subst, arith}
use Rattle.std.proofs.lemmas.Int.{to_z-of_z}
use Rattle.std.proofs.lemmas.List.{length-replicate}
use mir.Val.{SFits}
use mir.Syntax.{w64}
use Rattle.sc_columns.specs.Columns.{zip_with}
use Rattle.sc_batch.specs.Items.{int_value, list_in}
use Rattle.sc_batch.proofs.PlaceLemmas.{zipped_with_one}
use Rattle.sc_batch.proofs.in_place.put_beside.Goals as goal

pub returns-in-Same : goal.returns-in-Same
returns-in-Same c =
    let f = int_value c.args.head in
    let xs = c.args.numbers.now in
    let y = c.in-Same.other.now in
    let n = c.in-Same.field-1 in
    let fits : SFits w64 y = search rules in
    let are = ap list_in c.in-Same.is in
    let within : length xs ≤ length (replicate n y) =
    subst (λ ys. length xs ≤ length ys) are c.requires in
    c.with_number.ensures
    ∙ ap (λ z. map (λ m. f m z) xs) (to_z-of_z w64 y fits)
    ∙ zipped_with_one f xs n y (omega (arith, within, length-replicate n y))
    ∙ ap (zip_with f xs) (sym are)
