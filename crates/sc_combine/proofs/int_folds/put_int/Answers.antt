use Rattle.std.proofs.Common.{rules, ◌∙◌, ◌<◌, ◌++◌, ◌∷◌, [], ℤ, Ok, Err, length, map, set, ap, ap₂, refl, sym, subst, arith, w64, SFits}
use Rattle.std.proofs.lemmas.Int.{to_z-of_z}
use Rattle.std.proofs.lemmas.List.{length-map, map-append}
use Rattle.std.proofs.lemmas.Option.{slice_get-map, slice_get_read}
use Rattle.std.specs.Option.{option_map}
use Rattle.sc_batch.specs.AtInts.{Gives}
use Rattle.sc_expr.specs.Heads.{Outcome}
use Rattle.sc_expr.specs.Meaning.{two_values, value_of_expr}
use Rattle.sc_expr.specs.Views.{expr_data_of}
use Rattle.sc_value.specs.Datum.{number}
use Rattle.sc_combine.specs.Combining.{step_of}
use Rattle.sc_combine.specs.declared.combining.Taken.TheVariants.{Values}
use Rattle.sc_combine.proofs.FoldLemmas.{int_stops, map_set, put_known, put_new}
use Rattle.sc_combine.proofs.int_folds.put_int.Goals as goal

pub returns-then-group-len : goal.returns-then-group-len
returns-then-group-len c =
    let kept = c.args.found.now.items in
    let item = c.args.item in
    let fits : SFits w64 c.args.item = search rules in
    let size = length-map kept number in
    put_new (step_of Values (expr_data_of c.args.expr.now)) (map number kept)
    (map number c.push.new.self.items) c.args.group (number item)
    (omega (arith, size, c.if-group-len.true, c.len.ensures))
    (ap (map number)
    (c.in_ok-push.ensures.items ∙ ap (λ y. kept ++ y ∷ []) (to_z-of_z w64 item fits))
    ∙ map-append number kept (item ∷ []))

pub returns-in-Ok : goal.returns-in-Ok
returns-in-Ok c =
    let e = expr_data_of c.args.expr.now in
    let kept = c.args.found.now.items in
    let n = c.args.group in
    let a = c.index-a.result.now in
    let item = c.args.item in
    let m = c.in-Ok.n in
    let a_fits : SFits w64 c.index-a.result.now = search rules in
    let fits : SFits w64 c.args.item = search rules in
    let m_fits : SFits w64 c.in-Ok.n = search rules in
    let within : c.args.group < length c.args.found.now.items =
    omega (arith, c.if-group-len.false, c.len.ensures) in
    put_known (step_of Values e) (map number kept) n (number a) (number item) (Ok (number m))
    (slice_get-map number kept n
    ∙ ap (option_map number)
    (slice_get_read kept (length kept) n a refl within c.index-a.ensures))
    (sym (ap₂ (λ y z. value_of_expr (two_values (number y) (number z)) e)
    (to_z-of_z w64 a a_fits) (to_z-of_z w64 item fits)) ∙ c.in-Ok.ensures)
    ∙ ap Ok (sym (ap (λ z. map number (set kept n z)) (to_z-of_z w64 m m_fits)
    ∙ map_set number kept n m))

pub returns-in-Err : goal.returns-in-Err
returns-in-Err c =
    let e = expr_data_of c.args.expr.now in
    let kept = c.args.found.now.items in
    let n = c.args.group in
    let a = c.index-a.result.now in
    let item = c.args.item in
    let a_fits : SFits w64 c.index-a.result.now = search rules in
    let fits : SFits w64 c.args.item = search rules in
    let stop = c.in-Err.stop in
    let within : c.args.group < length c.args.found.now.items =
    omega (arith, c.if-group-len.false, c.len.ensures) in
    let P : Outcome → Type 0 = λ o. Gives {X = ℤ} number (Err stop) o in
    int_stops {X = Unit {0}} (λ u. kept) (step_of Values e) (map number kept) n (number a)
    (number item) stop
    (slice_get-map number kept n
    ∙ ap (option_map number)
    (slice_get_read kept (length kept) n a refl within c.index-a.ensures))
    (subst P (ap₂ (λ y z. value_of_expr (two_values (number y) (number z)) e)
    (to_z-of_z w64 a a_fits) (to_z-of_z w64 item fits)) c.in-Err.ensures)
