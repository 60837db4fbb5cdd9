use Rattle.std.proofs.Common.{◌≡◌, ◌∙◌, Bool, List, [], ◌∷◌, map, refl, ap, sym}
use Rattle.std.proofs.lemmas.Result.{IfOk-weaker}
use Rattle.sc_value.specs.Datum.{truth}
use Rattle.sc_value.specs.Kept.{kept}
use Rattle.sc_expr.specs.Heads.{truth_in}
use Rattle.sc_ops.proofs.each.kept_rows.Goals as goal

marks_again : (bs : List Bool) → bs ≡ map truth_in (map truth bs)
marks_again [] = refl
marks_again (b ∷ bs) = ap (λ cs. b ∷ cs) (marks_again bs)

pub returns-in-Some : goal.returns-in-Some
returns-in-Some c =
    let marks = c.in-Some.marks.now in
    IfOk-weaker c.filter.result _ _
    (λ r is. is ∙ ap (λ bs. kept bs c.args.rows.now) (marks_again marks
    ∙ ap (map truth_in) (sym c.in-Some.ensures)))
    c.filter.ensures
