use Rattle.std.proofs.Common.{◌∙◌, ap, sym, subst, map, rules}
use Rattle.std.specs.Int.{w64}
use Rattle.std.proofs.lemmas.Int.{to_z-of_z}
use Rattle.sc_base.specs.Answers.{Answers}
use Rattle.sc_value.specs.Views.{datum_of}
use Rattle.sc_value.proofs.SameLemmas.{list_of-items_of}
use Rattle.sc_value.proofs.ViewLemmas.{datum_of-List}
use Rattle.sc_expr.specs.Heads.{items_in, nth_value}
use Rattle.sc_expr.specs.Views.{argument_of}
use Rattle.sc_expr.proofs.lists.nth.Goals as goal

pub returns-in-List : goal.returns-in-List
returns-in-List c =
    let at = to_z-of_z w64 c.args.at (search rules) in
    let same = ap items_in (ap argument_of c.in-Own.is ∙ ap datum_of c.in-List.is
    ∙ datum_of-List c.in-List.items) ∙ list_of-items_of _ in
    subst (λ ds. Answers datum_of (λ r. r) c.nth_taken.result (nth_value ds c.args.at)) (sym same)
    (subst (λ z. Answers datum_of (λ r. r) c.nth_taken.result
    (nth_value (map datum_of c.in-List.items.items) z)) at c.nth_taken.ensures)
