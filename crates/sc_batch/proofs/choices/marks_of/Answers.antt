use Rattle.std.proofs.Common.{◌∙◌, ap, sym, map}
use Rattle.sc_expr.specs.Heads.{truth_in}
use Rattle.sc_batch.proofs.ChoiceLemmas.{map-truth_in}
use Rattle.sc_batch.proofs.choices.marks_of.Goals as goal

pub returns-in_ok-from_slice-in-Some : goal.returns-in_ok-from_slice-in-Some
returns-in_ok-from_slice-in-Some c =
    c.in_ok-from_slice-in-Some.ensures.items ∙ map-truth_in c.in-Some.all.now
    ∙ ap (map truth_in) (sym c.in-Some.ensures)
