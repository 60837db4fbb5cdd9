use Rattle.std.proofs.Common.{◌∙◌, sym, ap, map}
use Rattle.sc_value.specs.Views.{datum_of}
use Rattle.sc_value.proofs.SameLemmas.{list_of-items_of}
use Rattle.sc_value.proofs.ViewLemmas.{datum_of-List}
use Rattle.sc_expr.specs.Heads.{items_in}
use Rattle.sc_expr.proofs.arguments.items_in.Goals as goal

pub returns-in-List : goal.returns-in-List
returns-in-List c =
    ap (map datum_of) c.as_slice.ensures.value
    ∙ sym (ap items_in (ap datum_of c.in-List.is ∙ datum_of-List _) ∙ list_of-items_of _)
