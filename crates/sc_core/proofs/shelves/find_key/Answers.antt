use Rattle.std.proofs.Common.{rules, tests, ◌∙◌}
use Rattle.std.proofs.lemmas.Iterator.{YieldsList-from_slice}
use Rattle.std.proofs.lemmas.Iterator.Search.{find_from_yields_List}
use Rattle.sc_core.specs.CoreData.{has_key}
use Rattle.sc_core.proofs.shelves.find_key.Goals as goal

pub returns : goal.returns
returns c =
    c.copied.ensures ∙ find_from_yields_List (has_key c.args.key) _ _ _ c.find.ensures.ran
    (YieldsList-from_slice c.args.shelf.now cc) (λ x b q k. search (rules, tests))
