use Rattle.std.proofs.Common.{◌∙◌, ap, inl, sym}
use Rattle.sc_desk.specs.Dues.{first_key}
use Rattle.sc_desk.proofs.DueLemmas.{no_first}
use Rattle.sc_desk.proofs.dues.first_if_idle.Goals as goal

pub returns-else-is_busy-clause-none : goal.returns-else-is_busy-clause-none
returns-else-is_busy-clause-none c none =
    inl (no_first c.args.core.now.shelf
    (ap first_key (sym c.shelf.ensures) ∙ sym c.first_key.ensures ∙ none))
