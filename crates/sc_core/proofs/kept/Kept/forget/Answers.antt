use Rattle.std.proofs.Common.{ap, ◌∙◌}
use Rattle.sc_core.proofs.KeptLemmas.{none_left}
use Rattle.sc_core.specs.Kept.{kept_at}
use Rattle.sc_core.proofs.kept.Kept.forget.Goals as goal

pub returns : goal.returns
returns c stage =
    ap (λ kept. kept_at kept stage) c.forget_all.ensures ∙ none_left c.self.inside.lists.items stage
