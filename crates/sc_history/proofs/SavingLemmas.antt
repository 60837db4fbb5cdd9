-- A job saves in the end exactly where it did as it began.
use Rattle.std.proofs.Common.{[], ◌∷◌, ap, ◌∙◌}
use Rattle.sc_core.specs.CoreData.{CoreData}
use Rattle.sc_core.specs.Posts.{is_save}
use Rattle.sc_core.proofs.IsSaveLemmas.{step_saves}
use Rattle.sc_history.specs.Committing.{SavesStay}

pub saves_stay : SavesStay
saves_stay opening end [] is = ap (λ (x : CoreData). is_save x.committers) is
saves_stay opening end (entry ∷ entries) (mid, step, rest) =
    saves_stay mid end entries rest ∙ step_saves opening mid entry.event entry.answer step
