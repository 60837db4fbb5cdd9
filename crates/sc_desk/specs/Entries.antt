-- What one entry leaves of a desk.
use Rattle.std.specs.Prelude.{◌≡◌, [], ◌∷◌, ◌++◌}
use Rattle.sc_ids.specs.declared.attempts.Mark.{Mark}
use Rattle.sc_core.specs.Journals.{entry}
use Rattle.sc_core.specs.Steps.{Steps}
use Rattle.sc_core.specs.declared.answers.Answer.{Answer}
use Rattle.sc_core.specs.declared.events.Event.{Event}
use Rattle.sc_desk.specs.DeskData.{DeskData, core_of}

-- One event is entered with its answer: it is what the core does, and all else stays but for the
-- results and the shelf.
pub record Enters (d : DeskData) (by : Mark) (event : Event) (answer : Answer) (after : DeskData)
    : Type 0 where
  pub step : Steps (core_of d) event answer (core_of after)
  pub entries : after.journal.entries ≡ d.journal.entries ++ entry by event answer ∷ []
  pub opening : after.journal.opening ≡ d.journal.opening
  pub job : after.job ≡ d.job
  pub carried : after.carried ≡ d.carried
  pub ordered : after.ordered ≡ d.ordered
