-- What happens beside the reports is entered.
use Rattle.std.specs.Prelude.{ℕ, ◌≡◌, Bool, true, false, length}
use Rattle.sc_ids.specs.declared.attempts.Mark.{Mark}
use Rattle.sc_ids.specs.declared.attempts.Mark.TheVariants.{Exec}
use Rattle.sc_core.specs.declared.answers.Answer.{Answer}
use Rattle.sc_core.specs.declared.answers.Answer.TheVariants as says
use Rattle.sc_core.specs.declared.answers.SideAnswer.{SideAnswer}
use Rattle.sc_core.specs.declared.events.Event.TheVariants.{Side}
use Rattle.sc_core.specs.declared.events.SideEvent.{SideEvent}
use Rattle.sc_core.specs.declared.events.SideEvent.TheVariants.{Leave}
use Rattle.sc_desk.specs.DeskData.{DeskData, core_of}
use Rattle.sc_desk.specs.Entries.{Enters}
use Rattle.sc_desk.specs.Leaving.{has_left}
use Rattle.sc_desk.specs.Shelves.{shelf_in}
use Rattle.sc_desk.specs.declared.receipts.Noted.{Noted}

-- its entry, at this place, has what the core answers, and no result changes
pub record Notes (d : DeskData) (by : Mark) (event : SideEvent) (noted : Noted) (after : DeskData)
    : Type 0 where
  pub place : noted.entry ≡ length d.journal.entries
  pub enters : Enters d by (Side event) (says.Side noted.answer) after
  pub results : after.results ≡ d.results
  pub shelf : after.shelf ≡ shelf_in (core_of after) d.shelf

-- an answer is one to what happens beside the reports
abbrev pub IsSaidAside : Answer → Type 0
IsSaidAside answer = (said : SideAnswer) × (answer ≡ says.Side said)

-- an executor leaves, which it marks itself; where it left before nothing changes
abbrev pub Leaves : DeskData → ℕ → Bool → DeskData → Type 0
Leaves d exec true after =
    (has_left exec d.journal.entries ≡ false)
    × ((noted : Noted) × Notes d (Exec exec) (Leave exec) noted after)
Leaves d exec false after = (has_left exec d.journal.entries ≡ true) × (after ≡ d)
