-- An executor that leaves, at the desk.
use Rattle.std.proofs.Common.{◌≡◌, ℕ, length, refl, subst}
use Rattle.sc_ids.specs.declared.attempts.Mark.TheVariants.{Exec}
use Rattle.sc_core.specs.Sides.{StepsAside}
use Rattle.sc_core.specs.declared.answers.Answer.{Answer}
use Rattle.sc_core.specs.declared.events.Event.TheVariants.{Side}
use Rattle.sc_core.specs.declared.events.SideEvent.TheVariants.{Leave}
use Rattle.sc_desk.specs.Asides.{Notes}
use Rattle.sc_desk.specs.DeskData.{DeskData, core_of}
use Rattle.sc_desk.specs.Entries.{Enters}
use Rattle.sc_desk.specs.Shelves.{shelf_in}
use Rattle.sc_desk.specs.declared.receipts.Noted.{Noted}

-- what is entered of one that leaves is as beside the reports
pub left_notes :
    (d after : DeskData) (exec : ℕ) (answer : Answer)
    → Enters d (Exec exec) (Side (Leave exec)) answer after → after.results ≡ d.results
    → after.shelf ≡ shelf_in (core_of after) d.shelf
    → (noted : Noted) × Notes d (Exec exec) (Leave exec) noted after
left_notes d after exec answer enters results shelf = of enters.step
  where
    of : StepsAside (core_of d) (Leave exec) answer (core_of after)
        → (noted : Noted) × Notes d (Exec exec) (Leave exec) noted after
    of (said, is, step) = (
      record { entry = length d.journal.entries; answer = said },
      record {
        place = refl;
        enters = subst (λ a. Enters d (Exec exec) (Side (Leave exec)) a after) is enters;
        results = results;
        shelf = shelf;
      },
    )
