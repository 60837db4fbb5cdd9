-- A journal, and the state that its entries leave.
use Rattle.std.specs.Prelude.{◌≡◌, List, [], ◌∷◌}
use Rattle.sc_core.specs.CoreData.{CoreData}
use Rattle.sc_core.specs.Steps.{Steps}
use Rattle.sc_ids.specs.declared.attempts.Mark.{Mark}
use Rattle.sc_core.specs.declared.answers.Answer.{Answer}
use Rattle.sc_core.specs.declared.events.Event.{Event}
use Rattle.sc_core.specs.declared.entries.Entry.{Entry}

-- from a state, these entries may be what happened, and leave another one
abbrev pub Replays : CoreData → List Entry → CoreData → Type 0
Replays opening [] end = end ≡ opening
Replays opening (entry ∷ entries) end =
    (mid : CoreData) × Steps opening entry.event entry.answer mid × Replays mid entries end

-- what happened, by whom, and what it was answered
abbrev pub entry : Mark → Event → Answer → Entry
entry by event answer = record { by = by; event = event; answer = answer }

-- a journal: how it began, its entries, and the state now
pub record JournalData : Type 0 where
  pub opening : CoreData
  pub entries : List Entry
  pub core : CoreData

abbrev pub journal_data : CoreData → List Entry → CoreData → JournalData
journal_data opening entries core =
    record { opening = opening; entries = entries; core = core }
