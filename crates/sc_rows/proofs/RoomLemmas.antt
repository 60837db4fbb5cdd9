-- No entry of a journal changes for how many outputs of a shuffle there is room.
use Rattle.std.proofs.Common.{◌≡◌, IfOk, OnErr, Result, Ok, Err, ap}
use Rattle.sc_core.specs.Journals.{JournalData}
use Rattle.sc_core.specs.Steps.{Steps}
use Rattle.sc_core.specs.declared.answers.Answer.{Answer}
use Rattle.sc_core.specs.declared.events.Event.{Event}
use Rattle.sc_history.proofs.RoomLemmas.{steps_keep_room}
use Rattle.sc_rows.specs.Jobs.{room_of, words_shuffle}

-- nor does one that is refused
pub entered_room :
    {E : Type 0} (r : Result Answer E) (j after : JournalData) (event : Event)
    → IfOk r (λ answer. Steps j.core event answer after.core) → OnErr r (after ≡ j)
    → room_of after.core ≡ room_of j.core
entered_room (Ok answer) j after event step err =
    (steps_keep_room j.core after.core event answer step words_shuffle).outputs
entered_room (Err e) j after event step err = ap (λ (x : JournalData). room_of x.core) err
