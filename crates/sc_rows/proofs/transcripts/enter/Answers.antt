use Rattle.sc_rows.proofs.RoomLemmas.{entered_room}
use Rattle.sc_rows.proofs.transcripts.enter.Goals as goal

pub returns-in-Ok : goal.returns-in-Ok
returns-in-Ok g c =
    entered_room c.enter.result c.args.journal.now.0 c.enter.new.self.0 c.event_of-event.result
    c.enter.ensures.step c.enter.ensures.unchanged
