use Rattle.sc_history.proofs.MadeRoomLemmas.{openings_make_room}
use Rattle.sc_history.proofs.RoomLemmas.{replays_keep_room, steps_keep_room}
use Rattle.sc_history.proofs.laws.room_is_kept.Goals as goal

pub returns-clause-openings : goal.returns-clause-openings
returns-clause-openings c = openings_make_room

pub returns-clause-steps : goal.returns-clause-steps
returns-clause-steps c = steps_keep_room

pub returns-clause-replays : goal.returns-clause-replays
returns-clause-replays c = replays_keep_room
