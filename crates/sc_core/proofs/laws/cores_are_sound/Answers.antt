use Rattle.sc_core.proofs.LawLemmas.{openings_are_sound, replays_keep_sound, steps_keep_sound}
use Rattle.sc_core.proofs.StaffLemmas.{first_has_live}
use Rattle.sc_core.proofs.laws.cores_are_sound.Goals as goal

pub returns-clause-first : goal.returns-clause-first
returns-clause-first c = first_has_live

pub returns-clause-begins : goal.returns-clause-begins
returns-clause-begins c = openings_are_sound

pub returns-clause-steps : goal.returns-clause-steps
returns-clause-steps c = steps_keep_sound

pub returns-clause-replays : goal.returns-clause-replays
returns-clause-replays c = replays_keep_sound
