use Rattle.sc_dag.proofs.Opening.{openings_are_sound}
use Rattle.sc_dag.proofs.SoundCalls.{calls_keep_sound}
use Rattle.sc_dag.proofs.laws.stages_are_sound.Goals as goal

pub returns-clause-begins : goal.returns-clause-begins
returns-clause-begins c = openings_are_sound

pub returns-clause-keeps : goal.returns-clause-keeps
returns-clause-keeps c = calls_keep_sound
