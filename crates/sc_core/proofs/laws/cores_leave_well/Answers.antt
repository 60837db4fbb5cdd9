use Rattle.sc_core.proofs.LeavingLemmas.{sound_cores_leave_well, unregistered_leave_well}
use Rattle.sc_core.proofs.laws.cores_leave_well.Goals as goal

pub returns-clause-sound : goal.returns-clause-sound
returns-clause-sound c = sound_cores_leave_well

pub returns-clause-unregistered : goal.returns-clause-unregistered
returns-clause-unregistered c = unregistered_leave_well
