use Rattle.sc_tracker.proofs.BlockLemmas.{forgets_on_one, lookups_sound, registers_one, sizes_for_all, unregisters_all}
use Rattle.sc_tracker.proofs.laws.laws_of_blocks.Goals as goal

pub returns-clause-sound : goal.returns-clause-sound
returns-clause-sound c = lookups_sound

pub returns-clause-sized : goal.returns-clause-sized
returns-clause-sized c = sizes_for_all

pub returns-clause-registered : goal.returns-clause-registered
returns-clause-registered c = registers_one

pub returns-clause-forgotten : goal.returns-clause-forgotten
returns-clause-forgotten c = forgets_on_one

pub returns-clause-unregistered : goal.returns-clause-unregistered
returns-clause-unregistered c = unregisters_all
