use Rattle.sc_world.proofs.KeepLemmas.{steps_keep_world}
use Rattle.sc_world.proofs.LawLemmas.{fetches_find, misses_are_known, reports_are_known, worlds_begin, worlds_leave_ready}
use Rattle.sc_world.proofs.laws.worlds_stay_sound.Goals as goal

pub returns-clause-begins : goal.returns-clause-begins
returns-clause-begins c = worlds_begin

pub returns-clause-steps : goal.returns-clause-steps
returns-clause-steps c = steps_keep_world

pub returns-clause-ready : goal.returns-clause-ready
returns-clause-ready c = worlds_leave_ready

pub returns-clause-fetches : goal.returns-clause-fetches
returns-clause-fetches c = fetches_find

pub returns-clause-misses : goal.returns-clause-misses
returns-clause-misses c = misses_are_known

pub returns-clause-reports : goal.returns-clause-reports
returns-clause-reports c = reports_are_known
