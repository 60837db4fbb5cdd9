use Rattle.sc_queue.proofs.PassLemmas.{forks}
use Rattle.sc_queue.proofs.drivers.hire.Goals as goal

pub another-theirs-requires-clause-rule : goal.another-theirs-requires-clause-rule
another-theirs-requires-clause-rule g c = forks _ _ c.requires.driver
