use Rattle.std.proofs.Common.{rules}
use Rattle.sc_core.proofs.SavingLemmas.{asks_past}
use Rattle.sc_core.proofs.states.State.ask.Goals as goal

-- src/saving.rt:40:5
pub returns-in-Over : goal.returns-in-Over
returns-in-Over c = search (rules, asks_past)
