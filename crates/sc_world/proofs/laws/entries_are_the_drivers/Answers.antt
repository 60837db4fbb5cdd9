use Rattle.sc_world.proofs.EntryLemmas.{driver_enters_all}
use Rattle.sc_world.proofs.laws.entries_are_the_drivers.Goals as goal

pub returns : goal.returns
returns c = driver_enters_all
