use Rattle.sc_staging.proofs.WayLemmas.{ways_go_on}
use Rattle.sc_staging.proofs.laws.laws_of_ways.Goals as goal

pub returns : goal.returns
returns c = ways_go_on
