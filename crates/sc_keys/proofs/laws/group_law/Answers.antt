use Rattle.sc_keys.proofs.LawLemmas.{rows_of_group}
use Rattle.sc_keys.proofs.laws.group_law.Goals as goal

pub returns : goal.returns
returns c same laws key rows j own at = rows_of_group same laws key rows j own at
