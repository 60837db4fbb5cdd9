use Rattle.sc_keys.proofs.LawLemmas.{is_split}
use Rattle.sc_keys.proofs.laws.split_law.Goals as goal

pub returns : goal.returns
returns c = is_split
