use Rattle.sc_stagecut.proofs.LawLemmas.{cuts_are_lawful}
use Rattle.sc_stagecut.proofs.laws.laws_of_cuts.Goals as goal

pub returns : goal.returns
returns c = cuts_are_lawful
