use Rattle.sc_staging.proofs.DoneLemmas.{files_stand}
use Rattle.sc_staging.proofs.laws.laws_of_files.Goals as goal

pub returns : goal.returns
returns c = files_stand
