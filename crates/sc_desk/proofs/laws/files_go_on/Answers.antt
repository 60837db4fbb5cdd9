use Rattle.sc_desk.proofs.FilesLemmas.{files_go_on}
use Rattle.sc_desk.proofs.laws.files_go_on.Goals as goal

pub returns : goal.returns
returns c = files_go_on
