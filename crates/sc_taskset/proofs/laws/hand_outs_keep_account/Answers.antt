use Rattle.sc_taskset.proofs.LawLemmas.{account_kept}
use Rattle.sc_taskset.proofs.laws.hand_outs_keep_account.Goals as goal

pub returns : goal.returns
returns c = account_kept
