use Rattle.sc_keys.proofs.LawLemmas.{rows_of_bucket}
use Rattle.sc_keys.proofs.laws.bucket_law.Goals as goal

pub returns : goal.returns
returns c = rows_of_bucket
