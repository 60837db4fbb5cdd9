use Rattle.sc_laws.proofs.CoalesceLemmas.{coalesces}
use Rattle.sc_laws.proofs.laws.coalesce_law.Goals as goal

pub returns : goal.returns
returns c = coalesces
