use Rattle.sc_words.proofs.PlainLemmas.{flag_asks_for_copies}
use Rattle.sc_words.proofs.laws.flag_asks_for_copies.Goals as goal

pub returns : goal.returns
returns c = flag_asks_for_copies
