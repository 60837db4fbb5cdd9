use Rattle.sc_words.proofs.PlainLemmas.{names_are_commands}
use Rattle.sc_words.proofs.laws.names_are_commands.Goals as goal

pub returns : goal.returns
returns c = names_are_commands
