use Rattle.sc_value.proofs.NumberLemmas.{numbers_are_spelled}
use Rattle.sc_value.proofs.laws.laws_of_numbers.Goals as goal

pub returns : goal.returns
returns c = numbers_are_spelled
