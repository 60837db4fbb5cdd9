use Rattle.sc_value.proofs.LineLaws.{are_lines}
use Rattle.sc_value.proofs.laws.laws_of_lines.Goals as goal

pub returns : goal.returns
returns c = λ bytes. are_lines bytes
