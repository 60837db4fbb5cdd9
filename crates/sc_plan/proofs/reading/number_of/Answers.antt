use Rattle.sc_plan.proofs.NumberLemmas.{read_small}
use Rattle.sc_plan.proofs.reading.number_of.Goals as goal

pub returns-in-Err : goal.returns-in-Err
returns-in-Err c = absurd (c.in-Err.ensures.value.0 (read_small c.args.word.now c.requires))
