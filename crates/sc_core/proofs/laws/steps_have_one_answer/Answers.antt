use Rattle.sc_core.proofs.LawLemmas.{replays_agree, steps_agree}
use Rattle.sc_core.proofs.laws.steps_have_one_answer.Goals as goal

pub returns-clause-steps : goal.returns-clause-steps
returns-clause-steps c = steps_agree

pub returns-clause-replays : goal.returns-clause-replays
returns-clause-replays c = replays_agree
