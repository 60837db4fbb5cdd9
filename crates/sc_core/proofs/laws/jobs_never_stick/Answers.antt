use Rattle.sc_core.proofs.LawLemmas.{events_are_answered, waits_have_cause}
use Rattle.sc_core.proofs.OthersLemmas.{waits_are_for_others}
use Rattle.sc_core.proofs.SpendLemmas.{steps_are_spent}
use Rattle.sc_core.proofs.laws.jobs_never_stick.Goals as goal

pub returns-clause-answered : goal.returns-clause-answered
returns-clause-answered c = events_are_answered

pub returns-clause-waits : goal.returns-clause-waits
returns-clause-waits c = waits_have_cause

pub returns-clause-others : goal.returns-clause-others
returns-clause-others c = waits_are_for_others

pub returns-clause-spent : goal.returns-clause-spent
returns-clause-spent c = steps_are_spent
