use Rattle.sc_base.proofs.ApartLemmas.{none_under_both}
use Rattle.sc_output.proofs.NameLemmas.{names_differ, names_lie_within}
use Rattle.sc_output.proofs.laws.laws_of_names.Goals as goal

pub returns-clause-differ : goal.returns-clause-differ
returns-clause-differ c = names_differ

pub returns-clause-within : goal.returns-clause-within
returns-clause-within c = names_lie_within

pub returns-clause-apart : goal.returns-clause-apart
returns-clause-apart c = none_under_both
