use Rattle.sc_script.proofs.TableLemmas.{tables_exact}
use Rattle.sc_script.proofs.laws.tables_are_exact.Goals as goal

pub returns : goal.returns
returns c = tables_exact
