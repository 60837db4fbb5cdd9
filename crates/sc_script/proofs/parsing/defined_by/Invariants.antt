use Rattle.sc_script.specs.Defining.{defined_data_of}
use Rattle.sc_script.proofs.ScriptLemmas.{IsReadTo}
use Rattle.sc_script.proofs.parsing.defined_by.Given as goal

abbrev pub invariant-loop-i : goal.invariant-loop-i
invariant-loop-i l = IsReadTo l.lines l.i (defined_data_of l.defined)
