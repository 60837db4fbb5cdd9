use Rattle.std.proofs.Common.{◌≡◌}
use Rattle.sc_script.specs.Items.{literals_in}
use Rattle.sc_script.specs.Views.{args_left}
use Rattle.sc_script.proofs.ItemLemmas.{literals_with}
use Rattle.sc_script.proofs.arguments.literals_of.Given as goal

abbrev pub invariant-loop-arg : goal.invariant-loop-arg
invariant-loop-arg l =
    literals_in (args_left l.fn.args)
    ≡ literals_with l.literals (literals_in (args_left l.arg-iterator))
