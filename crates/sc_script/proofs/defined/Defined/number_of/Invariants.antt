use Rattle.std.proofs.Common.{◌≡◌, drop}
use Rattle.sc_script.specs.Items.{number_from}
use Rattle.sc_script.proofs.defined.Defined.number_of.Given as goal

abbrev pub invariant-loop-i : goal.invariant-loop-i
invariant-loop-i l =
    number_from l.i (drop l.i l.self.names.items) l.name
    ≡ number_from 0 l.self.names.items l.name
