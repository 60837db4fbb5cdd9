use Rattle.std.proofs.Common.{arith}
use Rattle.sc_script.proofs.CountLemmas.{counted}
use Rattle.sc_script.proofs.defined.Defined.node_in.Goals as goal

pub returns-in-Some-clause-count : goal.returns-in-Some-clause-count
returns-in-Some-clause-count c =
    counted c.args.self.now.script c.in-Some.number c.is_sound.ensures
    (omega (arith, c.in-Some.ensures.within))
