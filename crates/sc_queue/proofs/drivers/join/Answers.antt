use Rattle.sc_queue.proofs.PassLemmas.{merges_as}
use Rattle.sc_queue.proofs.drivers.join.Goals as goal

pub absorb-requires-clause-rule : goal.absorb-requires-clause-rule
absorb-requires-clause-rule g c =
    merges_as _ _ _ _ _ _ c.requires.driver c.args.poster.own c.requires.order
