use Rattle.sc_compute.proofs.LeftLemmas.{direct_made}
use Rattle.sc_compute.proofs.stages.ShuffleInputs.prepare_behind.Goals as goal

pub put-requires-clause-parents : goal.put-requires-clause-parents
put-requires-clause-parents c =
    direct_made c.args.work.now c.args.self.now c.args.node c.requires.right c.requires.parents
