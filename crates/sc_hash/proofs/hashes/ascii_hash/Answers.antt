use Rattle.std.proofs.Common.{◌∙◌, arith}
use Rattle.sc_hash.proofs.UnitLemmas.{hash_of_all}
use Rattle.sc_hash.proofs.hashes.ascii_hash.Goals as goal

pub returns : goal.returns
returns c =
    let seen = c.loop-i.invariant in
    seen.1 ∙ hash_of_all c.args.text.now c.loop-i.i (omega arith) seen.0
