use Rattle.std.proofs.Common.{arith, w64}
use Rattle.std.proofs.lemmas.Nat.Bits.{bit_at-trailing_zeros}
use Rattle.sc_taskset.proofs.flags.lowest.Goals as goal

pub returns : goal.returns
returns c =
    let low = bit_at-trailing_zeros w64 c.args.word c.requires
    (omega (arith, c.ranges.word.fits)) in
    record { within = low.0; here = low.1; none = low.2 }
