use Rattle.std.proofs.Common.{◌≡◌, length}
use Rattle.sc_sink.proofs.WriteLemmas.{IsLeft}
use Rattle.sc_sink.proofs.whole.write_whole.Given as goal

-- what is left stands behind what the writer took since it was handed in, and no call failed
abbrev pub invariant-loop-rest : goal.invariant-loop-rest
invariant-loop-rest g l = record {
  left : IsLeft l.initial.writer.taken l.writer.taken l.bytes l.rest;
  faults : l.writer.faults ≡ l.initial.writer.faults;
}

abbrev pub decreases-loop-rest : goal.decreases-loop-rest
decreases-loop-rest g l = length l.rest
