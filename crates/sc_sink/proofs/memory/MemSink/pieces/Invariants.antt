use Rattle.std.proofs.Common.{◌≡◌, ◌++◌, drop, map}
use Rattle.sc_sink.specs.Pieces.{pieces_of, AreLengths}
use Rattle.sc_sink.proofs.memory.MemSink.pieces.Given as goal

-- the lengths that are left cut the rest, and its pieces stand behind those that were taken
abbrev pub invariant-loop-len : goal.invariant-loop-len
invariant-loop-len l = record {
  left : AreLengths (drop l.len-index l.len-items) l.rest;
  taken : map (λ piece. piece.now) l.pieces.items
      ++ pieces_of (drop l.len-index l.len-items) l.rest ≡ l.self.pieces;
}
