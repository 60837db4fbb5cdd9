use Rattle.std.proofs.Common.{◌≡◌, map, take}
use Rattle.sc_lineage.specs.Streams.{whole_stream}
use Rattle.sc_compute.specs.Results.{rows_told}
use Rattle.sc_compute.proofs.settling.whole_streams.Given as goal

abbrev pub invariant-loop-side : goal.invariant-loop-side
invariant-loop-side l =
    l.streams.items ≡ map whole_stream (map rows_told (take l.side-index l.sides))
