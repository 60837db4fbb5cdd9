use Rattle.std.proofs.Common.{◌≡◌, map, take}
use Rattle.sc_combine.specs.Spans.{span_places}
use Rattle.sc_combine.proofs.sides.spans_of.Given as goal

abbrev pub invariant-loop-j : goal.invariant-loop-j
invariant-loop-j l = map (span_places l.places) l.spans.items ≡ take l.j l.places
