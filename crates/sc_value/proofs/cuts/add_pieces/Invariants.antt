use Rattle.std.proofs.Common.{◌-◌}
use Rattle.sc_value.specs.Spans.{part_at}
use Rattle.sc_value.proofs.CutPlaces.{AreCutTo}
use Rattle.sc_value.proofs.cuts.add_pieces.Given as goal

abbrev pub invariant-loop-from : goal.invariant-loop-from
invariant-loop-from l =
    AreCutTo l.separator l.text (part_at l.text l.fn.part) l.fn.out.items l.out.items l.from
    l.fn.part.to l.len

abbrev pub decreases-loop-from : goal.decreases-loop-from
decreases-loop-from l = l.fn.part.to - l.from
