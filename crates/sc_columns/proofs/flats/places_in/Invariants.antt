use Rattle.std.proofs.Common.{◌≡◌, length, take}
use Rattle.std.specs.List.{flat_map}
use Rattle.sc_columns.specs.Columns.{rows_in}
use Rattle.sc_columns.specs.Flat.{places_of}
use Rattle.sc_columns.proofs.flats.places_in.Given as goal

abbrev pub invariant-loop-i : goal.invariant-loop-i
invariant-loop-i l =
    l.out.items ≡ flat_map (places_of (length (rows_in l.items))) (take l.i l.spans)
