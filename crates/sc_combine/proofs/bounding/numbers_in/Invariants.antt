use Rattle.std.proofs.Common.{◌≡◌, map, take}
use Rattle.std.specs.List.{flat_map}
use Rattle.sc_value.specs.Datum.{number}
use Rattle.sc_combine.proofs.bounding.numbers_in.Given as goal

abbrev pub invariant-loop-run : goal.invariant-loop-run
invariant-loop-run l =
    map number l.numbers.items ≡ flat_map (λ run. run) (take l.run-index l.runs)
