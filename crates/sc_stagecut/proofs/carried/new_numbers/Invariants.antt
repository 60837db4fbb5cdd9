use Rattle.std.proofs.Common.{◌≡◌, take}
use Rattle.std.specs.List.{filter_map}
use Rattle.sc_stagecut.specs.Carrying.{new_number}
use Rattle.sc_stagecut.proofs.carried.new_numbers.Given as goal

abbrev pub invariant-loop-stage : goal.invariant-loop-stage
invariant-loop-stage l =
    l.numbers.items ≡ filter_map (new_number l.next) (take l.stage-index l.stages)
