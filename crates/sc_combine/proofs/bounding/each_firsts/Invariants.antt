use Rattle.std.proofs.Common.{◌≡◌, map, take}
use Rattle.std.specs.List.{flat_map}
use Rattle.sc_expr.specs.Heads.{first_of}
use Rattle.sc_combine.proofs.bounding.each_firsts.Given as goal

abbrev pub invariant-loop-part : goal.invariant-loop-part
invariant-loop-part l = flat_map (λ run. run) l.out.items
    ≡ map first_of (flat_map (λ s. s.rows) (take l.part-index l.parts))
