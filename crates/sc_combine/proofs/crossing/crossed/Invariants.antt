use Rattle.std.proofs.Common.{map}
use Rattle.sc_value.specs.Picked.{picked}
use Rattle.sc_combine.specs.Crossings.{AreCrossed}
use Rattle.sc_combine.proofs.crossing.crossed.Given as goal

abbrev pub invariant-loop-j : goal.invariant-loop-j
invariant-loop-j l =
    AreCrossed l.keys l.left-inside.values l.right-inside.values
    (map (picked l.left-inside.values) l.left-inside.places)
    (map (picked l.right-inside.values) l.right-inside.places) l.j l.all.groups.items
    l.all.left.items l.all.right.items
