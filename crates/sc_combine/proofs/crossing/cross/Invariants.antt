use Rattle.std.proofs.Common.{◌≡◌, ◌++◌, length, replicate, take}
use Rattle.std.specs.List.{flat_map}
use Rattle.sc_combine.proofs.crossing.cross.Given as goal

abbrev pub invariant-loop-p : goal.invariant-loop-p
invariant-loop-p l = record {
  groups : l.all.groups.items ≡ l.initial.all.groups.items
      ++ flat_map (λ p. replicate (length l.right) l.group) (take l.p-index l.left);
  left : l.all.left.items ≡ l.initial.all.left.items
      ++ flat_map (λ p. replicate (length l.right) p) (take l.p-index l.left);
  right : l.all.right.items ≡ l.initial.all.right.items
      ++ flat_map (λ p. l.right) (take l.p-index l.left);
}
