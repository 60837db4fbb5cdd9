use Rattle.std.proofs.Common.{◌≡◌, pos, take}
use Rattle.std.specs.Str.{IsAscii}
use Rattle.sc_hash.specs.Hashes.{with_units}
use Rattle.sc_hash.proofs.hashes.ascii_hash.Given as goal

abbrev pub invariant-loop-i : goal.invariant-loop-i
invariant-loop-i l =
    IsAscii (take l.i l.text) × (l.hash ≡ with_units (pos 0) (take l.i l.text))
