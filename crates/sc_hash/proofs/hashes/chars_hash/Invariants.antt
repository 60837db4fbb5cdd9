use Rattle.std.proofs.Common.{◌≡◌, pos}
use Rattle.std.specs.Char.Escape.{encode_utf16}
use Rattle.std.specs.List.{flat_map}
use Rattle.sc_hash.specs.Hashes.{with_units}
use Rattle.sc_hash.proofs.hashes.chars_hash.Given as goal

abbrev pub invariant-loop-c : goal.invariant-loop-c
invariant-loop-c l = l.hash ≡ with_units (pos 0) (flat_map encode_utf16 l.yielded)
