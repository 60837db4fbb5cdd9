use Rattle.std.proofs.Common.{◌≡◌, drop}
use Rattle.std.specs.List.{list_any}
use Rattle.std.specs.Str.{bytes_eq}
use Rattle.sc_read.proofs.naming.has.Given as goal

-- the names that were passed are others, so the rest answers for all of them
abbrev pub invariant-loop-known : goal.invariant-loop-known
invariant-loop-known l =
    list_any (bytes_eq l.name) (drop l.known-index l.names) ≡ list_any (bytes_eq l.name) l.names
