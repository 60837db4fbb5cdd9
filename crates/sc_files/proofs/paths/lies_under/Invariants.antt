use Rattle.std.proofs.Common.{◌≡◌, drop}
use Rattle.sc_base.specs.Trees.{lies_under}
use Rattle.sc_files.proofs.paths.lies_under.Given as goal

-- what is left of the path lies under what is left of the directory where the path does
abbrev pub invariant-loop-byte : goal.invariant-loop-byte
invariant-loop-byte l = lies_under (drop l.byte-index l.dir) l.rest ≡ lies_under l.dir l.path
