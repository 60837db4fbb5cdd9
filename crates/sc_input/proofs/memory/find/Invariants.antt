use Rattle.std.proofs.Common.{◌≡◌, drop}
use Rattle.sc_base.specs.Lists.{content_of}
use Rattle.sc_input.proofs.memory.find.Given as goal

-- the files that were passed have other names, so the rest gives what all of them give
abbrev pub invariant-loop-file : goal.invariant-loop-file
invariant-loop-file l =
    content_of (drop l.file-index l.files) l.name ≡ content_of l.files l.name
