use Rattle.std.proofs.Common.{◌≡◌, drop}
use Rattle.sc_base.specs.Lists.{content_of}
use Rattle.sc_files.proofs.listed.find.Given as goal

-- the files that were passed have other paths, so the rest gives what all of them give
abbrev pub invariant-loop-file : goal.invariant-loop-file
invariant-loop-file l =
    content_of (drop l.file-index l.files) l.path ≡ content_of l.files l.path
