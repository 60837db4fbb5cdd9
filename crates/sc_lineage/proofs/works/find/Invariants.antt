use Rattle.std.proofs.Common.{◌≡◌, drop}
use Rattle.sc_base.specs.Lists.{content_of}
use Rattle.sc_lineage.proofs.works.find.Given as goal

abbrev pub invariant-loop-input : goal.invariant-loop-input
invariant-loop-input l =
    content_of (drop l.input-index l.inputs) l.name ≡ content_of l.inputs l.name
