use Rattle.std.proofs.Common.{◌∙◌, drop, sym, ap}
use Rattle.sc_base.specs.Trees.{lies_under}
use Rattle.sc_files.proofs.PathLemmas.{empty-of, lies_under-short}
use Rattle.sc_files.proofs.paths.lies_under.Goals as goal

pub returns-in_default : goal.returns-in_default
returns-in_default c =
    let left = drop c.loop-byte.byte-index c.args.dir.now in
    sym (lies_under-short c.args.dir.now c.loop-byte.byte-index c.loop-byte-test.true)
    ∙ ap (lies_under left) (sym (empty-of c.loop-byte.rest.now c.in_default.ensures.cases))
    ∙ c.loop-byte.invariant
