use Rattle.std.proofs.Common.{◌≡◌, ◌+◌, suc, arith, drop-cons, subst}
use Rattle.std.proofs.lemmas.Result.{err_from_is_err_and}
use Rattle.sc_output.proofs.CallLemmas.{later-then}
use Rattle.sc_output.proofs.LoopLemmas.{HasRenamed, renamed-more, renamed-next, renamed-stopped}
use Rattle.sc_output.proofs.commits.rename_parts.Goals as goal

pub rename_part-requires : goal.rename_part-requires
rename_part-requires g c =
    let ws = c.args.winners.now in
    let k = c.loop-winner.winner-index in
    renamed-next c.args.dir.now ws k _ _ _ _ (drop-cons ws k _ c.loop-winner-test.true)
    c.loop-winner.invariant.renamed

pub returns-in_err-rename_part-clause-calls : goal.returns-in_err-rename_part-clause-calls
returns-in_err-rename_part-clause-calls g c =
    let ws = c.args.winners.now in
    let k = c.loop-winner.winner-index in
    let p = err_from_is_err_and c.from_residual.result c.from_residual.ensures.1 in
    rw (p.1, p.2) (renamed-stopped c.args.dir.now ws k _ _ _ _ _ c.in_err-rename_part.field-0.0
    (drop-cons ws k _ c.loop-winner-test.true) c.loop-winner.invariant.renamed
    c.in_err-rename_part.ensures.calls)

pub loop-winner-preserved : goal.loop-winner-preserved
loop-winner-preserved g c =
    let dir = c.args.dir.now in
    let ws = c.args.winners.now in
    let k = c.loop-winner.winner-index in
    let start = g.F.Files.state c.args.files.now in
    let next = g.F.Files.state c.rename_part.new.files in
    let one_more : suc k ≡ k + 1 = omega arith in
    let done = c.in_ok-rename_part.ensures in
    record {
      later = later-then _ _ _ c.loop-winner.invariant.later done.later;
      renamed = subst (λ n. HasRenamed dir ws n start next) one_more
          (renamed-more dir ws k _ _ _ _ (drop-cons ws k _ c.loop-winner-test.true)
          c.loop-winner.invariant.renamed done.calls);
    }
