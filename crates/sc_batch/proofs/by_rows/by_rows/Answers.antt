use Rattle.std.proofs.Common.{◌<◌, ◌∙◌, length, sym, arith}
use Rattle.std.proofs.lemmas.Result.{IfOk-weaker}
use Rattle.sc_batch.specs.Outcomes.{outcomes_at}
use Rattle.sc_batch.proofs.StreamLemmas.{rows-more, rows-raised}
use Rattle.sc_batch.proofs.by_rows.by_rows.Goals as goal

pub returns-then-is_some : goal.returns-then-is_some
returns-then-is_some c =
    let os = outcomes_at c.args.what in
    let within : c.loop-i.i < length os = omega arith in
    let same = rows-raised os c.args.end c.loop-i.out c.add.new.out c.in_ok-raised.raised c.loop-i.i
    within c.loop-i.invariant c.in_ok-raised.ensures
    (sym c.is_some.ensures ∙ c.if-is_some.true) in
    IfOk-weaker c.finished.result _ _ (λ s is. is ∙ same) c.finished.ensures

pub loop-i-preserved : goal.loop-i-preserved
loop-i-preserved c =
    let os = outcomes_at c.args.what in
    let within : c.loop-i.i < length os = omega arith in
    rows-more os c.args.end c.loop-i.out c.add.new.out c.in_ok-raised.raised c.loop-i.i
    within c.loop-i.invariant c.in_ok-raised.ensures (sym c.is_some.ensures ∙ c.if-is_some.false)
