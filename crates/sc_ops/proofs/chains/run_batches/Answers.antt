use Rattle.std.proofs.Common.{◌∙◌, ◌+◌, ap, arith, drop, sym}
use Rattle.std.proofs.lemmas.List.{append-nil, drop_all}
use Rattle.std.proofs.lemmas.Result.{IfOk-weaker}
use Rattle.sc_lineage.specs.Streams.{with_rows}
use Rattle.sc_ops.specs.Chains.{chain_stream}
use Rattle.sc_ops.proofs.BatchLemmas.{all_rows, next_batch}
use Rattle.sc_ops.proofs.ChainLemmas.{chain-ended, chain-in_runs, chain_gives}
use Rattle.sc_ops.proofs.GivenLemmas.{run-more, run-raised}
use Rattle.sc_ops.proofs.chains.run_batches.Goals as goal

pub returns-then-is_some : goal.returns-then-is_some
returns-then-is_some c =
    let steps = c.args.steps.now in
    let input = c.args.input.now in
    let batches = c.in_ok-batches.batches.items in
    let i = c.loop-i.i in
    let batch = c.index.result.now in
    let same = run-raised (chain_gives steps) (chain-in_runs steps)
    (all_rows (drop i batches)) batch (all_rows (drop (i + 1) batches))
    c.loop-i.out c.append.new.self input.raise c.in_ok-given.given (chain_stream steps input)
    (next_batch batches batch i (omega arith) c.index.ensures)
    c.in_ok-given.ensures c.in_ok-append.ensures c.loop-i.invariant (sym c.if-is_some.ensures) in
    IfOk-weaker c.finished.result _ _ (λ s is. is ∙ same) c.finished.ensures

pub loop-i-preserved : goal.loop-i-preserved
loop-i-preserved c =
    let steps = c.args.steps.now in
    let input = c.args.input.now in
    let batches = c.in_ok-batches.batches.items in
    let i = c.loop-i.i in
    let batch = c.index.result.now in
    run-more (chain_gives steps) (chain-in_runs steps)
    (all_rows (drop i batches)) batch (all_rows (drop (i + 1) batches))
    c.loop-i.out c.append.new.self input.raise c.in_ok-given.given (chain_stream steps input)
    (next_batch batches batch i (omega arith) c.index.ensures)
    c.in_ok-given.ensures c.in_ok-append.ensures c.loop-i.invariant (sym c.if-is_some.ensures)

pub returns : goal.returns
returns c =
    let steps = c.args.steps.now in
    let end = c.args.input.now.raise in
    let batches = c.in_ok-batches.batches.items in
    let out = c.loop-i.out in
    let none = ap all_rows (drop_all c.loop-i.i batches (omega arith)) in
    let same = c.loop-i.invariant
    ∙ ap (with_rows out) (ap (λ ds. chain_gives steps ds end) none ∙ chain-ended steps end)
    ∙ ap (λ ds. record { rows = ds; raise = end }) (append-nil out) in
    IfOk-weaker c.finished-2.result _ _ (λ s is. is ∙ sym same) c.finished-2.ensures
