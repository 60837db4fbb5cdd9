use Rattle.std.proofs.Common.{◌∙◌, ◌+◌, arith, drop, sym}
use Rattle.std.proofs.lemmas.Result.{IfOk-weaker}
use Rattle.sc_value.specs.Datum.{Datum}
use Rattle.sc_expr.specs.Heads.{Outcome}
use Rattle.sc_expr.specs.Views.{expr_data_of}
use Rattle.sc_lineage.specs.Narrow.{at_row, each_stream, element_of, given_of}
use Rattle.sc_lineage.specs.Streams.{each_gives}
use Rattle.sc_ops.proofs.BatchLemmas.{all_rows, next_batch}
use Rattle.sc_ops.proofs.GivenLemmas.{each_gives-append, run-more, run-raised}
use Rattle.sc_ops.proofs.each.each_stream.Goals as goal

pub returns-then-is_some : goal.returns-then-is_some
returns-then-is_some c =
    let e = expr_data_of c.args.expr.now in
    let kind = c.args.kind in
    let input = c.args.input.now in
    let batches = c.in_ok-batches.batches.items in
    let i = c.loop-i.i in
    let batch = c.index.result.now in
    let f : Datum → Outcome = λ d. at_row e (element_of kind d) in
    let same = run-raised (each_gives (given_of kind) f) (each_gives-append (given_of kind) f)
    (all_rows (drop i batches)) batch (all_rows (drop (i + 1) batches))
    c.loop-i.out c.append.new.self input.raise c.in_ok-given.given (each_stream kind e input)
    (next_batch batches batch i (omega arith) c.index.ensures)
    c.in_ok-given.ensures c.in_ok-append.ensures c.loop-i.invariant (sym c.if-is_some.ensures) in
    IfOk-weaker c.finished.result _ _ (λ s is. is ∙ same) c.finished.ensures

pub loop-i-preserved : goal.loop-i-preserved
loop-i-preserved c =
    let e = expr_data_of c.args.expr.now in
    let kind = c.args.kind in
    let input = c.args.input.now in
    let batches = c.in_ok-batches.batches.items in
    let i = c.loop-i.i in
    let batch = c.index.result.now in
    let f : Datum → Outcome = λ d. at_row e (element_of kind d) in
    run-more (each_gives (given_of kind) f) (each_gives-append (given_of kind) f)
    (all_rows (drop i batches)) batch (all_rows (drop (i + 1) batches))
    c.loop-i.out c.append.new.self input.raise c.in_ok-given.given (each_stream kind e input)
    (next_batch batches batch i (omega arith) c.index.ensures)
    c.in_ok-given.ensures c.in_ok-append.ensures c.loop-i.invariant (sym c.if-is_some.ensures)
