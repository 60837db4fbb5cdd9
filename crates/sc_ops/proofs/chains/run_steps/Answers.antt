use Rattle.std.proofs.Common.{◌∙◌, None, ap}
use Rattle.sc_expr.specs.Views.{expr_data_of}
use Rattle.sc_lineage.specs.Narrow.{each_stream}
use Rattle.sc_ops.proofs.ChainLemmas.{chain-more}
use Rattle.sc_ops.proofs.chains.run_steps.Goals as goal

pub loop-step-preserved : goal.loop-step-preserved
loop-step-preserved c =
    let step = c.step-item.result in
    c.in_ok-stream.ensures
    ∙ ap (each_stream step.kind (expr_data_of step.expr.now)) c.loop-step.invariant
    ∙ chain-more c.args.steps.now c.args.batch.now None c.loop-step.step-index step
    c.loop-step-test.true c.step-item.is
