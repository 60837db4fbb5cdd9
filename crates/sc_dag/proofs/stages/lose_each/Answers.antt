use Rattle.std.proofs.Common.{get_or}
use Rattle.sc_ids.proofs.ChangeLemmas.{map_loop}
use Rattle.sc_dag.specs.Losses.{without_executor}
use Rattle.sc_dag.specs.Rows.{row_without_executor}
use Rattle.sc_dag.proofs.RowLemmas.{row_is}
use Rattle.sc_dag.proofs.stages.lose_each.Goals as goal

pub loop-row-preserved : goal.loop-row-preserved
loop-row-preserved c =
    let old = get_or c.loop-row.rows c.loop-row.row-index c.row-item.result in
    map_loop (row_without_executor c.args.exec) c.args.rows.now c.loop-row.rows
    c.loop-row.row-index c.change.new.self c.row-item.result c.loop-row-test.true
    c.loop-row.invariant
    (row_is c.change.new.self old.stage (without_executor c.args.exec old.state) old.is_ready
    c.change.ensures.stage c.change.ensures.state c.change.ensures.ready)
