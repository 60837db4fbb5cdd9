use Rattle.std.proofs.Common.{◌≡◌, ◌++◌, map, take, drop}
use Rattle.sc_dag.specs.Rows.{row_without_executor}
use Rattle.sc_dag.proofs.stages.lose_each.Given as goal

abbrev pub invariant-loop-row : goal.invariant-loop-row
invariant-loop-row l =
    l.rows ≡ map (row_without_executor l.exec) (take l.row-index l.fn.rows)
    ++ drop l.row-index l.fn.rows
