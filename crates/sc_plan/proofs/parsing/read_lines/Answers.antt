use Rattle.std.proofs.Common.{arith}
use Rattle.sc_plan.proofs.PlanLemmas.{one_read, all_read, stopped}
use Rattle.sc_plan.proofs.parsing.read_lines.Goals as goal

pub returns-in-Err : goal.returns-in-Err
returns-in-Err c =
    stopped c.args.executors c.args.lines.now c.loop-i.i c.get.result.now c.loop-i.read.items
    c.in-Err.error c.at_line.result c.get.ensures c.loop-i.invariant c.in-Err.ensures
    c.at_line.ensures

pub loop-i-preserved : goal.loop-i-preserved
loop-i-preserved c =
    one_read c.args.executors c.args.lines.now c.loop-i.i c.get.result.now c.loop-i.read.items
    c.in-Ok.after.items c.get.ensures c.loop-i.invariant c.in-Ok.ensures

pub returns : goal.returns
returns c =
    all_read c.args.executors c.args.lines.now c.loop-i.i c.loop-i.read.items (omega arith)
    c.loop-i.invariant
