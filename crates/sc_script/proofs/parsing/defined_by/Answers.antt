use Rattle.std.proofs.Common.{arith}
use Rattle.sc_script.specs.Defining.{defined_data_of}
use Rattle.sc_script.proofs.ScriptLemmas.{none_read, one_read, all_read, stopped}
use Rattle.sc_script.proofs.parsing.defined_by.Goals as goal

pub loop-i-init : goal.loop-i-init
loop-i-init c =
    none_read c.args.lines.now (defined_data_of c.new-defined.result) c.new-defined.ensures

pub returns-in-Err : goal.returns-in-Err
returns-in-Err c =
    stopped c.args.lines.now c.loop-i.i c.get.result.now (defined_data_of c.loop-i.defined)
    c.in-Err.error c.at_line.result c.get.ensures c.loop-i.invariant c.in-Err.ensures
    c.at_line.ensures

pub loop-i-preserved : goal.loop-i-preserved
loop-i-preserved c =
    one_read c.args.lines.now c.loop-i.i c.get.result.now (defined_data_of c.loop-i.defined)
    (defined_data_of c.in-Ok.after) c.get.ensures c.loop-i.invariant c.in-Ok.ensures

pub returns : goal.returns
returns c =
    all_read c.args.lines.now c.loop-i.i (defined_data_of c.loop-i.defined) (omega arith)
    c.loop-i.invariant
