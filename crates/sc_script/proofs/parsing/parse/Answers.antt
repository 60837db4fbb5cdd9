use Rattle.std.proofs.Common.{Err, ap, arith}
use Rattle.std.proofs.lemmas.Result.{err_from_is_err_and}
use Rattle.sc_script.proofs.ScriptLemmas.{few_lines, too_many, not_text, fault_in_lines}
use Rattle.sc_script.proofs.parsing.parse.Goals as goal

pub returns-then-len-gt-SCRIPT_LIMIT-clause-fault :
    goal.returns-then-len-gt-SCRIPT_LIMIT-clause-fault
returns-then-len-gt-SCRIPT_LIMIT-clause-fault c =
    too_many c.args.bytes.now c.whole.result (omega arith) c.whole.ensures

pub defined_by-requires : goal.defined_by-requires
defined_by-requires c =
    few_lines c.args.bytes.now c.in-Ok.lines c.in-Ok.ensures.lines (omega arith)

pub returns-in_err-defined-in-Ok-clause-fault : goal.returns-in_err-defined-in-Ok-clause-fault
returns-in_err-defined-in-Ok-clause-fault c =
    let p = err_from_is_err_and c.from_residual.result c.from_residual.ensures.1 in
    rw (p.1, p.2) (fault_in_lines c.args.bytes.now c.in-Ok.lines
    c.in_err-defined-in-Ok.field-0.0 (omega arith) c.in-Ok.ensures.text c.in-Ok.ensures.lines
    c.in_err-defined-in-Ok.ensures)

pub returns-in-Fault-clause-fault : goal.returns-in-Fault-clause-fault
returns-in-Fault-clause-fault c =
    not_text c.args.bytes.now c.whole-in-Fault.result (omega arith)
    (c.in-Err.ensures.not_text (ap Err c.in-Fault.is)) c.whole-in-Fault.ensures
