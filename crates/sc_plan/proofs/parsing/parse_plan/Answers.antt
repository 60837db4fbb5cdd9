use Rattle.std.proofs.Common.{Err, ap, subst, sym, arith}
use Rattle.std.proofs.lemmas.Result.{err_from_is_err_and}
use Rattle.sc_plan.proofs.LineLemmas.{few_lines}
use Rattle.sc_plan.proofs.PlanLemmas.{too_many, not_text, fault_in_lines}
use Rattle.sc_plan.proofs.SoundLemmas.{sound_lines, below_lines}
use Rattle.sc_plan.specs.PlanLines.{AreBelow}
use Rattle.sc_plan.proofs.parsing.parse_plan.Goals as goal

pub returns-then-len-gt-PLAN_LIMIT-clause-fault :
    goal.returns-then-len-gt-PLAN_LIMIT-clause-fault
returns-then-len-gt-PLAN_LIMIT-clause-fault c =
    too_many c.args.executors c.args.bytes.now c.whole.result (omega arith) c.whole.ensures

pub read_lines-requires : goal.read_lines-requires
read_lines-requires c =
    few_lines c.args.bytes.now c.in-Ok.lines c.in-Ok.ensures.lines (omega arith)

pub returns-in_err-read-in-Ok-clause-fault : goal.returns-in_err-read-in-Ok-clause-fault
returns-in_err-read-in-Ok-clause-fault c =
    let p = err_from_is_err_and c.from_residual.result c.from_residual.ensures.1 in
    rw (p.1, p.2) (fault_in_lines c.args.executors c.args.bytes.now c.in-Ok.lines
    c.in_err-read-in-Ok.field-0.0 (omega arith) c.in-Ok.ensures.text c.in-Ok.ensures.lines
    c.in_err-read-in-Ok.ensures)

pub of_lines-requires : goal.of_lines-requires
of_lines-requires c =
    sound_lines c.args.executors c.in-Ok.lines c.in_ok-read-in-Ok.read.items
    c.in_ok-read-in-Ok.ensures

pub returns-in_ok-of_lines-in-Ok-clause-known : goal.returns-in_ok-of_lines-in-Ok-clause-known
returns-in_ok-of_lines-in-Ok-clause-known c =
    subst (AreBelow c.args.executors) (sym c.in_ok-of_lines-in-Ok.ensures)
    (below_lines c.args.executors c.in-Ok.lines c.in_ok-read-in-Ok.read.items
    c.in_ok-read-in-Ok.ensures)

pub returns-in-Fault-clause-fault : goal.returns-in-Fault-clause-fault
returns-in-Fault-clause-fault c =
    not_text c.args.executors c.args.bytes.now c.whole-in-Fault.result (omega arith)
    (c.in-Err.ensures.not_text (ap Err c.in-Fault.is)) c.whole-in-Fault.ensures
