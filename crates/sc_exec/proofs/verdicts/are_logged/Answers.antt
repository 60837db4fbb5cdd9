use Rattle.sc_exec.proofs.VerdictLemmas.{agree_else, agree_then}
use Rattle.sc_exec.proofs.verdicts.are_logged.Goals as goal

pub returns-then-are_logs : goal.returns-then-are_logs
returns-then-are_logs c =
    agree_then c.args.entries.now c.args.workers.now c.are_logs.result c.are_known.result
    c.are_logs.ensures c.if-are_logs.true c.are_known.ensures

pub returns-else-are_logs : goal.returns-else-are_logs
returns-else-are_logs c =
    agree_else c.args.entries.now c.args.workers.now c.are_logs.result c.are_logs.result
    c.are_logs.ensures c.if-are_logs.false
