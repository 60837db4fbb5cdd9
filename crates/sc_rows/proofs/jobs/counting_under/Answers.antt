use Rattle.std.proofs.Common.{arith}
use Rattle.sc_rows.proofs.JobLemmas.{word_count_fits, word_count_job, word_count_room}
use Rattle.sc_rows.proofs.jobs.counting_under.Goals as goal

pub begun-requires-clause-job : goal.begun-requires-clause-job
begun-requires-clause-job g c = rw c.word_count-graph.ensures (word_count_job 1 (omega arith))

pub begun-requires-clause-fits : goal.begun-requires-clause-fits
begun-requires-clause-fits g c = rw c.word_count-graph.ensures (word_count_fits c.args.limits 1)

pub returns : goal.returns
returns g c =
    word_count_room c.args.limits 1 c.args.saves c.plan_of-plan.result c.begun.result.0.core
    (rw c.word_count-graph.ensures at c.begun.ensures)
