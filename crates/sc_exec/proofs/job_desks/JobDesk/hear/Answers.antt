use Rattle.sc_exec.proofs.ReceiptLemmas.{hears_so}
use Rattle.sc_exec.proofs.job_desks.JobDesk.hear.Goals as goal

pub returns-in-Some-clause-hears : goal.returns-in-Some-clause-hears
returns-in-Some-clause-hears g c =
    hears_so c.log_post.result c.args.self.now.desk.journal.entries c.args.log.now
    c.log_post.new.log c.args.attempt c.in-Some.entry.now c.in-Some.ensures
    c.log_post.ensures.logs
