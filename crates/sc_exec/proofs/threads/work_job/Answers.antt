use Rattle.sc_queue.proofs.PushLemmas.{begins}
use Rattle.sc_exec.proofs.threads.work_job.Goals as goal

pub ruled-requires-clause-rule : goal.ruled-requires-clause-rule
ruled-requires-clause-rule g c = begins
