use Rattle.sc_staging.specs.Outputs.{output_dir, output_files}
use Rattle.sc_queue.proofs.PushLemmas.{begins}
use Rattle.sc_exec.specs.JobDesks.{job_desk_data}
use Rattle.sc_exec.proofs.JobDeskLemmas.{job_opened}
use Rattle.sc_rows.proofs.apart.worked_apart.Goals as goal

pub ruled-requires-clause-rule : goal.ruled-requires-clause-rule
ruled-requires-clause-rule g c = begins

pub work_apart-requires-clause-job : goal.work_apart-requires-clause-job
work_apart-requires-clause-job g c κs lives =
    job_opened g.W.Naming.work
    (job_desk_data c.begun-desk.result.0 (output_dir c.begun-desk.result.1)
    (output_files g.F.Files.state c.begun-desk.result.1))
    c.begun-desk.ensures.first.1.entries c.begun-desk.ensures.stand

pub returns-clause-first : goal.returns-clause-first
returns-clause-first g c =
    record {
      first = c.begun-desk.result.0;
      begins = c.begun-desk.ensures.first;
      job = c.work_apart.ensures.job.job;
      carried = c.work_apart.ensures.job.carried;
    }

pub returns-clause-stand : goal.returns-clause-stand
returns-clause-stand g c = c.work_apart.ensures.job.stand
