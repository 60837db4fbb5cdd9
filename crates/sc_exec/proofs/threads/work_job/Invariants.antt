use Rattle.sc_staging.specs.Outputs.{output_dir, output_files}
use Rattle.sc_exec.specs.JobDesks.{job_desk_data, opening_of}
use Rattle.sc_exec.proofs.threads.work_job.Given as goal

-- the job began as the desk and the files stand
abbrev pub ghosts-work_job_of-J-Opening : goal.ghosts-work_job_of-J-Opening
ghosts-work_job_of-J-Opening g a =
    record {
      opening = opening_of
          (job_desk_data a.desk (output_dir a.output)
          (output_files g.F.Files.state a.output));
    }

-- and its reports go through this queue
abbrev pub ghosts-work_job_of-J-Queued : goal.ghosts-work_job_of-J-Queued
ghosts-work_job_of-J-Queued g a = record { queue = a.queue.table.shared.table_id }
