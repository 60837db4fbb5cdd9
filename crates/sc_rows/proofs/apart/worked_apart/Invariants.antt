use Rattle.sc_staging.specs.Outputs.{output_dir, output_files}
use Rattle.sc_exec.specs.JobDesks.{job_desk_data, opening_of}
use Rattle.sc_rows.proofs.apart.worked_apart.Given as goal

-- the job began as the desk and the files stand
abbrev pub ghosts-work_apart-J-Opening : goal.ghosts-work_apart-J-Opening
ghosts-work_apart-J-Opening g a =
    record {
      opening = opening_of
          (job_desk_data a.desk (output_dir a.output) (output_files g.F.Files.state a.output));
    }

-- and its reports go through this queue
abbrev pub ghosts-work_apart-J-Queued : goal.ghosts-work_apart-J-Queued
ghosts-work_apart-J-Queued g a = record { queue = a.queue.table.shared.table_id }
