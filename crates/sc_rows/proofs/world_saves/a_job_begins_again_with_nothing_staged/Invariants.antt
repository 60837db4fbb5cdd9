use Rattle.sc_rows.proofs.world_saves.a_job_begins_again_with_nothing_staged.Given as goal

-- the work of the job
abbrev pub ghosts-told_again : goal.ghosts-told_again
ghosts-told_again g a = record { work = a.work }
