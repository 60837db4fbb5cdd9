use Rattle.sc_rows.proofs.trackers.a_loss_takes_the_outputs_of_its_executor_alone.Given as goal

-- nobody counts these steps
abbrev pub ghosts-left_behind : goal.ghosts-left_behind
ghosts-left_behind g a = record { name = a.blank.name; parts = a.blank.parts }
