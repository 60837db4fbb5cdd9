use Rattle.sc_dag.proofs.attempts.StageAttempt.change.Given as goal

-- nobody counts these steps
abbrev pub ghosts-lose_in : goal.ghosts-lose_in
ghosts-lose_in a = record { name = a.blank.name; parts = a.blank.parts }
