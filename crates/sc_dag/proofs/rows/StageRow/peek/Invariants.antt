use Rattle.sc_dag.proofs.rows.StageRow.peek.Given as goal

-- nobody counts these steps
abbrev pub ghosts-peek_in : goal.ghosts-peek_in
ghosts-peek_in a = record { name = a.blank.name; parts = a.blank.parts }
