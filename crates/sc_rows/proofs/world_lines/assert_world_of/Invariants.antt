use Rattle.sc_rows.proofs.world_lines.assert_world_of.Given as goal

-- the work of the world
abbrev pub ghosts-answers_of : goal.ghosts-answers_of
ghosts-answers_of g a = record { work = a.work }
