use Rattle.sc_rows.proofs.leaving.who_left_leaves_no_more.Given as goal

-- the work of the desk
abbrev pub ghosts-answers_of : goal.ghosts-answers_of
ghosts-answers_of g a = record { work = a.work }
