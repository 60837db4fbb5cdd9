use Rattle.sc_rows.proofs.lefts.assert_way.Given as goal

-- the work of the job
abbrev pub ghosts-seen_apart : goal.ghosts-seen_apart
ghosts-seen_apart g a = record { work = a.work }
