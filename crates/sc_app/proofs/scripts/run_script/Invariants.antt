use Rattle.sc_app.proofs.scripts.run_script.Given as goal

-- the work that is printed
abbrev pub ghosts-print_work : goal.ghosts-print_work
ghosts-print_work g a = record { work = a.work }
