use Rattle.sc_taskset.proofs.tables.next_pending.Given as goal

-- nobody counts these steps
abbrev pub ghosts-next_flag_in : goal.ghosts-next_flag_in
ghosts-next_flag_in a = record { name = a.blank.name; parts = a.blank.parts }
