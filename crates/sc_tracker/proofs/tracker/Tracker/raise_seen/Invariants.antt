use Rattle.sc_tracker.proofs.tracker.Tracker.raise_seen.Given as goal

-- nobody counts these steps
abbrev pub ghosts-forget_on_in : goal.ghosts-forget_on_in
ghosts-forget_on_in a = record { name = a.blank.name; parts = a.blank.parts }
