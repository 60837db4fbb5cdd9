use Rattle.sc_queue.proofs.relays.relay_two.Given as goal

abbrev pub ghosts-two_posters : goal.ghosts-two_posters
ghosts-two_posters g a = record { queue = a.queue.table.shared.table_id }
