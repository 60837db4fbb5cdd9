use Rattle.sc_combine.proofs.bounding.room_for_rows.Given as goal

abbrev pub invariant-loop-run : goal.invariant-loop-run
invariant-loop-run l = Unit {0}
