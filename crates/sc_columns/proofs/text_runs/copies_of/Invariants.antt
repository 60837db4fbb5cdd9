use Rattle.std.proofs.Common.{◌≡◌, replicate}
use Rattle.sc_columns.proofs.text_runs.copies_of.Given as goal

abbrev pub invariant-loop : goal.invariant-loop
invariant-loop l = l.out ≡ replicate l.counter l.text
