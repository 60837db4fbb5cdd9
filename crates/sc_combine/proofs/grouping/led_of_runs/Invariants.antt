use Rattle.std.proofs.Common.{◌≡◌, length, take}
use Rattle.sc_combine.specs.Groupings.{AreLed}
use Rattle.sc_combine.proofs.grouping.led_of_runs.Given as goal

abbrev pub invariant-loop-i : goal.invariant-loop-i
invariant-loop-i l = record {
  led : AreLed (take l.i l.runs) l.firsts l.numbers.items;
  count : l.count ≡ length l.firsts;
}
