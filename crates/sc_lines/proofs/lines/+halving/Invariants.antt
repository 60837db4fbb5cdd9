use Rattle.std.proofs.Common.{◌+◌, ◌-◌, ◌*◌}
use Rattle.sc_lines.proofs.lines.+halving.Given as goal

abbrev pub decreases-spans_by : goal.decreases-spans_by
decreases-spans_by g l = 2 * l.halvings

abbrev pub decreases-join+arg2 : goal.decreases-join+arg2
decreases-join+arg2 g l = 2 * (l.halvings - 1) + 1

abbrev pub decreases-join+arg3 : goal.decreases-join+arg3
decreases-join+arg3 g l = 2 * (l.halvings - 1) + 1
