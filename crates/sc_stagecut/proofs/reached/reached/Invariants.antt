use Rattle.std.proofs.Common.{◌≡◌, ◌≤◌, ◌+◌, length}
use Rattle.sc_stagecut.specs.Reaching.{followed_from}
use Rattle.sc_stagecut.proofs.MarkLemmas.{Passes}
use Rattle.sc_stagecut.proofs.reached.reached.Given as goal

abbrev pub invariant-loop-node : goal.invariant-loop-node
invariant-loop-node l = record {
  same : length l.marks.items ≡ length l.script.nodes;
  within : l.node ≤ l.from + 1;
  passes : Passes (followed_from l.follow l.script.nodes) l.from l.node l.marks.items;
}

abbrev pub decreases-loop-node : goal.decreases-loop-node
decreases-loop-node l = l.node
