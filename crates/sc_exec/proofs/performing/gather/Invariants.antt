use Rattle.std.proofs.Common.{◌≡◌, ◌-◌, length}
use Rattle.sc_exec.proofs.performing.gather.Given as goal

abbrev pub invariant-loop-state : goal.invariant-loop-state
invariant-loop-state g l = l.state.task ≡ l.fn.task

abbrev pub decreases-loop-state : goal.decreases-loop-state
decreases-loop-state g l = length l.state.task.hand_out.inputs - l.state.got
