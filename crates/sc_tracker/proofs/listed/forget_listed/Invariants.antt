use Rattle.std.proofs.Common.{ℕ, ◌≡◌, ◌+◌}
use Rattle.sc_tracker.specs.TrackerData.{registered_on}
use Rattle.sc_tracker.proofs.Forgetting.{IsRest}
use Rattle.sc_tracker.proofs.listed.forget_listed.Given as goal

-- what is left of the list, and a step for each output that was forgotten
abbrev pub invariant-loop-next : goal.invariant-loop-next
invariant-loop-next g l = record {
  taken : ℕ;
  rest : IsRest l.fn.shuffles.items l.shuffles.items l.lists.rows l.exec l.next taken;
  steps : l.steps ≡ l.fn.steps + taken;
}

abbrev pub decreases-loop-next : goal.decreases-loop-next
decreases-loop-next g l = registered_on l.shuffles.items l.exec
