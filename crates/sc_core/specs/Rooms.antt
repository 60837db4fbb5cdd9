-- Which reports may need room for task sets, and where their attempts stand.
use Rattle.std.specs.Prelude.{ℕ, ◌≡◌, Bool, true, false, List, Some, not, remove, slice_get}
use Rattle.std.specs.List.{filter, find}
use Rattle.sc_ids.specs.declared.attempts.AttemptId.{AttemptId}
use Rattle.sc_ids.specs.declared.failures.FailureCause.{FailureCause}
use Rattle.sc_ids.specs.declared.failures.FailureCause.TheVariants as causes
use Rattle.sc_core.specs.CoreData.{is_of}
use Rattle.sc_core.specs.declared.events.Outcome.{Outcome}
use Rattle.sc_core.specs.declared.events.Outcome.TheVariants as outcomes
use Rattle.sc_core.specs.declared.running.Running.{Running}

-- a stage may be submitted for a failure
abbrev pub may_resubmit : FailureCause → Bool
may_resubmit (causes.Gone exec wanted found) = true
may_resubmit (causes.Metadata last) = true
may_resubmit cause = false

-- stages may be submitted for a report
abbrev pub wants_room : Outcome → Bool
wants_room (outcomes.Map loc) = true
wants_room outcomes.Result = false
wants_room (outcomes.Failed cause) = may_resubmit cause

-- at a place stands the running attempt of these numbers, and no other is of them
pub record IsRunningAt (running : List Running) (a : AttemptId) (place : ℕ) : Type 0 where
  pub one : Running
  pub found : find (is_of a) running ≡ Some one
  pub here : slice_get running place ≡ Some one
  pub alone : remove running place ≡ filter (λ r. not (is_of a r)) running
