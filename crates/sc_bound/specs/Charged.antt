-- How often a core forgets outputs, and how many attempts of a stage fail for it.
use Rattle.std.specs.Prelude.{ℕ, ◌≤◌, ◌≢◌, All, Contains, List, length}
use Rattle.std.specs.List.{AllPairs}
use Rattle.sc_plan.specs.Orders.{due_count, planned_losses, wipes_of}
use Rattle.sc_tracker.specs.TrackerData.{trust_of}
use Rattle.sc_core.specs.CoreData.{CoreData}
use Rattle.sc_core.specs.Journals.{Replays}
use Rattle.sc_core.specs.Sound.{IsSoundCore}
use Rattle.sc_core.specs.declared.entries.Entry.{Entry}
use Rattle.sc_history.specs.Charges.{Charge, charges_of}

-- no store was seen at a generation that no wipe of the plan has brought yet
abbrev pub AreSeenInTime : CoreData → Type 0
AreSeenInTime c =
    (exec : ℕ) → (trust_of c.dag.tracker exec).seen ≤ due_count (wipes_of c.plan exec) c.told

-- then a core forgets outputs no more often than its plan allows
abbrev pub EpochsArePlanned : Type 0
EpochsArePlanned =
    (c : CoreData) → IsSoundCore c → AreSeenInTime c
    → c.dag.tracker.epoch ≤ planned_losses c.plan

-- some failed attempts of a stage, of those that a journal tells, no two of them one
pub record AreFailures (charges failed : List Charge) : Type 0 where
  pub among : All (Contains charges) failed
  pub apart : AllPairs (λ x y. x.number ≢ y.number) failed

-- so no more attempts of a stage fail, also of those that count no more
abbrev pub FailedAttemptsArePlanned : Type 0
FailedAttemptsArePlanned =
    (opening end : CoreData) (entries : List Entry) (stage : ℕ) (failed : List Charge)
    → IsSoundCore opening → (replays : Replays opening entries end) → AreSeenInTime end
    → AreFailures (charges_of stage opening entries end replays) failed
    → length failed ≤ planned_losses end.plan
