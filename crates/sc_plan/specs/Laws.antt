-- The laws of plans: what their readers say of their lines, and how their orders are numbered.
use Rattle.std.specs.Prelude.{ℕ, ◌≡◌, ◌≤◌, ◌<◌, ◌↔◌, true, List, Contains, Some, slice_get}
use Rattle.std.specs.List.Sorted.{IsPermutation, IsSortedBy, IsStableBy}
use Rattle.sc_plan.specs.Attempts.{delay_of, is_doubled, is_failed}
use Rattle.sc_plan.specs.Orders.{Due, due_count, in_order, is_sooner, loss_of}
use Rattle.sc_plan.specs.PlanLines.{IsSoundPlan}
use Rattle.sc_plan.specs.declared.lines.AttemptPlace.{AttemptPlace}
use Rattle.sc_plan.specs.declared.lines.PlanLine.{PlanLine}
use Rattle.sc_plan.specs.declared.lines.PlanLine.TheVariants as lines

-- how what is due at an executor is numbered
pub record IsNumbered (dues by : List Due) : Type 0 where
  -- none is due before the one in front of it
  pub sooner : IsSortedBy is_sooner by
  -- those that are due together stand as their lines do
  pub stable : IsStableBy is_sooner dues by
  -- they are the same
  pub whole : IsPermutation dues by
  -- those that are due have the numbers up to how many are due
  pub due : (told i : ℕ) (d : Due) → slice_get by i ≡ Some d
      → (i < due_count dues told) ↔ (d.0 ≤ told)

-- the law of numbers
abbrev pub OrdersAreNumbered : Type 0
OrdersAreNumbered = (dues : List Due) → IsNumbered dues (in_order dues)

-- what a reader finds stands in a line, and what stands in a line is found
pub record AreExact (plan : List PlanLine) : Type 0 where
  pub failed : (p : AttemptPlace) → (is_failed plan p ≡ true) ↔ Contains plan (lines.Fail p)
  pub doubled : (p : AttemptPlace) → (is_doubled plan p ≡ true) ↔ Contains plan (lines.Twice p)
  pub late : (p : AttemptPlace) (count : ℕ)
      → (delay_of plan p ≡ Some count) ↔ Contains plan (lines.Late p count)
  pub lost : (exec told : ℕ) → (loss_of plan exec ≡ Some told)
      ↔ ((after : ℕ) × Contains plan (lines.Lose exec after told))

-- the law of readers
abbrev pub ReadersAreExact : Type 0
ReadersAreExact = (plan : List PlanLine) → IsSoundPlan plan → AreExact plan
