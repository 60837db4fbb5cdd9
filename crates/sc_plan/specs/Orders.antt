-- The wipes, evictions and losses of a plan.
use Rattle.std.specs.Prelude.{ℕ, zero, suc, ◌+◌, ◌*◌, Bool, true, false, ◌==◌, nat_le, nat_lt, List, filter, filter_map, length, Option, Some, None, option_map, slice_get, if◌then◌else◌}
use Rattle.sc_part.specs.Sorts.{sorted}
use Rattle.sc_plan.specs.declared.lines.PlanLine.{PlanLine}
use Rattle.sc_plan.specs.declared.lines.PlanLine.TheVariants as lines
use Rattle.sc_plan.specs.declared.orders.Order.{Order}
use Rattle.sc_plan.specs.declared.orders.OrderKind.{OrderKind}
use Rattle.sc_plan.specs.declared.orders.OrderKind.TheVariants as kinds

-- how many reports are told before something is due, and what it is
abbrev pub Due : Type 0
Due = ℕ × OrderKind

-- what is due at an executor by a line of another or of the same
abbrev pub due_there : ℕ → ℕ → Due → Option Due
due_there exec e due = if e == exec then Some due else None

-- the wipe of an executor that a line asks for
abbrev pub wipe_in : ℕ → PlanLine → Option Due
wipe_in exec (lines.Drop e after) = due_there exec e (after, kinds.Drop)
wipe_in exec (lines.Lose e after told) = due_there exec e (after, kinds.Lose)
wipe_in exec line = None

-- the eviction at an executor that a line asks for
abbrev pub evict_in : ℕ → PlanLine → Option Due
evict_in exec (lines.Evict e after) = due_there exec e (after, kinds.Evict)
evict_in exec line = None

-- the wipes of an executor, and the evictions at it, line by line
abbrev pub wipes_of : List PlanLine → ℕ → List Due
wipes_of plan exec = filter_map (wipe_in exec) plan

abbrev pub evicts_of : List PlanLine → ℕ → List Due
evicts_of plan exec = filter_map (evict_in exec) plan

-- how many of them are due once so many reports were told
abbrev pub due_count : List Due → ℕ → ℕ
due_count dues told = length (filter (λ due. nat_le due.0 told) dues)

-- whether one is due before another
abbrev pub is_sooner : Due → Due → Bool
is_sooner a b = nat_lt a.0 b.0

-- they as they are numbered from 1: by when they are due, and then by line
abbrev pub in_order : List Due → List Due
in_order dues = sorted is_sooner dues

-- the order of a number, where there are so many
abbrev pub order_of : ℕ → ℕ → Due → Order
order_of exec number due = record { exec = exec; number = number; kind = due.1 }

abbrev pub nth_order : ℕ → ℕ → List Due → Option Order
nth_order exec zero dues = None
nth_order exec (suc i) dues =
    option_map (order_of exec (suc i)) (slice_get (in_order dues) i)

-- how many reports are told before an executor is told lost, by a line
abbrev pub loss_in : ℕ → PlanLine → Option ℕ
loss_in exec (lines.Lose e after told) = if e == exec then Some told else None
loss_in exec line = None

-- how many, by a plan: it has at most one line that says so
abbrev pub loss_of : List PlanLine → ℕ → Option ℕ
loss_of plan exec = slice_get (filter_map (loss_in exec) plan) 0

-- whether a line wipes an executor and no more, and whether it loses one
abbrev pub is_drop : PlanLine → Bool
is_drop (lines.Drop e after) = true
is_drop line = false

abbrev pub is_lose : PlanLine → Bool
is_lose (lines.Lose e after told) = true
is_lose line = false

-- how often a plan lets outputs of executors be forgotten: at each wipe, and at each loss
abbrev pub planned_losses : List PlanLine → ℕ
planned_losses plan = length (filter is_drop plan) + 2 * length (filter is_lose plan)
