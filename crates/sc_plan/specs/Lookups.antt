-- How a plan is looked up: entries under keys, in the order of the keys. No contract that is seen
-- outside speaks of this.
use Rattle.std.specs.Prelude.{ℕ, zero, suc, ◌+◌, ◌*◌, ◌<◌, ◌≡◌, Bool, ◌&&◌, nat_le, nat_lt, List, filter_map, Option, Some, None, option_map, slice_get}
use Rattle.sc_part.specs.Sorts.{sorted}
use Rattle.sc_plan.specs.declared.lines.AttemptPlace.{AttemptPlace}
use Rattle.sc_plan.specs.declared.lines.PlanLine.{PlanLine}
use Rattle.sc_plan.specs.declared.lines.PlanLine.TheVariants as lines
use Rattle.sc_plan.specs.declared.lookups.Entry.{Entry}
use Rattle.sc_plan.specs.declared.lookups.Sought.{Sought}
use Rattle.sc_plan.specs.declared.lookups.Sought.TheVariants as sought
use Rattle.sc_plan.specs.declared.orders.OrderKind.{OrderKind}
use Rattle.sc_plan.specs.declared.orders.OrderKind.TheVariants as kinds

-- the key of a place, whose parts have 32 bits each
abbrev pub place_key : AttemptPlace → ℕ
place_key p = (p.stage * 4294967296 + p.partition) * 4294967296 + p.nth

-- the parts of a place have 32 bits each
pub record HasShortParts (p : AttemptPlace) : Type 0 where
  pub stage : p.stage < 4294967296
  pub partition : p.partition < 4294967296
  pub nth : p.nth < 4294967296

-- the key of what is due at an executor
abbrev pub due_key : ℕ → ℕ → ℕ
due_key exec after = exec * 4294967296 + after

abbrev pub entry : ℕ → ℕ → Entry
entry key value = record { key = key; value = value }

-- the number of a kind of order
abbrev pub kind_code : OrderKind → ℕ
kind_code kinds.Drop = 0
kind_code kinds.Lose = 1
kind_code kinds.Evict = 2

-- the kind that a number stands for
abbrev pub kind_coded : ℕ → OrderKind
kind_coded zero = kinds.Drop
kind_coded (suc zero) = kinds.Lose
kind_coded (suc (suc n)) = kinds.Evict

-- the entry of a line in a table, if it has one there
abbrev pub entry_in : Sought → PlanLine → Option Entry
entry_in sought.Fail (lines.Fail p) = Some (entry (place_key p) 0)
entry_in sought.Late (lines.Late p count) = Some (entry (place_key p) count)
entry_in sought.Twice (lines.Twice p) = Some (entry (place_key p) 0)
entry_in sought.Wipe (lines.Drop e after) = Some (entry (due_key e after) (kind_code kinds.Drop))
entry_in sought.Wipe (lines.Lose e after told) =
    Some (entry (due_key e after) (kind_code kinds.Lose))
entry_in sought.Evict (lines.Evict e after) = Some (entry (due_key e after) (kind_code kinds.Evict))
entry_in sought.Loss (lines.Lose e after told) = Some (entry e told)
entry_in what line = None

-- whether the key of an entry is below that of another
abbrev pub is_lower : Entry → Entry → Bool
is_lower a b = nat_lt a.key b.key

-- whether the key of an entry is from one number up to, not including, another
abbrev pub is_between : ℕ → ℕ → Entry → Bool
is_between from to e = nat_le from e.key && nat_lt e.key to

-- the number of the first of some entries
abbrev pub first_value : List Entry → Option ℕ
first_value es = option_map (λ e. e.value) (slice_get es 0)

-- the table of some lines
abbrev pub table_of : Sought → List PlanLine → List Entry
table_of what ls = sorted is_lower (filter_map (entry_in what) ls)

-- the tables of a plan
pub record AreTables (ls : List PlanLine) (fails lates twices wipes evicts losses : List Entry)
    : Type 0 where
  pub fails_are : fails ≡ table_of sought.Fail ls
  pub lates_are : lates ≡ table_of sought.Late ls
  pub twices_are : twices ≡ table_of sought.Twice ls
  pub wipes_are : wipes ≡ table_of sought.Wipe ls
  pub evicts_are : evicts ≡ table_of sought.Evict ls
  pub losses_are : losses ≡ table_of sought.Loss ls
