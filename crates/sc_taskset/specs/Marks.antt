-- Which rows of a set may be handed out, as flags.
use Rattle.std.specs.Prelude.{ℕ, Bool, List, [], map, not, ◌&&◌}
use Rattle.sc_taskset.specs.declared.rows.Row.{Row}
use Rattle.sc_taskset.specs.declared.marks.Marks.{Marks}
use Rattle.sc_taskset.specs.Accounting.{is_single}
use Rattle.sc_taskset.specs.Flags.{HaveRoom, HoldFlags, IsPut}
use Rattle.sc_taskset.specs.Lookups.{is_finish}
use Rattle.sc_taskset.specs.Offers.{is_pending_task}
use Rattle.sc_taskset.specs.Rows.{copies_of, task_of}

-- a row's task is to be handed out
abbrev pub is_pending_row : Row → Bool
is_pending_row r = is_pending_task (task_of [] r)

-- one attempt of a row's task runs alone, and isn't all that is wanted of it
abbrev pub is_single_row : Row → Bool
is_single_row r = not (is_finish r.finish) && (is_single (copies_of r) && not r.denied)

-- marks tell of each row whether it is to be handed out, and whether one attempt of it runs alone
pub record AreMarked (marks : Marks) (rows : List Row) : Type 0 where
  pub pending : HoldFlags marks.pending.items (map is_pending_row rows)
  pub single : HoldFlags marks.single.items (map is_single_row rows)

-- marks have room for so many rows
pub record MarksFit (marks : Marks) (many : ℕ) : Type 0 where
  pub pending : HaveRoom marks.pending.items many
  pub single : HaveRoom marks.single.items many

-- marks with the one of a row at a place
pub record IsMarked (old new : Marks) (place : ℕ) (row : Row) : Type 0 where
  pub pending : IsPut old.pending.items new.pending.items place (is_pending_row row)
  pub single : IsPut old.single.items new.single.items place (is_single_row row)
