-- What is known of all rows of a set without a search.
use Rattle.std.specs.Prelude.{ℕ, ◌≡◌, ◌<◌, Bool, false, not, List, [], count_by, get_or, length}
use Rattle.std.specs.List.{position_or_len}
use Rattle.sc_taskset.specs.declared.marks.Marks.{Marks}
use Rattle.sc_taskset.specs.declared.rows.Row.{Row}
use Rattle.sc_taskset.specs.declared.tasks.RunningCopy.{RunningCopy}
use Rattle.sc_taskset.specs.Lookups.{is_finish}
use Rattle.sc_taskset.specs.Marks.{AreMarked, MarksFit, is_pending_row}
use Rattle.sc_taskset.specs.Offers.{is_copyable_task}
use Rattle.sc_taskset.specs.Rooms.{row_partitions}
use Rattle.sc_taskset.specs.Rows.{task_of}
use Rattle.sc_taskset.specs.Sound.{AreRising}

-- a row's task isn't finished
abbrev pub is_open_row : Row → Bool
is_open_row r = not (is_finish r.finish)

-- no row below a place is to be handed out
abbrev pub NonePendingBelow : List Row → ℕ → Type 0
NonePendingBelow rows place =
    (k : ℕ) (d : Row) → k < place → is_pending_row (get_or rows k d) ≡ false

-- a second attempt of a row's task may run on an executor, beside the slow one that runs elsewhere
abbrev pub is_copyable_row : (RunningCopy → Bool) → ℕ → Row → Bool
is_copyable_row slow exec r = is_copyable_task slow exec (task_of [] r)

-- rows by rising partitions, of which so many aren't finished, and the first that is to be handed
-- out stands at this place, past the end where none is; marks tell which others are
pub record IsIndexed (rows : List Row) (unfinished pending : ℕ) (marks : Marks) : Type 0 where
  pub rising : AreRising (row_partitions rows)
  pub counted : unfinished ≡ count_by is_open_row rows
  pub first : pending ≡ position_or_len is_pending_row rows
  pub marked : AreMarked marks rows
  pub fit : MarksFit marks (length rows)
