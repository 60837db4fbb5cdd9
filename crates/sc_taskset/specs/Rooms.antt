-- Room for a task set that begins later.
use Rattle.std.specs.Prelude.{ℕ, ◌≡◌, List, [], map}
use Rattle.sc_taskset.specs.declared.rows.Row.{Row}
use Rattle.sc_taskset.specs.TaskSetData.{fresh_task}
use Rattle.sc_taskset.specs.Sound.{AreRising}
use Rattle.sc_taskset.specs.Rows.{tasks_of}

-- room for a set
pub record RoomData : Type 0 where
  -- the partitions that it is to have, which rise
  pub partitions : List ℕ
  -- how many more there is room for
  pub spare : ℕ

-- room for a set of these partitions and so many more
abbrev pub room_of : List ℕ → ℕ → RoomData
room_of partitions spare = record { partitions = partitions; spare = spare }

-- the partitions of rows
abbrev pub row_partitions : List Row → List ℕ
row_partitions rows = map (λ r. r.partition) rows

-- rows of rising partitions of which nothing was handed out
pub record AreFresh (rows : List Row) : Type 0 where
  pub rising : AreRising (row_partitions rows)
  pub fresh : tasks_of [] rows ≡ map fresh_task (row_partitions rows)
