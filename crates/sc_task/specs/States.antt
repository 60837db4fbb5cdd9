-- The states of an attempt, as plain data, and what holds of them.
use Rattle.std.specs.Prelude.{ℕ, ◌≡◌, ◌++◌, true, false, List, Option, Some, IfSome, refl}
use Rattle.std.specs.Coded.{Coded, code_by, coded×, coded_list, coded_ℕ}
use Rattle.std.specs.List.{AllZip}
use Rattle.sc_value.specs.Datum.{Datum}
use Rattle.sc_value.specs.Printing.{printed_lines}
use Rattle.sc_ids.specs.contracts.blocks.Loc.{the_row as loc_row}
use Rattle.sc_ids.specs.declared.blocks.BlockId.{BlockId}
use Rattle.sc_ids.specs.declared.blocks.Loc.{Loc}
use Rattle.sc_lineage.specs.ScriptData.{WorkData}
use Rattle.sc_lineage.specs.Streams.{whole_stream}
use Rattle.sc_lineage.specs.Targets.{own_value}
use Rattle.sc_compute.specs.contracts.caching.CachedPart.{the_row as part_row}
use Rattle.sc_compute.specs.declared.caching.CachedPart.{CachedPart}
use Rattle.sc_compute.specs.declared.results.TaskResult.TheVariants.{Saved}
use Rattle.sc_store.specs.OwnBlocks.{IsOwnBlock}
use Rattle.sc_jobs.specs.JobData.{saves}
use Rattle.sc_net.specs.Reports.{IsResultOf}
use Rattle.sc_net.specs.Tasks.{TaskData, block_of_task, blocks_of_task, is_map_task, target_of_task, task_code}
use Rattle.sc_task.specs.Cursors.{IsPlace, blocks_from}
use Rattle.sc_task.specs.declared.cursors.Cursor.{Cursor}
use Rattle.sc_task.specs.declared.made.Made.{Made}
use Rattle.sc_task.specs.declared.made.Made.TheVariants as made

-- an attempt that reads
pub record AssignedData : Type 0 where
  pub task : TaskData
  -- how many blocks it has read
  pub got : ℕ

-- an attempt that has read all
pub record ReadData : Type 0 where
  pub task : TaskData
  -- how many blocks it has read
  pub got : ℕ
  -- the partitions of cache nodes that it needn't compute, with their rows
  pub known : List CachedPart

-- an attempt that has computed what it is to compute
pub record ComputedData : Type 0 where
  pub task : TaskData
  -- the partitions that were known
  pub used : List CachedPart
  -- the partitions of cache nodes that it computed, with their rows
  pub fresh : List CachedPart

-- an attempt of a save that is to ask, one that may move its part, and one that has
pub record SaverData : Type 0 where
  pub task : TaskData

-- an attempt whose block was put
pub record StoredData : Type 0 where
  pub task : TaskData
  -- where it was put
  pub loc : Loc

abbrev pub assigned_data : TaskData → ℕ → AssignedData
assigned_data task got = record { task = task; got = got }

abbrev pub read_data : TaskData → ℕ → List CachedPart → ReadData
read_data task got known = record { task = task; got = got; known = known }

abbrev pub computed_data : TaskData → List CachedPart → List CachedPart → ComputedData
computed_data task used fresh = record { task = task; used = used; fresh = fresh }

abbrev pub saver_data : TaskData → SaverData
saver_data task = record { task = task }

abbrev pub stored_data : TaskData → Loc → StoredData
stored_data task loc = record { task = task; loc = loc }

-- the codes of the states, by which proofs tell two of one kind apart
abbrev pub assigned_code : Coded AssignedData
assigned_code =
    code_by (TaskData × ℕ) (coded× task_code coded_ℕ)
    (λ a. (a.task, a.got)) (λ p. assigned_data p.0 p.1) (λ _. refl)

abbrev pub parts_code : Coded (List CachedPart)
parts_code = coded_list part_row.coded

abbrev pub read_code : Coded ReadData
read_code =
    code_by (TaskData × (ℕ × List CachedPart)) (coded× task_code (coded× coded_ℕ parts_code))
    (λ r. (r.task, (r.got, r.known))) (λ p. read_data p.0 p.1.0 p.1.1) (λ _. refl)

abbrev pub computed_code : Coded ComputedData
computed_code =
    code_by (TaskData × (List CachedPart × List CachedPart))
    (coded× task_code (coded× parts_code parts_code))
    (λ c. (c.task, (c.used, c.fresh))) (λ p. computed_data p.0 p.1.0 p.1.1) (λ _. refl)

abbrev pub saver_code : Coded SaverData
saver_code = code_by TaskData task_code (λ s. s.task) (λ t. saver_data t) (λ _. refl)

abbrev pub stored_code : Coded StoredData
stored_code =
    code_by (TaskData × Loc) (coded× task_code loc_row.coded)
    (λ s. (s.task, s.loc)) (λ p. stored_data p.0 p.1) (λ _. refl)

-- outputs are those of blocks, in order
abbrev pub AreOf : WorkData → List BlockId → List (List (List Datum)) → Type 0
AreOf work blocks outputs = AllZip (IsOwnBlock work) blocks outputs

-- What was read of a task's blocks: the first of them, in order, and a cursor is at the others.
pub record HasRead (work : WorkData) (t : TaskData) (got : List (List (List Datum)))
    (cursor : Option Cursor) : Type 0 where
  pub before : List BlockId
  pub all : blocks_of_task t ≡ before ++ blocks_from t cursor
  pub own : AreOf work before got
  pub place : IfSome cursor IsPlace

-- all blocks of a task were read, in order
abbrev pub HasReadAll : WorkData → TaskData → List (List (List Datum)) → Type 0
HasReadAll work t got = AreOf work (blocks_of_task t) got

-- a task is that of a part: it is of a save, and no map task
abbrev pub IsOfPart : WorkData → TaskData → Type 0
IsOfPart work t = (is_map_task t ≡ false) × (saves work t.job.goal ≡ true)

-- rows are those of a part: what its task is to compute, which doesn't raise
pub record IsPartOf (work : WorkData) (t : TaskData) (rows : List Datum) : Type 0 where
  pub part : IsOfPart work t
  pub own : own_value work (target_of_task work t) ≡ whole_stream rows

-- a text is that of the part of a task: its rows, a line each
abbrev pub IsPartText : WorkData → TaskData → List ℕ → Type 0
IsPartText work t text =
    (rows : List Datum) × IsPartOf work t rows × (text ≡ printed_lines rows)

-- a task whose part doesn't raise: once it is moved, its attempt reports that it is saved
abbrev pub IsSavable : WorkData → TaskData → Type 0
IsSavable work t = IsOfPart work t × IsResultOf work t Saved

-- a value is what a task is to compute: a map task's own block, the rows of a part, or what it
-- hands over
abbrev pub IsMade : {W : _} → WorkData → TaskData → Made W → Type 0
IsMade work t (made.Block block) = block_of_task t ≡ Some block.id
IsMade work t (made.Part rows) = IsPartOf work t rows
IsMade work t (made.Result given) = (saves work t.job.goal ≡ false) × IsResultOf work t given
