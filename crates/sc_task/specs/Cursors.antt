-- Where an attempt is in the blocks that it reads.
use Rattle.std.specs.Prelude.{ℕ, ◌+◌, ◌<◌, ◌^◌, ◌++◌, List, [], Option, Some, None, drop, map}
use Rattle.std.specs.List.{flat_map}
use Rattle.sc_base.specs.Lists.{numbers_from}
use Rattle.sc_ids.specs.declared.blocks.BlockId.{BlockId}
use Rattle.sc_dag.specs.Outputs.{block_of}
use Rattle.sc_jobs.specs.JobData.{blocks_left, parents_in, stage_in}
use Rattle.sc_net.specs.Tasks.{TaskData, stage_of_task}
use Rattle.sc_task.specs.declared.cursors.Cursor.{Cursor}

-- the blocks of the parents of a task's stage from a place on
abbrev pub blocks_behind : TaskData → ℕ → List BlockId
blocks_behind t parent =
    flat_map (λ id. blocks_left (stage_in t.job.graph id))
    (drop parent (parents_in (stage_of_task t)))

-- the blocks that a task reads from a cursor on; without one there are none
abbrev pub blocks_from : TaskData → Option Cursor → List BlockId
blocks_from t None = []
blocks_from t (Some c) =
    map (block_of c.shuffle) (numbers_from c.map c.left) ++ blocks_behind t c.parent

-- a cursor is at a block
pub record IsPlace (c : Cursor) : Type 0 where
  pub some : 0 < c.left
  -- the numbers of the blocks behind it fit
  pub fits : c.map + c.left < 2 ^ 32
