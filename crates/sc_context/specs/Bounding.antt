-- How the bounds of sorts are found by jobs.
use Rattle.std.specs.Prelude.{ℕ, ◌≡◌, ◌++◌, List, Some}
use Rattle.sc_compute.specs.Stages.{bounds_at}
use Rattle.sc_ids.specs.Changes.{change_at}
use Rattle.sc_lineage.specs.NodeData.{NodeData, shuffle_node}
use Rattle.sc_lineage.specs.ScriptData.{WorkData}
use Rattle.sc_stagecut.specs.Carrying.{HasBounds}
use Rattle.sc_core.specs.declared.journals.JobHistory.{JobHistory}
use Rattle.sc_context.specs.Contexts.{ContextData}
use Rattle.sc_context.specs.Files.{HaveLeft}
use Rattle.sc_context.specs.Histories.{HasCome}
use Rattle.sc_context.specs.Progress.{next_node}

-- into how many partitions at most a node's rows are shuffled
abbrev pub parts_of : NodeData → ℕ
parts_of (shuffle_node kind parent n) = n
parts_of node = 0

-- the same action comes next, the jobs that were done stand behind those of before, and the files
-- are as they were
pub record GoesOn (work : WorkData) (c after : ContextData) : Type 0 where
  pub actions : after.progress.actions ≡ c.progress.actions
  pub more : List JobHistory
  pub all : after.histories ≡ c.histories ++ more
  pub given : List JobHistory
  pub all_given : after.given_up ≡ c.given_up ++ given
  pub come : HasCome work c.progress more given after.progress
  pub left : HaveLeft work c.progress more given after.progress come c.files after.files
  pub files : after.files ≡ c.files

-- the bounds of a sort were found
pub record Finds (work : WorkData) (c : ContextData) (sort : ℕ) (after : ContextData)
    : Type 0 where
  pub on : GoesOn work c after
  pub bounds : after.progress.carried.bounds
      ≡ change_at c.progress.carried.bounds sort (λ _. Some (bounds_at work sort))

-- all bounds that the next action needs were found
pub record FindsAll (work : WorkData) (c after : ContextData) : Type 0 where
  pub on : GoesOn work c after
  pub found : HasBounds work.script.nodes after.progress.carried (next_node work after.progress)
