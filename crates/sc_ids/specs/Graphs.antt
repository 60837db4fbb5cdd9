-- The stages of a job, as plain data.
use Rattle.std.specs.Prelude.{ℕ, List}
use Rattle.sc_ids.specs.declared.blocks.Target.{Target}

-- a stage
pub record StageData : Type 0 where
  -- its number
  pub id : ℕ
  -- what its tasks make
  pub target : Target
  -- how many tasks it has
  pub tasks : ℕ
  -- the stages whose outputs its tasks read
  pub parents : List ℕ

abbrev pub stage_data : ℕ → Target → ℕ → List ℕ → StageData
stage_data id target tasks parents =
    record { id = id; target = target; tasks = tasks; parents = parents }
