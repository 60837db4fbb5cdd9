-- The paths at which attempts write.
use Rattle.std.specs.Prelude.{ℕ, ◌<◌, ◌^◌, List, ◌++◌, codes, decimal}
use Rattle.sc_base.specs.Trees.{Path}
use Rattle.sc_ids.specs.declared.attempts.AttemptId.{AttemptId}

-- the four numbers of an attempt, with dashes between
abbrev pub dashed : AttemptId → List ℕ
dashed a =
    decimal a.stage ++ (codes "-" ++ (decimal a.stage_attempt
    ++ (codes "-" ++ (decimal a.partition ++ (codes "-" ++ decimal a.nth)))))

-- the directory in which attempts write
abbrev pub staging_path : Path → Path
staging_path dir = dir ++ codes "/_temporary"

-- the file that an attempt writes
abbrev pub staged_path : Path → AttemptId → Path
staged_path dir a = dir ++ (codes "/_temporary/s-" ++ dashed a)

-- the file that a granted attempt makes of it
abbrev pub committed_path : Path → AttemptId → Path
committed_path dir a = dir ++ (codes "/_temporary/c-" ++ dashed a)

-- the numbers of an attempt are no greater than their types allow
pub record IsWithinTypes (a : AttemptId) : Type 0 where
  pub stage : a.stage < 2 ^ 64
  pub stage_attempt : a.stage_attempt < 2 ^ 64
  pub partition : a.partition < 2 ^ 64
  pub nth : a.nth < 2 ^ 64
