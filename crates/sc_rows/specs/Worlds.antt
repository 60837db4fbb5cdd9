-- The worlds that tests begin.
use Rattle.std.specs.Prelude.{◌≡◌, None}
use Rattle.sc_base.specs.Trees.{Path, Tree}
use Rattle.sc_lineage.specs.ScriptData.{WorkData}
use Rattle.sc_jobs.specs.declared.goals.Goal.TheVariants as goals
use Rattle.sc_desk.specs.Begins.{Begins}
use Rattle.sc_desk.specs.DeskData.{DeskData, PassedData}
use Rattle.sc_staging.specs.Opening.{opened_tree}

-- the desk of the first action, with which a run begins
abbrev pub IsFirstDesk : WorkData → DeskData → Type 0
IsFirstDesk work desk =
    (passed : PassedData) × Begins work passed None (goals.Action 0) desk

-- both directories of a save were just made
abbrev pub IsNewlyOpened : Path → Tree → Type 0
IsNewlyOpened dir t = (u : Tree) × (t ≡ opened_tree dir u)

-- a desk is that of the first job later on
pub record IsOfFirst (work : WorkData) (d : DeskData) : Type 0 where
  pub first : DeskData
  pub begins : IsFirstDesk work first
  pub job : d.job ≡ first.job
  pub carried : d.carried ≡ first.carried
