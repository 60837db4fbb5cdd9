-- Laws of cuts.
use Rattle.std.specs.Prelude.{ℕ, ◌<◌, ◌≡◌, ◌↔◌, true, List, All, Contains}
use Rattle.std.specs.List.{AllPairs}
use Rattle.sc_ids.specs.Graphs.{StageData}
use Rattle.sc_ids.specs.declared.blocks.ShuffleId.{ShuffleId}
use Rattle.sc_ids.specs.declared.blocks.Target.{Target}
use Rattle.sc_ids.specs.declared.blocks.Target.TheVariants as targets
use Rattle.sc_lineage.specs.NodeData.{NodeData}
use Rattle.sc_lineage.specs.ScriptData.{WorkData, IsSoundScript}
use Rattle.sc_stagecut.specs.Carrying.{CarriedData, IsCarriedFor, after_job}
use Rattle.sc_stagecut.specs.Cuts.{IsCut}
use Rattle.sc_stagecut.specs.Numbering.{is_shuffle, mapped_node}
use Rattle.sc_stagecut.specs.Reaching.{IsReached, IsWithin}
use Rattle.sc_stagecut.specs.declared.carried.Numbered.{Numbered}

-- a graph has the map stage of a shuffle, under a number
abbrev pub HasStage : List StageData → ShuffleId → ℕ → Type 0
HasStage graph s id =
    (stage : StageData) × Contains graph stage × (stage.target ≡ targets.Map s) × (stage.id ≡ id)

-- the node whose partitions the tasks of a stage take
abbrev pub taken_node : List NodeData → Target → ℕ
taken_node nodes (targets.Map s) = mapped_node nodes s
taken_node nodes (targets.Result node) = node

-- a number is that of a shuffle that the tasks of a stage read
abbrev pub IsOfRead : List NodeData → List StageData → Target → ℕ → Type 0
IsOfRead nodes graph target id =
    (s : ShuffleId) × (is_shuffle nodes s ≡ true)
    × IsWithin nodes (taken_node nodes target) s.node × HasStage graph s id

-- what holds of the stages of a job
pub record IsLawfulCut (nodes : List NodeData) (carried : CarriedData) (node : ℕ)
    (graph : List StageData) : Type 0 where
  -- each shuffle that the node reaches has a map stage, and no other side has one
  pub made : (s : ShuffleId) → is_shuffle nodes s ≡ true → IsReached nodes node s.node
      → (id : ℕ) × HasStage graph s id
  pub only : (s : ShuffleId) (id : ℕ) → HasStage graph s id
      → (is_shuffle nodes s ≡ true) × IsReached nodes node s.node
  -- one that has a stage from a job before keeps it
  pub kept : (n : Numbered) → Contains carried.stages n → IsReached nodes node n.shuffle.node
      → HasStage graph n.shuffle n.stage
  -- the parents of a stage are those of the shuffles that its tasks read
  pub parents : (stage : StageData) (id : ℕ) → Contains graph stage
      → Contains stage.parents id ↔ IsOfRead nodes graph stage.target id
  -- numbers rise, and those of parents are smaller
  pub rising : AllPairs (λ a b. a.id < b.id) graph
  pub older : All (λ stage. All (λ parent. parent < stage.id) stage.parents) graph
  -- what is carried on is of the script's jobs again
  pub carried_on : IsCarriedFor nodes (after_job carried graph)

-- the laws of cuts
abbrev pub CutsAreLawful : Type 0
CutsAreLawful =
    (work : WorkData) (carried : CarriedData) (node : ℕ) (graph : List StageData)
    → IsSoundScript work.script → IsCarriedFor work.script.nodes carried
    → IsCut work carried node graph → IsLawfulCut work.script.nodes carried node graph
