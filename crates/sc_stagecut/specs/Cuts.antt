-- The stages of a job.
use Rattle.std.specs.Prelude.{ℕ, ◌+◌, ◌≡◌, true, false, List, [], ◌∷◌, ◌++◌, length, map}
use Rattle.std.specs.List.{AllZip}
use Rattle.sc_ids.specs.Graphs.{StageData}
use Rattle.sc_ids.specs.declared.blocks.ShuffleId.{ShuffleId}
use Rattle.sc_ids.specs.declared.blocks.Target.{Target}
use Rattle.sc_ids.specs.declared.blocks.Target.TheVariants as targets
use Rattle.sc_lineage.specs.Meaning.{known_of, part_count_by}
use Rattle.sc_lineage.specs.NodeData.{NodeData}
use Rattle.sc_lineage.specs.ScriptData.{WorkData}
use Rattle.sc_stagecut.specs.Carrying.{CarriedData}
use Rattle.sc_stagecut.specs.Numbering.{AreThose, has_number, in_side_order, is_shuffle, mapped_node, numbered_from, sides_below}
use Rattle.sc_stagecut.specs.Reaching.{IsReached, IsWithin}
use Rattle.sc_stagecut.specs.declared.carried.Numbered.{Numbered}

-- a side gets a map stage in a job that begins at a node
pub record NeedsStage (nodes : List NodeData) (stages : List Numbered) (node : ℕ) (s : ShuffleId)
    : Type 0 where
  pub shuffle : is_shuffle nodes s ≡ true
  pub reached : IsReached nodes node s.node
  -- it has none from a job before
  pub new : has_number stages s ≡ false

-- The numbers of the map stages of a job: shuffles that have a stage keep it, and the others get
-- the next numbers in the order of (node, side).
pub record AreNumbers (nodes : List NodeData) (carried : CarriedData) (node : ℕ)
    (numbers : List Numbered) (next : ℕ) : Type 0 where
  pub kept : List Numbered
  pub fresh : List ShuffleId
  pub are_kept : AreThose (λ n. IsReached nodes node n.shuffle.node) carried.stages kept
  pub are_fresh : AreThose (NeedsStage nodes carried.stages node) (sides_below (node + 1)) fresh
  pub all : numbers ≡ kept ++ numbered_from carried.next fresh
  pub behind : next ≡ carried.next + length fresh

-- A stage whose tasks take the partitions of a node, so many, among the numbered shuffles of a job.
-- Its parents are the stages of those that its tasks read, in the same order.
pub record IsStage (nodes : List NodeData) (numbers : List Numbered) (id : ℕ) (target : Target)
    (node count : ℕ) (stage : StageData) : Type 0 where
  pub is_numbered : stage.id ≡ id
  pub makes : stage.target ≡ target
  pub counted : stage.tasks ≡ count
  pub read : List Numbered
  pub are_read : AreThose (λ n. IsWithin nodes node n.shuffle.node) numbers read
  pub parents : stage.parents ≡ map (λ n. n.stage) read

-- the map stage of a numbered shuffle has a task for each partition of the parent
abbrev pub IsMapStage : WorkData → List Numbered → Numbered → StageData → Type 0
IsMapStage work numbers n stage =
    IsStage work.script.nodes numbers n.stage (targets.Map n.shuffle)
    (mapped_node work.script.nodes n.shuffle)
    (part_count_by (known_of work) work (mapped_node work.script.nodes n.shuffle)) stage

-- The stages of a job that begins at a node: a map stage for each shuffle that the node reaches,
-- in the order of their numbers, and then the result stage, with a task for each partition of the
-- node. The parents of each are in the order of (node, side), whichever job gave them their
-- numbers.
pub record IsCut (work : WorkData) (carried : CarriedData) (node : ℕ) (graph : List StageData)
    : Type 0 where
  pub numbers : List Numbered
  pub next : ℕ
  pub are_numbers : AreNumbers work.script.nodes carried node numbers next
  pub maps : List StageData
  pub result : StageData
  pub all : graph ≡ maps ++ result ∷ []
  pub are_maps : AllZip (IsMapStage work (in_side_order (node + 1) numbers)) numbers maps
  pub is_result : IsStage work.script.nodes (in_side_order (node + 1) numbers) next
      (targets.Result node) node (part_count_by (known_of work) work node) result
