-- How many partitions nodes have, by the bounds that were found.
use Rattle.std.specs.Prelude.{ℕ, List, [], Option, None, length}
use Rattle.std.specs.Option.{unwrap_or}
use Rattle.sc_base.specs.Lists.{at_or}
use Rattle.sc_value.specs.Keys.{KeyData}
use Rattle.sc_ids.specs.Graphs.{StageData}
use Rattle.sc_ids.specs.declared.blocks.Target.TheVariants as targets
use Rattle.sc_lineage.specs.Meaning.{parts_step}
use Rattle.sc_lineage.specs.NodeData.{NodeData}
use Rattle.sc_stagecut.specs.Cuts.{IsStage}
use Rattle.sc_stagecut.specs.Numbering.{mapped_node}
use Rattle.sc_stagecut.specs.declared.carried.Numbered.{Numbered}

-- the number of partitions of a node, from those of the nodes before it
abbrev pub counted_step : List (Option (List KeyData)) → List ℕ → NodeData → ℕ
counted_step bounds before node =
    parts_step (unwrap_or (at_or bounds (length before) None) []) before node

-- the map stage of a numbered shuffle, where the numbers of partitions of nodes are given
abbrev pub IsCountedStage :
    List NodeData → List ℕ → List Numbered → Numbered → StageData → Type 0
IsCountedStage nodes counts numbers n stage =
    IsStage nodes numbers n.stage (targets.Map n.shuffle) (mapped_node nodes n.shuffle)
    (at_or counts (mapped_node nodes n.shuffle) 0) stage
