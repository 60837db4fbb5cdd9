-- The bounds that a job knows.
use Rattle.std.specs.Prelude.{ℕ, List, Option, None, if◌then◌else◌}
use Rattle.sc_base.specs.Lists.{at_or}
use Rattle.sc_value.specs.Keys.{KeyData}
use Rattle.sc_lineage.specs.NodeData.{NodeData, cache_node}
use Rattle.sc_stagecut.specs.Carrying.{is_sort}

-- the bounds of a node, where it is a sort and they were found
abbrev pub known_at : List NodeData → List (Option (List KeyData)) → ℕ → Option (List KeyData)
known_at nodes found k =
    if is_sort (at_or nodes k (cache_node 0)) then at_or found k None else None
