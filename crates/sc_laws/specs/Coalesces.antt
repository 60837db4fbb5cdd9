-- The law of a coalesce of a union: nothing is lost, and nothing changes its place.
use Rattle.std.specs.Prelude.{ℕ, ◌≡◌, ◌++◌, false, Some, slice_get}
use Rattle.std.specs.List.{list_any}
use Rattle.sc_lineage.specs.Actions.{all_rows}
use Rattle.sc_lineage.specs.Meaning.{node_streams}
use Rattle.sc_lineage.specs.NodeData.{coalesce_node, union_node}
use Rattle.sc_lineage.specs.ScriptData.{WorkData, IsSoundScript}
use Rattle.sc_lineage.specs.Streams.{raises}

-- the rows of all partitions of a coalesce of a union are those of the left parent and then those
-- of the right one, where nothing raises
abbrev pub CoalesceLaw : Type 0
CoalesceLaw =
    (work : WorkData) (node united left right n : ℕ) → IsSoundScript work.script
    → slice_get work.script.nodes node ≡ Some (coalesce_node united n)
    → slice_get work.script.nodes united ≡ Some (union_node left right)
    → list_any raises (node_streams work node) ≡ false
    → all_rows (node_streams work node)
    ≡ all_rows (node_streams work left) ++ all_rows (node_streams work right)
