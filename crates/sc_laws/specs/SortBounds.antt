-- The law of the bounds of sorts: they are found from what tasks compute.
use Rattle.std.specs.Prelude.{ℕ, ◌≡◌, Some, slice_get}
use Rattle.sc_lineage.specs.Meaning.{bounds_step, known_of, meanings, meanings_by}
use Rattle.sc_lineage.specs.NodeData.{NodeData}
use Rattle.sc_lineage.specs.ScriptData.{WorkData, IsSoundScript}

-- the bounds of a node that are found from what tasks compute of its parent, shuffles skipped, are
-- those that it has in the sequential meaning, where every operation by key is a shuffle
abbrev pub BoundsLaw : Type 0
BoundsLaw =
    (work : WorkData) (k : ℕ) (node : NodeData) → IsSoundScript work.script
    → slice_get work.script.nodes k ≡ Some node
    → bounds_step (meanings_by (known_of work) work) node ≡ bounds_step (meanings work) node
