-- The laws of a raise: it spreads to all that reads it, and leaves an action without an outcome.
-- They are said of the local meaning, which is what tasks compute.
use Rattle.std.specs.Prelude.{ℕ, ◌≡◌, ◌<◌, true, List, [], ◌∷◌, Contains, Some, length, map, slice_get}
use Rattle.std.specs.List.{list_any}
use Rattle.sc_lineage.specs.Actions.{action_outcome, never}
use Rattle.sc_lineage.specs.Dependencies.{dependencies_by, parent_of, shuffled}
use Rattle.sc_lineage.specs.Meaning.{known_of, local_streams}
use Rattle.sc_lineage.specs.NodeData.{NodeData}
use Rattle.sc_lineage.specs.Partitioners.{PartitionerData}
use Rattle.sc_lineage.specs.ScriptData.{ActionData, WorkData, IsSoundScript, node_of_action}
use Rattle.sc_lineage.specs.Streams.{raises}
use Rattle.sc_lineage.specs.Targets.{map_target, own_value, result_target}

-- some partition of a node raises
abbrev pub RaisesSomewhere : WorkData → ℕ → Type 0
RaisesSomewhere work node = list_any raises (local_streams work node) ≡ true

-- a node reads another: one of its dependencies is on it, by a shuffle or without
pub record Reads (work : WorkData) (reader parent : ℕ) : Type 0 where
  pub node : NodeData
  pub is : slice_get work.script.nodes reader ≡ Some node
  pub depends : Contains (map parent_of (dependencies_by (known_of work) node)) parent

-- a path from one node to another, on which each node reads the next
abbrev pub ReadsAlong : WorkData → ℕ → List ℕ → ℕ → Type 0
ReadsAlong work from [] to = from ≡ to
ReadsAlong work from (via ∷ path) to = Reads work from via × ReadsAlong work via path to

-- side number `side` of a node is a shuffle of this parent
pub record ShufflesSide (work : WorkData) (reader side parent : ℕ) : Type 0 where
  pub node : NodeData
  pub by : PartitionerData
  pub is : slice_get work.script.nodes reader ≡ Some node
  pub depends : slice_get (dependencies_by (known_of work) node) side ≡ Some (shuffled parent by)

-- a raise of what a node reads is a raise of the node
abbrev pub RaisesSpread : Type 0
RaisesSpread =
    (work : WorkData) (reader parent : ℕ) → IsSoundScript work.script → Reads work reader parent
    → RaisesSomewhere work parent → RaisesSomewhere work reader

-- a raise of what a node reads directly or by way of others is a raise of the node
abbrev pub RaisesSpreadAlong : Type 0
RaisesSpreadAlong =
    (work : WorkData) (from to : ℕ) (path : List ℕ) → IsSoundScript work.script
    → ReadsAlong work from path to → RaisesSomewhere work to → RaisesSomewhere work from

-- a raise of the map side of a partition is a raise of the node that shuffles it
abbrev pub OwnRaisesSpread : Type 0
OwnRaisesSpread =
    (work : WorkData) (node side parent m : ℕ) → IsSoundScript work.script
    → ShufflesSide work node side parent → m < length (local_streams work parent)
    → raises (own_value work (map_target node side m)) ≡ true → RaisesSomewhere work node

-- what leaves an action of a work without an outcome
pub record NeverByRaise (work : WorkData) (action : ActionData) : Type 0 where
  -- a raise of its node
  pub of_node : RaisesSomewhere work (node_of_action action) → action_outcome work action ≡ never
  -- a raise of the result of one of its node's partitions
  pub of_result :
      (p : ℕ) → p < length (local_streams work (node_of_action action))
      → raises (own_value work (result_target action p)) ≡ true
      → action_outcome work action ≡ never
  -- nothing else
  pub only :
      action_outcome work action ≡ never
      → (p : ℕ) × (p < length (local_streams work (node_of_action action)))
      × (raises (own_value work (result_target action p)) ≡ true)

-- an action has no outcome exactly where the result of some partition of its node raises
abbrev pub NeversAreByRaises : Type 0
NeversAreByRaises =
    (work : WorkData) (action : ActionData) → IsSoundScript work.script
    → node_of_action action < length work.script.nodes → NeverByRaise work action
