-- What is computed as one task, and what a task leaves.
use Rattle.std.specs.Prelude.{ℕ, ◌≡◌, ◌<◌, length, List, Some}
use Rattle.sc_value.specs.Datum.{Datum}
use Rattle.sc_combine.specs.Deals.{IsDealt}
use Rattle.sc_lineage.specs.NodeData.{NodeData, shuffle_node, meet_node}
use Rattle.sc_lineage.specs.ScriptData.{WorkData, node_of_action}
use Rattle.sc_lineage.specs.Shuffles.{Dealing}
use Rattle.sc_lineage.specs.Streams.{ended_stream, whole_stream}
use Rattle.sc_lineage.specs.Targets.{TargetData, map_target, own_value, result_target}
use Rattle.sc_lineage.specs.Views.{action_data_of}
use Rattle.sc_lineage.specs.declared.streams.Stream.{Stream}
use Rattle.sc_combine.specs.Outputs.{dealing_of_node}
use Rattle.sc_compute.specs.Stages.{HasBounds, HasMade, local_count, mapped_in, node_at}
use Rattle.sc_compute.specs.declared.stages.ShuffleInputs.{ShuffleInputs}
use Rattle.sc_compute.specs.declared.targets.TaskOutput.{TaskOutput}
use Rattle.sc_compute.specs.declared.targets.TaskOutput.TheVariants.{Output, Raised, Result}
use Rattle.sc_compute.specs.declared.targets.TaskTarget.{TaskTarget}
use Rattle.sc_compute.specs.declared.targets.TaskTarget.TheVariants as targets

-- what a target stands for
abbrev pub target_data_of : TaskTarget → TargetData
target_data_of (targets.Map node side m) = map_target node side m
target_data_of (targets.Result action p) = result_target (action_data_of action.now) p

-- a node has a side: a shuffle of one parent has one, and where two meet there are two
abbrev pub IsSideOf : NodeData → ℕ → Type 0
IsSideOf (shuffle_node kind parent n) side = side < 1
IsSideOf (meet_node kind left right n) side = side < 2
IsSideOf node side = ⊥

-- a work has what a target names: the node is there, and so is the partition
abbrev pub IsTargetOf : WorkData → TargetData → Type 0
IsTargetOf work (map_target node side m) =
    (node < length work.script.nodes) × IsSideOf (node_at work node) side
    × (m < local_count work (mapped_in (node_at work node) side))
IsTargetOf work (result_target action p) =
    (node_of_action action < length work.script.nodes)
    × (p < local_count work (node_of_action action))

-- what a target needs was made: for a node whose partition it takes, and the bounds of a sort
abbrev pub HasAll : WorkData → ShuffleInputs → TargetData → Type 0
HasAll work stages (map_target node side m) =
    HasMade stages (mapped_in (node_at work node) side)
    × HasBounds stages node (node_at work node)
HasAll work stages (result_target action p) = HasMade stages (node_of_action action)

-- a task leaves what goes into a shuffle from map partition m: its rows by bucket, or its raise
abbrev pub LeavesSide : Dealing → ℕ → Stream → TaskOutput → Type 0
LeavesSide dealing m own (Output dealt) =
    (rows : List Datum) × (own ≡ whole_stream rows) × IsDealt dealing m rows dealt
LeavesSide dealing m own (Raised r) = own ≡ ended_stream (Some r)
LeavesSide dealing m own (Result s) = ⊥

-- a task leaves what its target is to have computed: a map side by bucket, a result as it is
abbrev pub Leaves : WorkData → TargetData → TaskOutput → Type 0
Leaves work (map_target node side m) left =
    LeavesSide (dealing_of_node work (node_at work node)) m
    (own_value work (map_target node side m)) left
Leaves work (result_target action p) (Result s) = s ≡ own_value work (result_target action p)
Leaves work (result_target action p) (Output dealt) = ⊥
Leaves work (result_target action p) (Raised r) = ⊥
