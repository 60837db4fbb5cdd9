-- What was made for the nodes of a work, so that their partitions can be computed: how many
-- partitions they have, and what went into their shuffles.
use Rattle.std.specs.declared.alloc.Global.{Global}
use Rattle.std.specs.Prelude.{Vec, ℕ, zero, suc, ◌≡◌, ◌<◌, Bool, true, false, List, [], ◌∷◌, ◌++◌, Option, Some, None, IfSome, Result, Ok, Err, is_some, length, map, nat_eq, slice_get}
use Rattle.std.specs.HashMap.{get}
use Rattle.std.specs.List.{All}
use Rattle.std.specs.Option.{option_to_list}
use Rattle.sc_base.specs.Lists.{at_or}
use Rattle.sc_value.specs.Datum.{Datum}
use Rattle.sc_value.specs.Keys.{KeyData}
use Rattle.sc_expr.specs.declared.exprs.Raise.{Raise}
use Rattle.sc_combine.specs.Deals.{IsDealt}
use Rattle.sc_combine.specs.Outputs.{IsOutput, dealing_in}
use Rattle.sc_lineage.specs.Dependencies.{Dependency, one_to_one, range_behind, grouped, shuffled, dependencies_by, parents_of}
use Rattle.sc_lineage.specs.Keyed.{Side}
use Rattle.sc_lineage.specs.Meaning.{bounds_step, known_of, local_streams, meanings_by}
use Rattle.sc_lineage.specs.NodeData.{NodeData, ShufflingData, group_by_key, sort_by_key, text_node, parallelize_node, each_node, union_node, coalesce_node, cache_node, shuffle_node, meet_node}
use Rattle.sc_lineage.specs.Partitioners.{PartitionerData, no_partitioner, hash_partitioner, is_parted_by, partitioner_of_shuffle}
use Rattle.sc_lineage.specs.ScriptData.{WorkData}
use Rattle.sc_lineage.specs.Shuffles.{Dealing, by_hash, map_side, of_sides}
use Rattle.sc_compute.specs.Keeping.{same_place}
use Rattle.sc_compute.specs.declared.stages.Input.{Input}
use Rattle.sc_compute.specs.declared.stages.Input.TheVariants as inputs
use Rattle.sc_compute.specs.declared.stages.Sides.{Sides}
use Rattle.sc_compute.specs.declared.stages.Sides.TheVariants.{Narrow, One, Two}
use Rattle.sc_compute.specs.declared.stages.ShuffleInputs.{ShuffleInputs}

-- the node of a number
abbrev pub node_at : WorkData → ℕ → NodeData
node_at work k = at_or work.script.nodes k (cache_node 0)

-- the number of partitions of a node, as they are computed
abbrev pub local_count : WorkData → ℕ → ℕ
local_count work k = length (local_streams work k)

-- what goes into a shuffle from each partition of a parent
abbrev pub sides_of : WorkData → ShufflingData → ℕ → List Side
sides_of work kind parent = map (map_side kind) (local_streams work parent)

-- what sides give together: the rows of each, or the first raise
abbrev pub Opens : List Side → Result (List (List Datum)) Raise → Type 0
Opens sides (Ok maps) = sides ≡ map Ok maps
Opens sides (Err r) = (f : List (List Datum) → Side) → of_sides f sides ≡ Err r

-- the rows of the map partitions, of which the first has a number, by bucket
abbrev pub AreDealt : Dealing → ℕ → List (List Datum) → List (List (List Datum)) → Type 0
AreDealt dealing m [] [] = Unit {0}
AreDealt dealing m (rows ∷ maps) (d ∷ ds) =
    IsDealt dealing m rows d × AreDealt dealing (suc m) maps ds
AreDealt dealing m maps ds = ⊥

-- whether the rows of a parent already lie as a shuffle asks
abbrev pub lies_so : WorkData → PartitionerData → ℕ → Bool
lies_so work wanted parent = is_parted_by wanted (at_or (known_of work) parent no_partitioner)

-- what a shuffle is to read of a parent
abbrev pub IsInput : WorkData → ShufflingData → Dealing → PartitionerData → ℕ → Input → Type 0
IsInput work kind dealing wanted parent inputs.Own = lies_so work wanted parent ≡ true
IsInput work kind dealing wanted parent (inputs.Dealt dealt) =
    (maps : List (List Datum)) × (lies_so work wanted parent ≡ false)
    × Opens (sides_of work kind parent) (Ok maps) × AreDealt dealing 0 maps dealt.items

-- what the sides of a node are to be read from
abbrev pub AreSides : WorkData → NodeData → Sides → Type 0
AreSides work (shuffle_node kind parent n) (One input) =
    IsInput work kind (dealing_in work kind parent n) (partitioner_of_shuffle kind n) parent input
AreSides work (meet_node kind left right n) (Two first second) =
    IsInput work group_by_key (by_hash n) (hash_partitioner n) left first
    × IsInput work group_by_key (by_hash n) (hash_partitioner n) right second
AreSides work (text_node name n) Narrow = Unit {0}
AreSides work (parallelize_node rows n) Narrow = Unit {0}
AreSides work (each_node kind parent e) Narrow = Unit {0}
AreSides work (union_node left right) Narrow = Unit {0}
AreSides work (coalesce_node parent n) Narrow = Unit {0}
AreSides work (cache_node parent) Narrow = Unit {0}
AreSides work node sides = ⊥

-- the node whose partitions go into a side of a node
abbrev pub mapped_in : NodeData → ℕ → ℕ
mapped_in node side = at_or (parents_of node) side 0

-- a node has a side that is a shuffle, since the rows of its parent don't lie so already
abbrev pub GoesThrough : WorkData → NodeData → ℕ → Type 0
GoesThrough work (shuffle_node kind parent n) zero =
    lies_so work (partitioner_of_shuffle kind n) parent ≡ false
GoesThrough work (meet_node kind left right n) zero =
    lies_so work (hash_partitioner n) left ≡ false
GoesThrough work (meet_node kind left right n) (suc zero) =
    lies_so work (hash_partitioner n) right ≡ false
GoesThrough work node side = ⊥

-- a side of a node's shuffle does this with the rows of this parent, into so many partitions
abbrev pub IsSideFor : NodeData → ℕ → ShufflingData → ℕ → ℕ → Type 0
IsSideFor (shuffle_node does left n) zero kind parent m =
    (does ≡ kind) × (left ≡ parent) × (n ≡ m)
IsSideFor (meet_node does left right n) zero kind parent m =
    (group_by_key ≡ kind) × (left ≡ parent) × (n ≡ m)
IsSideFor (meet_node does left right n) (suc zero) kind parent m =
    (group_by_key ≡ kind) × (right ≡ parent) × (n ≡ m)
IsSideFor node side kind parent m = ⊥

-- what the tasks of a side left, one of each map partition in order
pub record AreOutputs (work : WorkData) (node side : ℕ) (outputs : List (List (List Datum))) :
    Type 0 where
  pub known : node < length work.script.nodes
  pub through : GoesThrough work (node_at work node) side
  pub count : length outputs ≡ local_count work (mapped_in (node_at work node) side)
  pub each : (m : ℕ) → m < length outputs → IsOutput work node side m (at_or outputs m [])

-- the bounds of a node
abbrev pub bounds_at : WorkData → ℕ → List KeyData
bounds_at work k = bounds_step (meanings_by (known_of work) work) (node_at work k)

-- what holds at the parents whose partitions are read by a dependency as they are; what goes
-- through a shuffle isn't
abbrev pub HoldsDirectly : (ℕ → Type 0) → Dependency → Type 0
HoldsDirectly P (one_to_one parent) = P parent
HoldsDirectly P (range_behind parent others) = P parent × All P others
HoldsDirectly P (grouped parent n) = P parent
HoldsDirectly P (shuffled parent by) = Unit {0}

-- the same of all dependencies
abbrev pub HoldDirectly : (ℕ → Type 0) → List Dependency → Type 0
HoldDirectly P [] = Unit {0}
HoldDirectly P (d ∷ ds) = HoldsDirectly P d × HoldDirectly P ds

-- the parents of a node whose partitions are read as they are
abbrev pub AtDirectParents : WorkData → (ℕ → Type 0) → ℕ → Type 0
AtDirectParents work P k = HoldDirectly P (dependencies_by (known_of work) (node_at work k))

-- what was made of a node is there
abbrev pub IsMade : (ℕ → Option Sides) → ℕ → Type 0
IsMade made k = is_some (made k) ≡ true

-- what was made for a node is right: its number of partitions, what its sides are read from, and
-- that the same was made before for the parents whose partitions are read as they are
pub record IsMadeRight (work : WorkData) (counts : List ℕ) (made : ℕ → Option Sides) (k : ℕ)
    (sides : Sides) : Type 0 where
  pub known : k < length work.script.nodes
  pub count : at_or counts k 0 ≡ local_count work k
  pub parents : AtDirectParents work (IsMade made) k
  pub are : AreSides work (node_at work k) sides

-- what was made for nodes, by their numbers
abbrev pub made_in : ShuffleInputs → ℕ → Option Sides
made_in stages = get nat_eq stages.sides

-- what was handed in for a side of a node
abbrev pub handed_in : ShuffleInputs → ℕ → ℕ → Option (Vec (List (List Datum)) Global)
handed_in stages node side = get same_place stages.handed (node, side)

-- a side is read from what was handed in for it, and where nothing was from its parent alone
abbrev pub IsReadOf : Option (Vec (List (List Datum)) Global) → Input → Type 0
IsReadOf None inputs.Own = Unit {0}
IsReadOf (Some outputs) (inputs.Dealt dealt) = dealt.items ≡ outputs.items
IsReadOf handed input = ⊥

-- the same of the sides of a node
abbrev pub AreReadOf : (ℕ → Option (Vec (List (List Datum)) Global)) → Sides → Type 0
AreReadOf handed Narrow = Unit {0}
AreReadOf handed (One input) = IsReadOf (handed 0) input
AreReadOf handed (Two first second) =
    IsReadOf (handed 0) first × IsReadOf (handed 1) second

-- the bounds of a node that were told
abbrev pub bounds_told : ShuffleInputs → ℕ → Option (List KeyData)
bounds_told stages = get nat_eq stages.bounds

-- all that was made for the nodes of a work is right, and so is what was handed in and told;
-- shuffles are read from what was handed in for them
pub record AreRight (work : WorkData) (stages : ShuffleInputs) : Type 0 where
  pub counts : length stages.counts.items ≡ length work.script.nodes
  pub each : (k : ℕ) → IfSome (made_in stages k)
      (IsMadeRight work stages.counts.items (made_in stages) k)
  pub read : (k : ℕ) → IfSome (made_in stages k) (AreReadOf (handed_in stages k))
  pub handed : (node side : ℕ) → IfSome (handed_in stages node side)
      (λ outputs. AreOutputs work node side outputs.items)
  pub told : (k : ℕ) → IfSome (bounds_told stages k) (λ bounds. bounds ≡ bounds_at work k)

-- what partitions of a node need was made
abbrev pub HasMade : ShuffleInputs → ℕ → Type 0
HasMade stages k = IsMade (made_in stages) k

-- something was handed in for a side of a node
abbrev pub HasOutputs : ShuffleInputs → ℕ → ℕ → Type 0
HasOutputs stages node side = is_some (handed_in stages node side) ≡ true

-- the bounds of a sort were told; another node needs none
abbrev pub HasBounds : ShuffleInputs → ℕ → NodeData → Type 0
HasBounds stages k (shuffle_node sort_by_key parent n) = is_some (bounds_told stages k) ≡ true
HasBounds stages k node = Unit {0}

-- the parent of a side, unless something was handed in for the side
abbrev pub unless_handed : Option (Vec (List (List Datum)) Global) → Option ℕ → Option ℕ
unless_handed None parent = parent
unless_handed (Some outputs) parent = None

-- the parents of a node that are to be made before it, each by its side
abbrev pub left_parent : ShuffleInputs → ℕ → NodeData → ℕ → Option ℕ
left_parent stages k node side =
    unless_handed (handed_in stages k side) (slice_get (parents_of node) side)

abbrev pub parents_left : ShuffleInputs → ℕ → NodeData → List ℕ
parents_left stages k node =
    option_to_list (left_parent stages k node 0) ++ option_to_list (left_parent stages k node 1)
