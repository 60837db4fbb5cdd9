-- Which nodes a node reads, directly or by way of others, and which of them without a shuffle
-- between.
use Rattle.std.specs.Prelude.{ℕ, Bool, true, false, not, List, [], ◌∷◌, Option, Some, None, ◌≡◌, Contains, filter, map, slice_get}
use Rattle.sc_lineage.specs.NodeData.{NodeData}
use Rattle.sc_lineage.specs.Dependencies.{Dependency, one_to_one, range_behind, grouped, shuffled, dependencies_by, parent_of}
use Rattle.sc_lineage.specs.Partitioners.{PartitionerData, partitioners_of}
use Rattle.sc_stagecut.specs.declared.reads.Follow.{Follow}
use Rattle.sc_stagecut.specs.declared.reads.Follow.TheVariants as follows

-- what a node that may be there depends on, where some partitioners are known
abbrev pub dependencies_among : List PartitionerData → Option NodeData → List Dependency
dependencies_among known None = []
dependencies_among known (Some node) = dependencies_by known node

-- What the node of a number depends on, where the partitioners of all nodes are known: a shuffle
-- that is skipped is none.
abbrev pub dependencies_at : List NodeData → ℕ → List Dependency
dependencies_at nodes k = dependencies_among (partitioners_of nodes) (slice_get nodes k)

-- a dependency is a shuffle
abbrev pub is_shuffled : Dependency → Bool
is_shuffled (one_to_one parent) = false
is_shuffled (range_behind parent others) = false
is_shuffled (grouped parent n) = false
is_shuffled (shuffled parent by) = true

-- a dependency is followed: each, or each that isn't a shuffle
abbrev pub is_followed : Follow → Dependency → Bool
is_followed follows.Every d = true
is_followed follows.Narrow d = not (is_shuffled d)

-- the nodes that a node reads by the dependencies that are followed
abbrev pub followed_from : Follow → List NodeData → ℕ → List ℕ
followed_from follow nodes k = map parent_of (filter (is_followed follow) (dependencies_at nodes k))

-- a path leads from one node to another, where `next` has the nodes that one leads to
abbrev pub Leads : (ℕ → List ℕ) → ℕ → List ℕ → ℕ → Type 0
Leads next from [] to = from ≡ to
Leads next from (via ∷ path) to = Contains (next from) via × Leads next via path to

-- some path leads from one node to another
abbrev pub Reaches : (ℕ → List ℕ) → ℕ → ℕ → Type 0
Reaches next from to = (path : List ℕ) × Leads next from path to

-- a node reads another, or is it, directly or by way of others
abbrev pub IsReached : List NodeData → ℕ → ℕ → Type 0
IsReached nodes from to = Reaches (followed_from follows.Every nodes) from to

-- likewise with no shuffle between: what one task computes of the first takes the second in
abbrev pub IsWithin : List NodeData → ℕ → ℕ → Type 0
IsWithin nodes from to = Reaches (followed_from follows.Narrow nodes) from to
