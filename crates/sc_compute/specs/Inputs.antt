-- Which shuffles a node takes in, and what is handed in and made for them.
use Rattle.std.specs.declared.alloc.Global.{Global}
use Rattle.std.specs.Prelude.{ℕ, ◌≡◌, ◌⊎◌, List, [], ◌∷◌, Option, Some, None, Vec, Contains, cond, nat_eq, slice_get}
use Rattle.std.specs.List.{flat_map}
use Rattle.sc_value.specs.Datum.{Datum}
use Rattle.sc_value.specs.Keys.{KeyData}
use Rattle.sc_lineage.specs.Dependencies.{Dependency, one_to_one, range_behind, grouped, shuffled, dependencies_by}
use Rattle.sc_lineage.specs.Meaning.{known_of}
use Rattle.sc_lineage.specs.NodeData.{NodeData}
use Rattle.sc_lineage.specs.ScriptData.{WorkData}
use Rattle.sc_compute.specs.Keeping.{same_place}
use Rattle.sc_compute.specs.Stages.{GoesThrough, HasMade, HasOutputs, bounds_told, handed_in, made_in, node_at}
use Rattle.sc_compute.specs.declared.stages.ShuffleInputs.{ShuffleInputs}

-- the parent whose partitions are read by a dependency as they are; what goes through a shuffle
-- isn't
abbrev pub direct_parent : Dependency → List ℕ
direct_parent (one_to_one parent) = parent ∷ []
direct_parent (range_behind parent others) = parent ∷ []
direct_parent (grouped parent n) = parent ∷ []
direct_parent (shuffled parent by) = []

-- the parents whose partitions a node that may be there reads as they are
abbrev pub direct_parents_of : WorkData → Option NodeData → List ℕ
direct_parents_of work None = []
direct_parents_of work (Some node) =
    flat_map direct_parent (dependencies_by (known_of work) node)

-- the parents whose partitions the node of a number reads as they are
abbrev pub direct_parents : WorkData → ℕ → List ℕ
direct_parents work k = direct_parents_of work (slice_get work.script.nodes k)

-- a path leads from a node to another: each node on it reads partitions of the next as they are
abbrev pub Leads : WorkData → ℕ → List ℕ → ℕ → Type 0
Leads work from [] to = from ≡ to
Leads work from (via ∷ path) to =
    Contains (direct_parents work from) via × Leads work via path to

-- a node takes another in, or is it: one task computes partitions of both
abbrev pub TakesIn : WorkData → ℕ → ℕ → Type 0
TakesIn work from to = (path : List ℕ) × Leads work from path to

-- the outputs were handed in for each shuffle of a node
abbrev pub HasSides : WorkData → ShuffleInputs → ℕ → Type 0
HasSides work inputs k =
    (side : ℕ) → GoesThrough work (node_at work k) side → HasOutputs inputs k side

-- the outputs were handed in for each shuffle of the nodes that a node takes in
abbrev pub HasInputs : WorkData → ShuffleInputs → ℕ → Type 0
HasInputs work inputs node = (k : ℕ) → TakesIn work node k → HasSides work inputs k

-- nothing was made yet
abbrev pub IsUnmade : ShuffleInputs → Type 0
IsUnmade inputs = (k : ℕ) → made_in inputs k ≡ None

-- outputs are handed in for a side of a node, and all else stays
pub record HandsIn (node side : ℕ) (outputs : Vec (List (List Datum)) Global)
    (before after : ShuffleInputs) : Type 0 where
  pub handed : (k s : ℕ) → handed_in after k s
      ≡ cond (same_place (node, side) (k, s)) (Some outputs) (handed_in before k s)
  pub counts : after.counts ≡ before.counts
  pub made : after.sides ≡ before.sides
  pub told : after.bounds ≡ before.bounds

-- the bounds of a node are told, and all else stays
pub record TellsBounds (node : ℕ) (bounds : List KeyData) (before after : ShuffleInputs) : Type 0
  where
    pub told : (k : ℕ)
        → bounds_told after k ≡ cond (nat_eq node k) (Some bounds) (bounds_told before k)
    pub counts : after.counts ≡ before.counts
    pub made : after.sides ≡ before.sides
    pub handed : after.handed ≡ before.handed

-- nothing changes that can be looked up
pub record IsSame (before after : ShuffleInputs) : Type 0 where
  pub counts : after.counts ≡ before.counts
  pub made : (k : ℕ) → made_in after k ≡ made_in before k
  pub handed : (k s : ℕ) → handed_in after k s ≡ handed_in before k s
  pub told : (k : ℕ) → bounds_told after k ≡ bounds_told before k

-- something may be made for a node, and for no other, and all else stays; what was made before is
-- the same
pub record Makes (node : ℕ) (before after : ShuffleInputs) : Type 0 where
  pub kept : (k : ℕ) → HasMade before k → made_in after k ≡ made_in before k
  pub only : (k : ℕ) → HasMade after k → HasMade before k ⊎ (node ≡ k)
  pub handed : after.handed ≡ before.handed
  pub told : after.bounds ≡ before.bounds

-- something may be made for nodes that a node takes in, and for no others, and all else stays; what
-- was made before is the same
pub record Grows (work : WorkData) (node : ℕ) (before after : ShuffleInputs) : Type 0 where
  pub kept : (k : ℕ) → HasMade before k → made_in after k ≡ made_in before k
  pub only : (k : ℕ) → HasMade after k → HasMade before k ⊎ TakesIn work node k
  pub handed : after.handed ≡ before.handed
  pub told : after.bounds ≡ before.bounds
