-- Shuffles, and the numbers of their map stages.
use Rattle.std.specs.Prelude.{ℕ, suc, ◌==◌, ◌&&◌, ◌≡◌, ◌↔◌, Bool, true, false, List, [], ◌∷◌, Option, Some, None, filter, slice_get}
use Rattle.std.specs.List.{flat_map, list_any}
use Rattle.sc_base.specs.Lists.{numbers_below}
use Rattle.sc_ids.specs.declared.blocks.ShuffleId.{ShuffleId}
use Rattle.sc_lineage.specs.Dependencies.{Dependency, parent_of}
use Rattle.sc_lineage.specs.NodeData.{NodeData}
use Rattle.sc_stagecut.specs.Reaching.{dependencies_at, is_shuffled}
use Rattle.sc_stagecut.specs.declared.carried.Numbered.{Numbered}

-- one side of a node
abbrev pub side_of : ℕ → ℕ → ShuffleId
side_of node side = record { node = node; side = side }

-- both sides of each node below a bound, in order
abbrev pub sides_below : ℕ → List ShuffleId
sides_below bound = flat_map (λ k. side_of k 0 ∷ side_of k 1 ∷ []) (numbers_below bound)

-- the dependency of a side, where there is one
abbrev pub dependency_of : List NodeData → ShuffleId → Option Dependency
dependency_of nodes s = slice_get (dependencies_at nodes s.node) s.side

-- a dependency that may be there is a shuffle
abbrev pub is_some_shuffle : Option Dependency → Bool
is_some_shuffle None = false
is_some_shuffle (Some d) = is_shuffled d

-- a side of a node is a shuffle
abbrev pub is_shuffle : List NodeData → ShuffleId → Bool
is_shuffle nodes s = is_some_shuffle (dependency_of nodes s)

-- the parent of a dependency, and 0 where there is none
abbrev pub parent_or : Option Dependency → ℕ
parent_or None = 0
parent_or (Some d) = parent_of d

-- the node whose partitions the map tasks of a shuffle take
abbrev pub mapped_node : List NodeData → ShuffleId → ℕ
mapped_node nodes s = parent_or (dependency_of nodes s)

-- a list has exactly those items of another for which something holds, in their order
abbrev pub AreThose : {A : Type 0} → (A → Type 0) → List A → List A → Type 0
AreThose {A} P all those =
    (test : A → Bool) × ((x : A) → (test x ≡ true) ↔ P x) × (those ≡ filter test all)

-- a shuffle with its number
abbrev pub numbered : ShuffleId → ℕ → Numbered
numbered s stage = record { shuffle = s; stage = stage }

-- shuffles with numbers from `first` on
abbrev pub numbered_from : ℕ → List ShuffleId → List Numbered
numbered_from first [] = []
numbered_from first (s ∷ shuffles) = numbered s first ∷ numbered_from (suc first) shuffles

-- a number is that of a shuffle
abbrev pub is_of : ShuffleId → Numbered → Bool
is_of s n = (n.shuffle.node == s.node) && (n.shuffle.side == s.side)

-- a shuffle has a number
abbrev pub has_number : List Numbered → ShuffleId → Bool
has_number stages s = list_any (is_of s) stages

-- numbered shuffles of nodes below a bound, in the order of (node, side)
abbrev pub in_side_order : ℕ → List Numbered → List Numbered
in_side_order bound numbers = flat_map (λ s. filter (is_of s) numbers) (sides_below bound)
