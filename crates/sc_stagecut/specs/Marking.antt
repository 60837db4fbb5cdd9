-- Nodes that are marked, and what a mark at one of them brings to those that it reads.
use Rattle.std.specs.Prelude.{ℕ, Bool, true, false, not, List, Option, Some, None, ◌≡◌, ◌↔◌, ◌⊎◌, ◌&&◌, All, Contains, if◌then◌else◌, length, slice_index_or, slice_set}
use Rattle.sc_lineage.specs.Dependencies.{Dependency, parent_of}
use Rattle.sc_ids.specs.declared.blocks.ShuffleId.{ShuffleId}
use Rattle.sc_lineage.specs.NodeData.{NodeData}
use Rattle.sc_stagecut.specs.Numbering.{has_number, is_shuffle}
use Rattle.sc_stagecut.specs.Reaching.{Reaches, is_shuffled}
use Rattle.sc_stagecut.specs.declared.carried.Numbered.{Numbered}
use Rattle.sc_stagecut.specs.declared.reads.Follow.{Follow}
use Rattle.sc_stagecut.specs.declared.reads.Follow.TheVariants as follows
use Rattle.sc_stagecut.specs.declared.reads.Read.{Read}

-- what a dependency reads
abbrev pub read_of : Dependency → Read
read_of d = record { parent = parent_of d; is_shuffled = is_shuffled d }

-- a read is followed
abbrev pub is_read_followed : Follow → Read → Bool
is_read_followed follows.Every r = true
is_read_followed follows.Narrow r = not r.is_shuffled

-- a node is marked
abbrev pub is_marked : List Bool → ℕ → Bool
is_marked marks k = slice_index_or marks k false

-- exactly the nodes that one leads to are marked
abbrev pub AreReached : (ℕ → List ℕ) → ℕ → List Bool → Type 0
AreReached next from marks = (k : ℕ) → (is_marked marks k ≡ true) ↔ Reaches next from k

-- the marks with that of what a side reads, where it is followed
abbrev pub marked_by : Follow → Option Read → List Bool → List Bool
marked_by follow None marks = marks
marked_by follow (Some r) marks =
    if is_read_followed follow r then slice_set marks r.parent true else marks

-- some nodes were marked, and no others
pub record AreMarked (nodes : List ℕ) (old new : List Bool) : Type 0 where
  pub same : length new ≡ length old
  pub kept : (k : ℕ) → is_marked old k ≡ true → is_marked new k ≡ true
  pub added : All (λ k. is_marked new k ≡ true) nodes
  pub only : (k : ℕ) → is_marked new k ≡ true → (is_marked old k ≡ true) ⊎ Contains nodes k

-- a side is a shuffle of a marked node, and has no number
abbrev pub is_fresh : List NodeData → List Bool → List Numbered → ShuffleId → Bool
is_fresh nodes marks stages s =
    is_marked marks s.node && (is_shuffle nodes s && not (has_number stages s))
