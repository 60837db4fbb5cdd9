-- What is found for each node from what was found for the nodes before it: one fold for all of it.
use Rattle.std.specs.Prelude.{ℕ, ◌≡◌, List, [], ◌∷◌, ◌++◌, length, take, Some, slice_get}
use Rattle.sc_base.specs.Lists.{at_or}
use Rattle.sc_lineage.specs.NodeData.{NodeData}

-- what is found for nodes, behind what was found for those before them
abbrev pub nodes_behind : {A : Type 0} → (List A → NodeData → A) → List A → List NodeData → List A
nodes_behind step before [] = before
nodes_behind step before (node ∷ nodes) = nodes_behind step (before ++ step before node ∷ []) nodes

-- what is found for all nodes
abbrev pub by_nodes : {A : Type 0} → (List A → NodeData → A) → List NodeData → List A
by_nodes step nodes = nodes_behind step [] nodes

-- The laws of the fold: one item for each node; item k is the step of the items before it; nodes
-- behind others change nothing of theirs.
pub record IsFold {A : Type 0} (step : List A → NodeData → A) : Type 0 where
  pub lengths : (nodes : List NodeData) → length (by_nodes step nodes) ≡ length nodes
  pub steps : (nodes : List NodeData) (k : ℕ) (node : NodeData) (other : A)
      → slice_get nodes k ≡ Some node
      → at_or (by_nodes step nodes) k other ≡ step (take k (by_nodes step nodes)) node
  pub stable : (nodes more : List NodeData)
      → take (length nodes) (by_nodes step (nodes ++ more)) ≡ by_nodes step nodes
