-- The laws of the fold over nodes, for any step.
use Rattle.std.proofs.Common.{◌≡◌, ◌∙◌, ℕ, zero, suc, ◌+◌, ◌≤◌, List, [], ◌∷◌, ◌++◌, Some, length, map, take, refl, ap, sym, arith}
use Rattle.std.proofs.lemmas.List.{length-append, map-append, take_all, take-append-le}
use Rattle.std.specs.List.{slice_get}
use Rattle.sc_base.specs.Lists.{at_or}
use Rattle.sc_lineage.specs.NodeData.{NodeData}
use Rattle.sc_lineage.specs.ByNodes.{nodes_behind, by_nodes, IsFold}
use Rattle.sc_lineage.proofs.PlaceLemmas.{at_or-take, at_or-behind}

module _ {A : Type 0} (step : List A → NodeData → A) where
  nodes_behind-length : (before : List A) (nodes : List NodeData)
      → length (nodes_behind step before nodes) ≡ length before + length nodes
  nodes_behind-length before [] = omega arith
  nodes_behind-length before (node ∷ nodes) =
      let one = step before node in
      omega (arith, nodes_behind-length (before ++ one ∷ []) nodes, length-append before (one ∷ []))

  -- what was found already stays
  nodes_behind-kept : (before : List A) (nodes : List NodeData) (n : ℕ) → n ≤ length before
      → take n (nodes_behind step before nodes) ≡ take n before
  nodes_behind-kept before [] n within = refl
  nodes_behind-kept before (node ∷ nodes) n within =
      let one = step before node in
      nodes_behind-kept (before ++ one ∷ []) nodes n
      (omega (arith, length-append before (one ∷ [])))
      ∙ take-append-le n before (one ∷ []) within

  -- what is found for a node, `i` nodes behind those before
  nodes_behind-at : (before : List A) (nodes : List NodeData) (k i : ℕ) (node : NodeData)
      (other : A) → k ≡ length before + i → slice_get nodes i ≡ Some node
      → at_or (nodes_behind step before nodes) k other
      ≡ step (take k (nodes_behind step before nodes)) node
  nodes_behind-at before [] k i node other at is = cc
  nodes_behind-at before (n ∷ nodes) k zero node other at is =
      let same : n ≡ node = cc in
      let longer = before ++ step before n ∷ [] in
      let all = nodes_behind step longer nodes in
      let more = length-append before (step before n ∷ []) in
      sym (at_or-take all (suc k) k other (omega arith))
      ∙ ap (λ xs. at_or xs k other) (nodes_behind-kept longer nodes (suc k) (omega (arith, more)))
      ∙ at_or-take longer (suc k) k other (omega arith)
      ∙ at_or-behind before [] (step before n) k other (omega arith)
      ∙ ap (λ xs. step xs n)
      (sym (nodes_behind-kept before (n ∷ nodes) k (omega arith) ∙ take_all k before (omega arith)))
      ∙ ap (step (take k all)) same
  nodes_behind-at before (n ∷ nodes) k (suc i) node other at is =
      nodes_behind-at (before ++ step before n ∷ []) nodes k i node other
      (omega (arith, length-append before (step before n ∷ []))) is

  nodes_behind-append : (before : List A) (nodes more : List NodeData)
      → nodes_behind step before (nodes ++ more)
      ≡ nodes_behind step (nodes_behind step before nodes) more
  nodes_behind-append before [] more = refl
  nodes_behind-append before (node ∷ nodes) more =
      nodes_behind-append (before ++ step before node ∷ []) nodes more

  -- the fold is one
  pub fold_laws : IsFold step
  fold_laws = record {
    lengths = λ nodes. omega (arith, nodes_behind-length [] nodes);
    steps = λ nodes k node other is. nodes_behind-at [] nodes k k node other (omega arith) is;
    stable = λ nodes more.
        let whole = nodes_behind-length [] nodes in
        ap (take (length nodes)) (nodes_behind-append [] nodes more)
        ∙ nodes_behind-kept (by_nodes step nodes) more (length nodes) (omega arith)
        ∙ take_all (length nodes) (by_nodes step nodes) (omega arith);
  }

  -- one node more: its item stands behind the others
  pub by_nodes-push : (nodes : List NodeData) (node : NodeData)
      → by_nodes step (nodes ++ node ∷ [])
      ≡ by_nodes step nodes ++ step (by_nodes step nodes) node ∷ []
  by_nodes-push nodes node = nodes_behind-append [] nodes (node ∷ [])

-- A function of what one step finds is what another finds: then also of all that is found.
module _ {A B : Type 0} (f : A → B) (step : List A → NodeData → A) (next : List B → NodeData → B)
    (same : (before : List A) (node : NodeData)
    → f (step before node) ≡ next (map f before) node) where
  nodes_behind-map : (before : List A) (nodes : List NodeData)
      → map f (nodes_behind step before nodes) ≡ nodes_behind next (map f before) nodes
  nodes_behind-map before [] = refl
  nodes_behind-map before (node ∷ nodes) =
      nodes_behind-map (before ++ step before node ∷ []) nodes
      ∙ ap (λ found. nodes_behind next found nodes)
      (map-append f before (step before node ∷ [])
      ∙ ap (λ x. map f before ++ x ∷ []) (same before node))

  pub by_nodes-map : (nodes : List NodeData) → map f (by_nodes step nodes) ≡ by_nodes next nodes
  by_nodes-map nodes = nodes_behind-map [] nodes
