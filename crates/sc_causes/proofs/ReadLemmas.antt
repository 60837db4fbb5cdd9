-- What a cut follows is what the meaning reads.
use Rattle.std.proofs.Common.{◌≡◌, ℕ, ◌<◌, true, List, [], ◌∷◌, Option, Some, None, length, filter, map, refl, sym, subst, arith}
use Rattle.std.proofs.lemmas.Bool.{false≢true}
use Rattle.std.proofs.lemmas.Option.{slice_get_within}
use Rattle.std.specs.List.{Contains, slice_get}
use Rattle.sc_ids.specs.declared.blocks.ShuffleId.{ShuffleId}
use Rattle.sc_lineage.specs.Dependencies.{Dependency, one_to_one, range_behind, grouped, shuffled, dependencies_by, dependencies_of, parent_of}
use Rattle.sc_lineage.specs.Meaning.{known_of}
use Rattle.sc_lineage.specs.NodeData.{NodeData, shuffle_node, sort_by_key}
use Rattle.sc_lineage.specs.ScriptData.{WorkData, IsSoundScript}
use Rattle.sc_laws.specs.Spreads.{RaisesSomewhere, Reads, ReadsAlong, ShufflesSide}
use Rattle.sc_laws.proofs.SpreadLemmas.{raises_are_spread, raises_are_spread_along}
use Rattle.sc_stagecut.specs.Numbering.{is_shuffle, is_some_shuffle, mapped_node, parent_or}
use Rattle.sc_stagecut.specs.Reaching.{IsReached, Leads, dependencies_among, dependencies_at}
use Rattle.sc_stagecut.proofs.DependencyLemmas.{every, same_parents}
use Rattle.sc_stagecut.proofs.OrderLemmas.{Contains-first}

module _ (work : WorkData) where
  abbrev nodes : List NodeData
  nodes = work.script.nodes

  -- the nodes that a node leads to, where each dependency is followed
  abbrev next : ℕ → List ℕ
  next k = map parent_of (filter (λ (d : Dependency). true) (dependencies_at nodes k))

  -- it reads them
  reads : (k parent : ℕ) → Contains (next k) parent → Reads work k parent
  reads k parent c =
      let Q : List Dependency → Type 0 = λ ds. Contains (map parent_of ds) parent in
      at (slice_get nodes k) refl (subst Q (every (dependencies_at nodes k)) c)
    where
      at : (node : Option NodeData) → slice_get nodes k ≡ node
          → Contains (map parent_of (dependencies_among (known_of work) node)) parent
          → Reads work k parent
      at None is among = absurd (omega (arith, among.1))
      at (Some node) is among = record { node = node; is = is; depends = among }

  reads_along : (path : List ℕ) (from to : ℕ) → Leads next from path to
      → ReadsAlong work from path to
  reads_along [] from to leads = leads
  reads_along (via ∷ path) from to leads =
      (reads from via leads.0, reads_along path via to leads.1)

  -- a side that is a shuffle is one of its parent
  side_by : (s : ShuffleId) (node : NodeData) (d : Option Dependency)
      → slice_get nodes s.node ≡ Some node
      → slice_get (dependencies_by (known_of work) node) s.side ≡ d → is_some_shuffle d ≡ true
      → ShufflesSide work s.node s.side (parent_or d)
  side_by s node None is depends shuffle = absurd (false≢true shuffle)
  side_by s node (Some (one_to_one parent)) is depends shuffle = absurd (false≢true shuffle)
  side_by s node (Some (range_behind parent others)) is depends shuffle =
      absurd (false≢true shuffle)
  side_by s node (Some (grouped parent n)) is depends shuffle = absurd (false≢true shuffle)
  side_by s node (Some (shuffled parent by)) is depends shuffle =
      record { node = node; by = by; is = is; depends = depends }

  pub shuffles_side : (s : ShuffleId) → is_shuffle nodes s ≡ true
      → ShufflesSide work s.node s.side (mapped_node nodes s)
  shuffles_side s shuffle = at (slice_get nodes s.node) refl shuffle
    where
      at : (node : Option NodeData) → slice_get nodes s.node ≡ node
          → is_some_shuffle (slice_get (dependencies_among (known_of work) node) s.side) ≡ true
          → ShufflesSide work s.node s.side
          (parent_or (slice_get (dependencies_among (known_of work) node) s.side))
      at None is none = absurd (false≢true none)
      at (Some node) is some =
          side_by s node (slice_get (dependencies_by (known_of work) node) s.side) is refl some

  -- a node that reaches another is there, where the other is
  pub reaching_there : (from to : ℕ) → IsReached nodes from to → to < length nodes
      → from < length nodes
  reaching_there from to reach there = at reach.0 reach.1
    where
      at : (path : List ℕ) → Leads next from path to → from < length nodes
      at [] leads = omega (arith, leads, there)
      at (via ∷ path) leads =
          let reading = reads from via leads.0 in
          slice_get_within nodes from reading.node reading.is

  -- what reaches a node that raises raises too
  pub raises_reached : (sound : IsSoundScript work.script) (from to : ℕ)
      → IsReached nodes from to → RaisesSomewhere work to → RaisesSomewhere work from
  raises_reached sound from to reach raised =
      raises_are_spread_along work from to reach.0 sound (reads_along reach.0 from to reach.1)
      raised

  -- so does a sort of it
  pub sort_raises : (sound : IsSoundScript work.script) (sort parent n : ℕ)
      → slice_get nodes sort ≡ Some (shuffle_node sort_by_key parent n)
      → RaisesSomewhere work parent → RaisesSomewhere work sort
  sort_raises sound sort parent n is raised =
      let node = shuffle_node sort_by_key parent n in
      let P : List ℕ → Type 0 = λ ps. Contains ps parent in
      raises_are_spread work sort parent sound
      (record {
        node = node;
        is = is;
        depends =
            subst P (sym (same_parents (known_of work) (dependencies_of node)))
            (Contains-first parent []);
      })
      raised
