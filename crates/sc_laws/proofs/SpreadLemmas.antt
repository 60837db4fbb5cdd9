-- A raise spreads: since a node that raises nowhere reads nothing that raises.
use Rattle.std.proofs.Common.{◌≡◌, ◌∙◌, ℕ, zero, suc, ◌<◌, Bool, true, false, if◌then◌else◌, List, [], ◌∷◌, Some, length, map, refl, ap, sym, subst, arith, true≢false}
use Rattle.std.proofs.lemmas.List.Elements.{All-contains, All-from_recursion}
use Rattle.std.proofs.lemmas.Option.{slice_get_within}
use Rattle.std.specs.List.{list_any, slice_get, Contains, AllByRecursion}
use Rattle.sc_base.specs.Lists.{at_or}
use Rattle.sc_lineage.specs.declared.streams.Stream.{Stream}
use Rattle.sc_lineage.specs.Dependencies.{Dependency, one_to_one, range_behind, grouped, shuffled, dependencies_by, dependencies_of, parent_of, parents_of, unless_parted}
use Rattle.sc_lineage.specs.Keyed.{Side}
use Rattle.sc_lineage.specs.Meaning.{bounds_of_shuffle, known_of, local_stream, local_streams, part_count_by}
use Rattle.sc_lineage.specs.NodeData.{NodeData, ShufflingData, text_node, parallelize_node, each_node, union_node, coalesce_node, cache_node, shuffle_node, meet_node}
use Rattle.sc_lineage.specs.Partitioners.{PartitionerData, no_partitioner, is_parted_by, partitioner_of_shuffle}
use Rattle.sc_lineage.specs.ScriptData.{WorkData, IsSoundScript}
use Rattle.sc_lineage.specs.Shuffles.{dealing_of, map_side, side_of_stream, stream_of_side}
use Rattle.sc_lineage.specs.Streams.{raises}
use Rattle.sc_lineage.specs.Targets.{side_of_node}
use Rattle.sc_lineage.proofs.CountLemmas.{count_is_some}
use Rattle.sc_lineage.proofs.PlaceLemmas.{at_or-found}
use Rattle.sc_lineage.proofs.ShuffleLemmas.{hash_count, shuffle_is, streams_for}
use Rattle.sc_laws.specs.Spreads.{OwnRaisesSpread, RaisesSomewhere, RaisesSpread, RaisesSpreadAlong, Reads, ReadsAlong}
use Rattle.sc_laws.proofs.QuietLemmas.{parents_quiet}
use Rattle.sc_laws.proofs.SideLemmas.{AreRead, read_at, shuffled_read, whole_side}
use Rattle.sc_laws.proofs.StreamLemmas.{AreSilent, silent_at}

-- a dependency that needs no shuffle is on the same parent
same_parent : (known : List PartitionerData) (d : Dependency)
    → parent_of (unless_parted known d) ≡ parent_of d
same_parent known (one_to_one parent) = refl
same_parent known (range_behind parent others) = refl
same_parent known (grouped parent n) = refl
same_parent known (shuffled parent by) =
    decided (is_parted_by by (at_or known parent no_partitioner))
  where
    decided : (b : Bool)
        → parent_of (if b then one_to_one parent else shuffled parent by) ≡ parent
    decided true = refl
    decided false = refl

same_parents : (known : List PartitionerData) (ds : List Dependency)
    → map parent_of (map (unless_parted known) ds) ≡ map parent_of ds
same_parents known [] = refl
same_parents known (d ∷ ds) =
    ap (λ p. p ∷ map parent_of (map (unless_parted known) ds)) (same_parent known d)
    ∙ ap (λ ps. parent_of d ∷ ps) (same_parents known ds)

-- a node raises somewhere, where it can't be that it raises nowhere
unless_silent : (work : WorkData) (k : ℕ)
    → (AreSilent (local_streams work k) → RaisesSomewhere work k) → RaisesSomewhere work k
unless_silent work k quiet = decided (list_any raises (local_streams work k)) refl
  where
    decided : (b : Bool) → list_any raises (local_streams work k) ≡ b → RaisesSomewhere work k
    decided true is = is
    decided false is = quiet is

-- what a side of a node has from a partition
abbrev own_side : WorkData → NodeData → ℕ → ℕ → Stream
own_side work node side m =
    stream_of_side (side_of_node node (local_stream work (at_or (parents_of node) side 0) m))

module _ (work : WorkData) (sound : IsSoundScript work.script) where
  -- the parents of a node that raises nowhere
  quiet_parents : (k : ℕ) (node : NodeData) → slice_get work.script.nodes k ≡ Some node
      → AreSilent (local_streams work k)
      → AllByRecursion (λ q. AreSilent (local_streams work q)) (parents_of node)
  quiet_parents k node is silent =
      parents_quiet (known_of work) work sound
      (λ q n there lie. hash_count (known_of work) work sound q n there lie) k silent node is

  pub spreads : (k parent : ℕ) → Reads work k parent → RaisesSomewhere work parent
      → RaisesSomewhere work k
  spreads k parent reads raised =
      unless_silent work k
      (λ silent.
      let P : ℕ → Type 0 = λ q. AreSilent (local_streams work q) in
      let among : Contains (parents_of reads.node) parent =
      subst (λ (ps : List ℕ). Contains ps parent)
      (same_parents (known_of work) (dependencies_of reads.node)) reads.depends in
      let quiet : P parent = All-contains P (parents_of reads.node) parent
      (All-from_recursion P (parents_of reads.node)
      (quiet_parents k reads.node reads.is silent)) among in
      absurd (true≢false (sym raised ∙ quiet)))

  -- along any paths on which each node reads the next
  pub spreads_along : (Leads : ℕ → List ℕ → ℕ → Type 0)
      → ((from to : ℕ) → Leads from [] to → from ≡ to)
      → ((from via to : ℕ) (path : List ℕ) → Leads from (via ∷ path) to
      → Reads work from via × Leads via path to)
      → (from to : ℕ) (path : List ℕ) → Leads from path to → RaisesSomewhere work to
      → RaisesSomewhere work from
  spreads_along Leads here first from to [] leads raised =
      subst (RaisesSomewhere work) (sym (here from to leads)) raised
  spreads_along Leads here first from to (via ∷ path) leads raised =
      let both = first from via to path leads in
      spreads from via both.0 (spreads_along Leads here first via to path both.1 raised)

  module _ (k : ℕ) (silent : AreSilent (local_streams work k)) where
    -- a side that is passed on doesn't raise where the stream doesn't
    passed_silent : (parent m : ℕ) → AreSilent (local_streams work parent)
        → raises (stream_of_side (side_of_stream (local_stream work parent m))) ≡ false
    passed_silent parent m quiet =
        ap (λ (side : Side). raises (stream_of_side side))
        (whole_side (local_stream work parent m) (silent_at (local_streams work parent) m quiet))

    -- the map side of a shuffle that isn't skipped doesn't raise where the node doesn't
    mapped_silent : (kind : ShufflingData) (parent n m : ℕ)
        → slice_get work.script.nodes k ≡ Some (shuffle_node kind parent n)
        → is_parted_by (partitioner_of_shuffle kind n)
        (at_or (known_of work) parent no_partitioner) ≡ false
        → m < length (local_streams work parent)
        → raises (stream_of_side (map_side kind (local_stream work parent m))) ≡ false
    mapped_silent kind parent n m is through within =
        let known = known_of work in
        let node = shuffle_node kind parent n in
        let wanted = partitioner_of_shuffle kind n in
        let streams = local_streams work parent in
        let dealing = dealing_of kind n (bounds_of_shuffle kind streams n) in
        let at : k < length work.script.nodes = slice_get_within work.script.nodes k node is in
        let some : 0 < part_count_by known work k =
        (let c = count_is_some known work sound k at in omega (arith, c)) in
        let all : streams_for known work wanted parent 0 ≡ streams =
        ap (λ b. if b then local_stream work parent 0 ∷ [] else streams) through in
        let read : AreRead (map (map_side kind) streams) =
        subst (λ (ss : List Stream). AreRead (map (map_side kind) ss)) all
        (shuffled_read kind dealing 0 (streams_for known work wanted parent 0)
        (ap raises (sym (shuffle_is known work k 0 sound some kind parent n is))
        ∙ silent_at (local_streams work k) 0 silent)) in
        ap (λ (side : Side). raises (stream_of_side side))
        (read_at kind streams read.0 m read.1 within)

    -- a dependency by which a side is shuffled
    decided_through : (b : Bool) (parent other : ℕ) (wanted by : PartitionerData)
        → (if b then one_to_one other else shuffled other wanted) ≡ shuffled parent by
        → (b ≡ false) × (other ≡ parent)
    decided_through true parent other wanted by is = cc
    decided_through false parent other wanted by is =
        (refl, (let same : other ≡ parent = cc in same))

    side_silent : (node : NodeData) (side parent m : ℕ) (by : PartitionerData)
        → slice_get work.script.nodes k ≡ Some node
        → slice_get (dependencies_by (known_of work) node) side ≡ Some (shuffled parent by)
        → m < length (local_streams work parent) → raises (own_side work node side m) ≡ false
    side_silent (text_node name n) side parent m by is depends within = cc
    side_silent (parallelize_node rows n) side parent m by is depends within = cc
    side_silent (each_node kind q e) zero parent m by is depends within = cc
    side_silent (each_node kind q e) (suc side) parent m by is depends within = cc
    side_silent (union_node left right) zero parent m by is depends within = cc
    side_silent (union_node left right) (suc zero) parent m by is depends within = cc
    side_silent (union_node left right) (suc (suc side)) parent m by is depends within = cc
    side_silent (coalesce_node q n) zero parent m by is depends within = cc
    side_silent (coalesce_node q n) (suc side) parent m by is depends within = cc
    side_silent (cache_node q) zero parent m by is depends within = cc
    side_silent (cache_node q) (suc side) parent m by is depends within = cc
    side_silent (shuffle_node kind q n) zero parent m by is depends within =
        let wanted = partitioner_of_shuffle kind n in
        let parted = is_parted_by wanted (at_or (known_of work) q no_partitioner) in
        let same : (if parted then one_to_one q else shuffled q wanted) ≡ shuffled parent by = cc in
        let both = decided_through parted parent q wanted by same in
        mapped_silent kind q n m is both.0
        (subst (λ i. m < length (local_streams work i)) (sym both.1) within)
    side_silent (shuffle_node kind q n) (suc side) parent m by is depends within = cc
    side_silent (meet_node kind left right n) zero parent m by is depends within =
        passed_silent left m (quiet_parents k (meet_node kind left right n) is silent).0
    side_silent (meet_node kind left right n) (suc zero) parent m by is depends within =
        passed_silent right m (quiet_parents k (meet_node kind left right n) is silent).1.0
    side_silent (meet_node kind left right n) (suc (suc side)) parent m by is depends within = cc

pub raises_are_spread : RaisesSpread
raises_are_spread work reader parent sound reads raised =
    spreads work sound reader parent reads raised

pub raises_are_spread_along : RaisesSpreadAlong
raises_are_spread_along work from to path sound along raised =
    spreads_along work sound (ReadsAlong work) (λ i j here. here) (λ i via j rest leads. leads)
    from to path along raised

pub own_raises_are_spread : OwnRaisesSpread
own_raises_are_spread work k side parent m sound shuffles within raised =
    unless_silent work k
    (λ silent.
    let node = shuffles.node in
    let found = at_or-found work.script.nodes k node (cache_node 0) shuffles.is in
    let quiet : raises (own_side work node side m) ≡ false =
    side_silent work sound k silent node side parent m shuffles.by shuffles.is shuffles.depends
    within in
    absurd (true≢false
    (sym raised ∙ ap (λ (one : NodeData). raises (own_side work one side m)) found ∙ quiet)))
