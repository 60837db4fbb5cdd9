-- Operations row by row that lead to a partition from another.
use Rattle.std.proofs.Common.{◌≡◌, ◌∙◌, ◌⊎◌, inl, inr, ℕ, ◌<◌, Bool, true, false, List, [], ◌∷◌, ◌++◌, All, Contains, length, map, flat_map, ap, sym, subst, arith}
use Rattle.std.proofs.lemmas.List.Elements.{All-cons, All-contains_itself, All-head, All-nil}
use Rattle.std.proofs.lemmas.List.Sums.{fold-append}
use Rattle.sc_expr.specs.ExprData.{ExprData}
use Rattle.sc_expr.specs.Views.{expr_data_of}
use Rattle.sc_lineage.specs.Dependencies.{IsNarrow, PlaceData, dependencies_by, place, reads_of}
use Rattle.sc_lineage.specs.Meaning.{known_of, local_stream}
use Rattle.sc_lineage.specs.Narrow.{each_stream, narrow_stream}
use Rattle.sc_lineage.specs.NodeData.{NodeData, cache_node, each_node}
use Rattle.sc_lineage.specs.ScriptData.{IsSoundScript, WorkData}
use Rattle.sc_lineage.specs.declared.nodes.Elementwise.{Elementwise}
use Rattle.sc_lineage.specs.declared.streams.Stream.{Stream}
use Rattle.sc_lineage.proofs.MeaningLemmas.{partition_is_narrow}
use Rattle.sc_lineage.proofs.PlaceLemmas.{slice_get-at_or}
use Rattle.sc_ops.specs.Chains.{chain_stream}
use Rattle.sc_ops.specs.declared.chains.Step.{Step}
use Rattle.sc_compute.specs.Asking.{IsThere}
use Rattle.sc_compute.specs.Caching.{is_cache}
use Rattle.sc_compute.specs.Chains.{PassesDown}
use Rattle.sc_compute.specs.Needs.{HasFresh, IsFresh, Notes, NotesReads, is_among, places_known, places_noted}
use Rattle.sc_compute.specs.Reading.{direct_reads, read_directly}
use Rattle.sc_compute.specs.Stages.{AreRight, HasMade, local_count, node_at}
use Rattle.sc_compute.specs.declared.caching.Caching.{Caching}
use Rattle.sc_compute.specs.declared.stages.ShuffleInputs.{ShuffleInputs}
use Rattle.sc_compute.proofs.DirectLemmas.{before_direct, within_direct}
use Rattle.sc_compute.proofs.MadeLemmas.{made_direct}
use Rattle.sc_compute.proofs.NeedsLemmas.{all_fresh, fresh_behind, never}

-- a partition of a node of an operation row by row is there
pub record IsEach (work : WorkData) (k p : ℕ) (kind : Elementwise) (parent : ℕ) (e : ExprData) :
    Type 0 where
  pub sound : IsSoundScript work.script
  pub known : k < length work.script.nodes
  pub within : p < local_count work k
  pub is : node_at work k ≡ each_node kind parent e

-- Such a partition.
module _ {work : WorkData} {k p : ℕ} {kind : Elementwise} {parent : ℕ} {e : ExprData}
    (at : IsEach work k p kind parent e) where
  abbrev stream : PlaceData → Stream
  stream q = local_stream work q.node q.partition

  -- it reads one of its parent alone
  pub each_reads : direct_reads work k p ≡ place parent p ∷ []
  each_reads =
      let reads : NodeData → List PlaceData = λ n. flat_map (read_directly (local_count work) p)
      (dependencies_by (known_of work) n) in
      ap reads at.is

  first_read : (P : PlaceData → Type 0) → All P (direct_reads work k p) → P (place parent p)
  first_read P all = All-head P (place parent p) [] (subst (All P) each_reads all)

  pub each_before : parent < k
  each_before =
      first_read (λ q. q.node < k) (before_direct work at.sound k p at.known at.within)

  -- which is there
  pub each_there : (stages : ShuffleInputs) → AreRight work stages → HasMade stages k
      → IsThere work stages parent p
  each_there stages right made = record {
    known = let before = each_before in omega (arith, before, at.known);
    within = first_read (λ q. q.partition < local_count work q.node)
        (within_direct work at.sound k p at.known at.within);
    made = first_read (λ q. HasMade stages q.node)
        (made_direct work at.sound k p at.known at.within stages right made);
  }

  -- it is of no cache node
  pub each_is_not_cache : is_cache (node_at work k) ≡ false
  each_is_not_cache = ap is_cache at.is

  -- its stream is what the operation gives of that
  each_gives : stream (place k p) ≡ each_stream kind e (stream (place parent p))
  each_gives =
      let found = slice_get-at_or work.script.nodes k (cache_node 0) at.known in
      let narrow : IsNarrow (node_at work k) = subst IsNarrow (sym at.is) tt in
      let gives : NodeData → Stream = λ n. narrow_stream work.inputs n p
      (map stream (reads_of (local_count work) n p)) in
      partition_is_narrow (known_of work) work k (node_at work k) at.sound found p narrow at.within
      ∙ ap gives at.is

  -- and so, where the operation stands behind others
  pub chain-more : (steps after : List Step) (step : Step) (from : Stream)
      → after ≡ steps ++ step ∷ [] → step.kind ≡ kind → expr_data_of step.expr.now ≡ e
      → stream (place parent p) ≡ chain_stream steps from
      → stream (place k p) ≡ chain_stream after from
  chain-more steps after step from added same_kind same_expr so_far =
      each_gives
      ∙ ap (each_stream kind e) so_far
      ∙ sym (ap (λ ss. chain_stream ss from) added
      ∙ fold-append (λ t s. each_stream s.kind (expr_data_of s.expr.now) t) from steps (step ∷ [])
      ∙ ap (λ o. each_stream o (expr_data_of step.expr.now) (chain_stream steps from)) same_kind
      ∙ ap (λ x. each_stream kind x (chain_stream steps from)) same_expr)

-- What is noted behind a path of such partitions, where some are known.
module _ (work : WorkData) (had : PlaceData → Bool) (known : List PlaceData)
    (just : (q : PlaceData) → had q ≡ is_among known q) where
  fresh_down : (noted : List PlaceData) (at : PlaceData) (path : List PlaceData)
      (from : PlaceData) → PassesDown work had at path from → HasFresh work known noted from
      → HasFresh work known noted at
  fresh_down noted at [] from same fresh = subst (HasFresh work known noted) (sym same) fresh
  fresh_down noted at (via ∷ path) from passes fresh =
      all_fresh work known noted noted at
      (subst (All (HasFresh work known noted)) (sym passes.2)
      (All-cons (HasFresh work known noted) via [] (fresh_down noted via path from passes.3 fresh)
      (All-nil (HasFresh work known noted))))
      (λ p is. is)
      (λ may. never (is_cache (node_at work at.node)) may.cache passes.1)

  fresh_up : (at : PlaceData) (path : List PlaceData) (from p : PlaceData)
      → PassesDown work had at path from → IsFresh work (is_among known) from p
      → IsFresh work (is_among known) at p
  fresh_up at [] from p same fresh =
      subst (λ q. IsFresh work (is_among known) q p) (sym same) fresh
  fresh_up at (via ∷ path) from p passes fresh =
      fresh_behind work (is_among known) at via p (sym (just at) ∙ passes.0)
      (subst (λ ps. Contains ps via) (sym passes.2)
      (All-head (Contains (via ∷ [])) via [] (All-contains_itself (via ∷ []))))
      (fresh_up via path from p passes.3 fresh)

  -- what is noted while the partition is computed that a path leads down to
  pub notes_down : (at from : PlaceData) (path : List PlaceData) (before after : Caching)
      → places_known before ≡ known → PassesDown work had at path from → from.node < at.node
      → Notes work from before after
      → NotesReads work at before after (direct_reads work at.node at.partition)
  notes_down at from [] before after same passes lower notes =
      absurd (omega (arith, lower, ap (λ (q : PlaceData). q.node) passes))
  notes_down at from (via ∷ path) before after same passes lower notes =
      let noted = places_noted after in
      let fresh : HasFresh work known noted from =
      subst (λ ks. HasFresh work ks noted from) same notes.all in
      let reads : All (HasFresh work known noted) (direct_reads work at.node at.partition) =
      subst (All (HasFresh work known noted)) (sym passes.2)
      (All-cons (HasFresh work known noted) via [] (fresh_down noted via path from passes.3 fresh)
      (All-nil (HasFresh work known noted))) in
      record {
        known = notes.known;
        kept = notes.kept;
        all = subst (λ ks. All (HasFresh work ks noted) (direct_reads work at.node at.partition))
            (sym same) reads;
        only = λ p is. by p (notes.only p is);
      }
    where
      by : (p : PlaceData)
          → (is_among (places_noted before) p ≡ true)
          ⊎ IsFresh work (is_among (places_known before)) from p
          → (is_among (places_noted before) p ≡ true)
          ⊎ IsFresh work (is_among (places_known before)) at p
      by p (inl noted) = inl noted
      by p (inr fresh) =
          inr (subst (λ ks. IsFresh work (is_among ks) at p) (sym same)
          (fresh_up at (via ∷ path) from p passes
          (subst (λ ks. IsFresh work (is_among ks) from p) same fresh)))
