-- What an attempt takes from the cache of a store.
use Rattle.std.proofs.Common.{◌≡◌, ◌∙◌, ℕ, zero, suc, ◌<◌, Bool, true, false, ◌&&◌, ◌||◌, List, [], ◌∷◌, ◌++◌, Option, Some, None, All, length, true≢false, refl, ap, ap₂, sym, subst, arith}
use Rattle.std.proofs.lemmas.Bool.{and_parts}
use Rattle.std.proofs.lemmas.List.{map-append}
use Rattle.std.proofs.lemmas.List.Elements.{All-append, All-cons, All-nil}
use Rattle.std.specs.List.{list_any}
use Rattle.std.specs.Option.{IfSome, is_some}
use Rattle.sc_value.specs.Datum.{Datum}
use Rattle.sc_lineage.specs.Dependencies.{PlaceData}
use Rattle.sc_lineage.specs.NodeData.{NodeData, cache_node}
use Rattle.sc_lineage.specs.ScriptData.{IsSoundScript, WorkData}
use Rattle.sc_lineage.specs.Targets.{TargetData}
use Rattle.sc_lineage.specs.Views.{place_data_of}
use Rattle.sc_lineage.specs.declared.dependencies.Place.{Place}
use Rattle.sc_base.specs.Lists.{at_or}
use Rattle.sc_compute.specs.Asking.{AreOfCaches, AsksFor, AsksNext, AsksPast, IsTakenFor, place_number, place_taken}
use Rattle.sc_compute.specs.Caching.{IsOwnPart, is_cache}
use Rattle.sc_compute.specs.Needs.{places_in}
use Rattle.sc_compute.specs.Stages.{node_at}
use Rattle.sc_compute.specs.Tasks.{IsTargetOf}
use Rattle.sc_compute.specs.declared.asking.Asking.{Asking}
use Rattle.sc_compute.specs.declared.caching.CachedPart.{CachedPart}
use Rattle.sc_compute.proofs.AskingLemmas.{taken_known}
use Rattle.sc_compute.proofs.AsksLemmas.{among_all, asks_given, needed_known}
use Rattle.sc_store.specs.StoreData.{StoreData, cached_in}
use Rattle.sc_task.specs.Caches.{AreNearestFirst, IsCachedIn, TakesCached, cached_id, has_cache, has_cached}
use Rattle.sc_task.proofs.OrderLemmas.{IsBefore, all_before, last_in_order, still_before}

-- ---- what is taken

-- a store has partitions of cache nodes alone
pub caches_only : (work : WorkData) (store : StoreData) → AreOfCaches work (has_cached work store)
caches_only work store at had =
    (and_parts (is_cache (node_at work at.node)) (is_some (cached_in store (cached_id at))) had).0

both_true : (a b : Bool) → a ≡ true → b ≡ true → (a && b) ≡ true
both_true a b h k = ap₂ (λ x y. x && y) h k

right_false : (a b : Bool) → b ≡ false → (a && b) ≡ false
right_false true b h = h
right_false false b h = refl

-- whether it has one, by what was found there
pub is_had : (work : WorkData) (store : StoreData) (at : PlaceData) (rows : List Datum)
    → is_cache (node_at work at.node) ≡ true → cached_in store (cached_id at) ≡ Some rows
    → has_cached work store at ≡ true
is_had work store at rows cache found =
    both_true (is_cache (node_at work at.node)) (is_some (cached_in store (cached_id at))) cache
    (ap is_some found)

pub isnt_had : (work : WorkData) (store : StoreData) (at : PlaceData)
    → cached_in store (cached_id at) ≡ None → has_cached work store at ≡ false
isnt_had work store at none =
    right_false (is_cache (node_at work at.node)) (is_some (cached_in store (cached_id at)))
    (ap is_some none)

places_push : (known : List CachedPart) (part : CachedPart)
    → places_in (known ++ part ∷ []) ≡ places_in known ++ place_data_of part.at ∷ []
places_push known part = map-append (λ (p : CachedPart). place_data_of p.at) known (part ∷ [])

-- what holds of something that is there
pub some_holds : {A : Type 0} (P : A → Type 0) (o : Option A) (x : A) → o ≡ Some x → IfSome o P
    → P x
some_holds P o x is holds = subst (λ q. IfSome q P) is holds

-- one more partition with its own rows
pub own_more : (work other : WorkData) (known after : List CachedPart) (part : CachedPart)
    (o : Option CachedPart) → work ≡ other → All (IsOwnPart work) known
    → IfSome o (IsOwnPart other) → o ≡ Some part → after ≡ known ++ part ∷ []
    → All (IsOwnPart work) after
own_more work other known after part o same own found is more =
    let one : IsOwnPart work part =
    subst (λ w. IsOwnPart w part) (sym same) (some_holds (IsOwnPart other) o part is found) in
    subst (All (IsOwnPart work)) (sym more)
    (All-append (IsOwnPart work) known (part ∷ []) own
    (All-cons (IsOwnPart work) part [] one (All-nil (IsOwnPart work))))

-- What is taken for a target, one partition after another.
pub record TakesSoFar (work : WorkData) (from : PlaceData) (store : StoreData)
    (known : List CachedPart) (asking : Asking) : Type 0 where
  pub asks : AsksFor work (has_cached work store) from (places_in known) asking
  pub taken : All (IsTakenFor work (has_cached work store) from) (places_in known)
  pub rows : All (IsCachedIn store) known
  pub order : AreNearestFirst known
  -- what is still to be looked at is behind them
  pub past : All (IsBefore asking) known

module _ (work : WorkData) (from : PlaceData) (store : StoreData) where
  abbrev had : PlaceData → Bool
  had = has_cached work store

  pub takes_first : (asking : Asking) → AsksFor work had from [] asking
      → TakesSoFar work from store [] asking
  takes_first asking asks = record {
    asks = asks;
    taken = All-nil (IsTakenFor work had from);
    rows = All-nil (IsCachedIn store);
    order = tt;
    past = All-nil (IsBefore asking);
  }

  -- one that the store has is taken
  pub takes_more : (known after : List CachedPart) (part : CachedPart) (at : Place)
      (before asking : Asking) → TakesSoFar work from store known before
      → AsksNext work before asking (Some at) → is_cache (node_at work at.node) ≡ true
      → place_number at ≡ asking.below → asking.below < before.below
      → part.at ≡ at → Some part.rows ≡ cached_in store (cached_id (place_data_of at))
      → after ≡ known ++ part ∷ [] → TakesSoFar work from store after asking
  takes_more known after part at before asking far next cache last fewer there rows is =
      let one = place_data_of at in
      let found : had one ≡ true = is_had work store one part.rows cache (sym rows) in
      let past = next had from (places_in known) (caches_only work store) far.asks in
      let places : places_in known ++ one ∷ [] ≡ places_in after =
      ap (λ q. places_in known ++ place_data_of q ∷ []) (sym there)
      ∙ sym (places_push known part) ∙ ap places_in (sym is) in
      let P : PlaceData → Type 0 = IsTakenFor work had from in
      let in_store : IsCachedIn store part =
      ap (λ q. cached_in store (cached_id (place_data_of q))) there ∙ sym rows in
      record {
        asks = subst (λ ps. AsksFor work had from ps asking) places
            (asks_given work had from (places_in known) asking one found past);
        taken = subst (All P) places
            (All-append P (places_in known) (one ∷ []) far.taken
            (All-cons P one [] (record { there = found; needed = past.needed }) (All-nil P)));
        rows = subst (All (IsCachedIn store)) (sym is)
            (All-append (IsCachedIn store) known (part ∷ []) far.rows
            (All-cons (IsCachedIn store) part [] in_store (All-nil (IsCachedIn store))));
        order = subst AreNearestFirst (sym is)
            (last_in_order known part before asking number fewer far.order far.past);
        past = subst (All (IsBefore asking)) (sym is)
            (all_before known part before asking number fewer far.past);
      }
    where
      number : place_number part.at ≡ asking.below
      number = ap place_number there ∙ last

  -- behind one that it lacks more is asked for
  pub takes_on : (known : List CachedPart) (at : Place) (before asking after : Asking)
      → TakesSoFar work from store known before → AsksNext work before asking (Some at)
      → asking.below < before.below → after.below ≡ asking.below
      → None ≡ cached_in store (cached_id (place_data_of at))
      → (had (place_data_of at) ≡ false
      → AsksPast work had from (places_in known) asking (place_data_of at)
      → AsksFor work had from (places_in known) after)
      → TakesSoFar work from store known after
  takes_on known at before asking after far next fewer same none behind =
      let one = place_data_of at in
      record {
        asks = behind (isnt_had work store one (sym none))
            (next had from (places_in known) (caches_only work store) far.asks);
        taken = far.taken;
        rows = far.rows;
        order = far.order;
        past = still_before known before after (rw same fewer) far.past;
      }

  -- once nothing is asked for any more, all is taken
  pub takes_all : (target : TargetData) (known : List CachedPart) (before asking : Asking)
      (o : Option Place) → place_taken work target ≡ from
      → TakesSoFar work from store known before → AsksNext work before asking o
      → ((at : Place) → o ≡ Some at → ⊥) → TakesCached work target store known
  takes_all target known before asking (Some at) is far next none = absurd (none at refl)
  takes_all target known before asking None is far next none = record {
    each = λ at. (
      λ among. subst (λ q. IsTakenFor work had q at) (sym is)
          (among_all (IsTakenFor work had from) (places_in known) at far.taken among),
      λ taken. next had from (places_in known) (caches_only work store) far.asks at
          (subst (λ q. IsTakenFor work had q at) is taken),
    );
    rows = far.rows;
    order = far.order;
  }

neither : (a b : Bool) → (a || b) ≡ false → (a ≡ false) × (b ≡ false)
neither true b is = absurd (true≢false is)
neither false b is = (refl, is)

-- a work without a cache node has none at any place
no_cache : (nodes : List NodeData) (k : ℕ) → list_any is_cache nodes ≡ false → k < length nodes
    → is_cache (at_or nodes k (cache_node 0)) ≡ false
no_cache [] k none within = absurd (omega (arith, within))
no_cache (n ∷ nodes) zero none within = (neither (is_cache n) (list_any is_cache nodes) none).0
no_cache (n ∷ nodes) (suc k) none within =
    no_cache nodes k (neither (is_cache n) (list_any is_cache nodes) none).1
    (omega (arith, within))

-- so nothing is taken for it
pub takes_none : (work : WorkData) (target : TargetData) (store : StoreData)
    (known : List CachedPart) → known ≡ [] → IsSoundScript work.script → IsTargetOf work target
    → has_cache work ≡ false → TakesCached work target store known
takes_none work target store known is sound there none =
    subst (TakesCached work target store) (sym is)
    (record {
      each = λ at. (λ among. absurd (true≢false (sym among)), λ taken. absurd (never at taken));
      rows = All-nil (IsCachedIn store);
      order = tt;
    })
  where
    never : (at : PlaceData) → IsTakenFor work (has_cached work store) (place_taken work target) at
        → ⊥
    never at taken =
        let from = taken_known work sound target there in
        let known = needed_known work (has_cached work store) (place_taken work target) at sound
        from.0 from.1 taken.needed in
        true≢false (sym (caches_only work store at taken.there)
        ∙ no_cache work.script.nodes at.node none known)
