-- What an attempt does with the cache of its executor's store.
use Rattle.std.specs.Prelude.{ℕ, ◌≡◌, ◌<◌, ◌↔◌, ◌&&◌, Bool, List, [], ◌∷◌, Some, is_some, length, take, true}
use Rattle.std.specs.List.{All, list_any}
use Rattle.sc_value.specs.Datum.{Datum}
use Rattle.sc_lineage.specs.Dependencies.{PlaceData}
use Rattle.sc_lineage.specs.ScriptData.{WorkData}
use Rattle.sc_lineage.specs.Targets.{TargetData}
use Rattle.sc_lineage.specs.Views.{place_data_of}
use Rattle.sc_cache.specs.Caches.{CacheData, with_kept, with_used}
use Rattle.sc_cache.specs.declared.names.CachedId.{CachedId}
use Rattle.sc_compute.specs.Asking.{IsTakenFor, place_number, place_taken}
use Rattle.sc_compute.specs.Caching.{is_cache}
use Rattle.sc_compute.specs.Needs.{is_among, places_in}
use Rattle.sc_compute.specs.Stages.{node_at}
use Rattle.sc_compute.specs.declared.caching.CachedPart.{CachedPart}
use Rattle.sc_store.specs.StoreData.{StoreData, cached_in, with_cache}

-- a work has a cache node
abbrev pub has_cache : WorkData → Bool
has_cache work = list_any is_cache work.script.nodes

-- all of a store stays but the blocks that it has cached
pub record IsSameButCache (before after : StoreData) : Type 0 where
  pub rest : after ≡ with_cache before after.cache
  pub limit : after.cache.limit ≡ before.cache.limit

-- what a partition is called in a cache
abbrev pub cached_id : PlaceData → CachedId
cached_id at = record { node = at.node; partition = at.partition }

-- ---- what is taken

-- a store has a partition of a cache node
abbrev pub has_cached : WorkData → StoreData → PlaceData → Bool
has_cached work store at =
    is_cache (node_at work at.node) && is_some (cached_in store (cached_id at))

-- rows are those that a store has under the name of their partition
abbrev pub IsCachedIn : StoreData → CachedPart → Type 0
IsCachedIn store part = cached_in store (cached_id (place_data_of part.at)) ≡ Some part.rows

-- partitions stand with those of later nodes first, in one node with the last first, and each once
abbrev pub AreNearestFirst : List CachedPart → Type 0
AreNearestFirst [] = Unit {0}
AreNearestFirst (part ∷ parts) =
    All (λ behind. place_number behind.at < place_number part.at) parts × AreNearestFirst parts

-- What is taken from a store for a target: exactly the partitions of cache nodes that the store has
-- and the target needs, where no other that the store has stands between; each once, with the
-- store's rows, the nearest to the target first.
pub record TakesCached (work : WorkData) (target : TargetData) (store : StoreData)
    (known : List CachedPart) : Type 0 where
  pub each : (at : PlaceData) → (is_among (places_in known) at ≡ true)
      ↔ IsTakenFor work (has_cached work store) (place_taken work target) at
  pub rows : All (IsCachedIn store) known
  pub order : AreNearestFirst known

-- ---- what is kept

-- a cache once the blocks of partitions were used, one after another
abbrev pub with_each_used : CacheData (List Datum) → List CachedPart → CacheData (List Datum)
with_each_used c [] = c
with_each_used c (part ∷ parts) =
    with_each_used (with_used c (cached_id (place_data_of part.at))) parts

-- a cache once partitions were kept, one after another
abbrev pub with_each_kept : CacheData (List Datum) → List CachedPart → CacheData (List Datum)
with_each_kept c [] = c
with_each_kept c (part ∷ parts) =
    with_each_kept (with_kept c (cached_id (place_data_of part.at)) part.rows) parts

-- what was used becomes the most recently used, and then each that is fresh is kept, in order
abbrev pub KeepsEach : List CachedPart → List CachedPart → StoreData → StoreData → Type 0
KeepsEach used fresh before after =
    after ≡ with_cache before (with_each_kept (with_each_used before.cache used) fresh)

-- the same, of the first of those that are fresh alone, and not of all
abbrev pub KeepsSome : List CachedPart → List CachedPart → StoreData → StoreData → Type 0
KeepsSome used fresh before after =
    (n : ℕ) × (n < length fresh) × KeepsEach used (take n fresh) before after
