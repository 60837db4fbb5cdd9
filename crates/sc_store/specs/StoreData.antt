-- What a store holds.
use Rattle.std.specs.Prelude.{ℕ, List, Option, IfSome, refl}
use Rattle.std.specs.Coded.{Coded, code_by, coded×, coded_list, coded_ℕ}
use Rattle.std.specs.Map.{lookup}
use Rattle.sc_value.specs.Datum.{Datum}
use Rattle.sc_value.specs.DatumCode.{datum_code}
use Rattle.sc_ids.specs.declared.blocks.BlockId.{BlockId}
use Rattle.sc_lineage.specs.ScriptData.{WorkData}
use Rattle.sc_cache.specs.Caches.{CacheData, block_of, cache_data}
use Rattle.sc_cache.specs.declared.names.CachedId.{CachedId}
use Rattle.sc_store.specs.BlockData.{id_code, output_code, same_block}
use Rattle.sc_store.specs.OwnBlocks.{IsOwnBlock, IsOwnPartition}

-- a store
pub record StoreData : Type 0 where
  -- its executor
  pub exec : ℕ
  -- the number of the order by which it was wiped last, and 0 before the first
  pub generation : ℕ
  -- the blocks that were put since, in no order that matters
  pub blocks : List (BlockId × List (List Datum))
  -- the rows of the cached blocks
  pub cache : CacheData (List Datum)

abbrev pub store_data :
    ℕ → ℕ → List (BlockId × List (List Datum)) → CacheData (List Datum) → StoreData
store_data exec generation blocks cache =
    record { exec = exec; generation = generation; blocks = blocks; cache = cache }

-- what was put under a name
abbrev pub output_in : StoreData → BlockId → Option (List (List Datum))
output_in s id = lookup (same_block id) s.blocks

-- what is cached under a name
abbrev pub cached_in : StoreData → CachedId → Option (List Datum)
cached_in s id = block_of s.cache id

-- a store with another cache
abbrev pub with_cache : StoreData → CacheData (List Datum) → StoreData
with_cache s cache = store_data s.exec s.generation s.blocks cache

-- all that a store holds is right
pub record HoldsOwn (work : WorkData) (s : StoreData) : Type 0 where
  pub outputs : (id : BlockId) → IfSome (output_in s id) (IsOwnBlock work id)
  pub cached : (id : CachedId) → IfSome (cached_in s id) (IsOwnPartition work id)

-- the code of a store
abbrev pub cached_id_code : Coded CachedId
cached_id_code =
    code_by (ℕ × ℕ) (coded× coded_ℕ coded_ℕ) (λ id. (id.node, id.partition))
    (λ p. record { node = p.0; partition = p.1 }) (λ _. refl)

abbrev pub cache_code : Coded (CacheData (List Datum))
cache_code =
    code_by (List (CachedId × List Datum) × ℕ)
    (coded× (coded_list (coded× cached_id_code (coded_list datum_code))) coded_ℕ)
    (λ c. (c.blocks, c.limit)) (λ p. cache_data p.0 p.1) (λ _. refl)

abbrev pub store_code : Coded StoreData
store_code =
    code_by ((ℕ × ℕ) × (List (BlockId × List (List Datum)) × CacheData (List Datum)))
    (coded× (coded× coded_ℕ coded_ℕ) (coded× (coded_list (coded× id_code output_code)) cache_code))
    (λ s. ((s.exec, s.generation), (s.blocks, s.cache)))
    (λ p. store_data p.0.0 p.0.1 p.1.0 p.1.1) (λ _. refl)
