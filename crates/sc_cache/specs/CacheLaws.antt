-- What holds of every cache.
use Rattle.std.specs.Prelude.{◌≡◌, Bool, true, false, Option, Some, None}
use Rattle.sc_cache.specs.declared.names.CachedId.{CachedId}
use Rattle.sc_cache.specs.Caches.{CacheData, IsSoundCache, block_of, displaced_by, last_used, same_id, with_kept, with_used, without_last}

-- a block that goes has this name
abbrev pub goes_as : {V : Type 0} → CachedId → Option (CachedId × V) → Bool
goes_as id None = false
goes_as id (Some e) = same_id id e.0

pub record CachesAreLawful (V : Type 0) : Type 0 where
  -- a use changes no block
  pub used : (c : CacheData V) (id other : CachedId)
      → block_of (with_used c id) other ≡ block_of c other
  -- a block that is kept is found under its name
  pub kept : (c : CacheData V) (id : CachedId) (block : V)
      → block_of (with_kept c id block) id ≡ Some block
  -- another block is found as before, unless it is the one that goes
  pub stays : (c : CacheData V) (id other : CachedId) (block : V)
      → IsSoundCache c → same_id id other ≡ false
      → goes_as other (displaced_by c id) ≡ false
      → block_of (with_kept c id block) other ≡ block_of c other
  -- one that goes isn't found any more
  pub goes : (c : CacheData V) (id other : CachedId) (block : V)
      → IsSoundCache c → same_id id other ≡ false
      → goes_as other (displaced_by c id) ≡ true
      → block_of (with_kept c id block) other ≡ None
  -- where the least recently used is let go, each other block is found as before
  pub left : (c : CacheData V) (other : CachedId)
      → goes_as other (last_used c) ≡ false
      → block_of (without_last c) other ≡ block_of c other
  -- and that one isn't found any more
  pub let_go : (c : CacheData V) (other : CachedId)
      → IsSoundCache c → goes_as other (last_used c) ≡ true
      → block_of (without_last c) other ≡ None
