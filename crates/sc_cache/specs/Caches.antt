-- What a cache holds, in the order of use, and how that changes.
use Rattle.std.specs.Prelude.{◌≤◌, ◌<◌, ◌-◌, ◌==◌, ◌&&◌, ℕ, Bool, List, ◌∷◌, Option, Some, None, not, if◌then◌else◌, is_some, length, slice_get, take}
use Rattle.std.specs.List.{IsDistinct}
use Rattle.std.specs.Map.{keys_of, lookup, remove_entry}
use Rattle.sc_cache.specs.declared.names.CachedId.{CachedId}

-- two names are the same
abbrev pub same_id : CachedId → CachedId → Bool
same_id a b = (a.node == b.node) && (a.partition == b.partition)

-- a cache of blocks that are seen as V
pub record CacheData (V : Type 0) : Type 0 where
  -- the blocks with their names, the most recently used first
  pub blocks : List (CachedId × V)
  -- how many there may be
  pub limit : ℕ

abbrev pub cache_data : {V : Type 0} → List (CachedId × V) → ℕ → CacheData V
cache_data blocks limit = record { blocks = blocks; limit = limit }

module _ {V : Type 0} where
  -- the block of a name
  abbrev pub block_of : CacheData V → CachedId → Option V
  block_of c id = lookup (same_id id) c.blocks

  -- there is a block of a name
  abbrev pub has_block : CacheData V → CachedId → Bool
  has_block c id = is_some (block_of c id)

  -- there is room for no further block
  abbrev pub is_full : CacheData V → Bool
  is_full c = length c.blocks == c.limit

  -- the blocks of other names, in order
  abbrev pub others : CacheData V → CachedId → List (CachedId × V)
  others c id = remove_entry (same_id id) c.blocks

  -- all blocks but the least recently used
  abbrev pub all_but_last : CacheData V → List (CachedId × V)
  all_but_last c = take (length c.blocks - 1) c.blocks

  -- the least recently used block
  abbrev pub last_used : CacheData V → Option (CachedId × V)
  last_used c = slice_get c.blocks (length c.blocks - 1)

  -- the block that goes where one of a name is kept: the least recently used, exactly where the
  -- cache is full and lacks the name
  abbrev pub displaced_by : CacheData V → CachedId → Option (CachedId × V)
  displaced_by c id = if is_full c && not (has_block c id) then last_used c else None

  -- the blocks that stay beside one of a name: those of other names, but for the one that goes
  abbrev pub staying : CacheData V → CachedId → List (CachedId × V)
  staying c id =
      if has_block c id then others c id
      else (if is_full c then all_but_last c else c.blocks)

  -- a block is kept, as the most recently used
  abbrev pub with_kept : CacheData V → CachedId → V → CacheData V
  with_kept c id block = cache_data ((id, block) ∷ staying c id) c.limit

  -- the order of use where the block of a name may be used
  abbrev pub used_order : CacheData V → CachedId → Option V → List (CachedId × V)
  used_order c id None = c.blocks
  used_order c id (Some block) = (id, block) ∷ others c id

  -- the block of a name is used, where there is one: it is the most recently used then
  abbrev pub with_used : CacheData V → CachedId → CacheData V
  with_used c id = cache_data (used_order c id (block_of c id)) c.limit

  -- the least recently used block is let go
  abbrev pub without_last : CacheData V → CacheData V
  without_last c = cache_data (all_but_last c) c.limit

  -- what every cache keeps
  pub record IsSoundCache (c : CacheData V) : Type 0 where
    -- no name comes twice
    pub distinct : IsDistinct same_id (keys_of c.blocks)
    -- there are no more blocks than the limit
    pub within : length c.blocks ≤ c.limit
    -- there is room for some
    pub some : 0 < c.limit
