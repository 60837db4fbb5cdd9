-- What a cache ends as, once a block that it lent has come back.
use Rattle.std.specs.Prelude.{◌≡◌, ⊤}
use Rattle.std.specs.Borrow.{Fml, RattleType, MutBor, follows_so}
use mathlib.Core.Option.{none}
use Rattle.sc_cache.specs.declared.names.CachedId.{CachedId}
use Rattle.sc_cache.specs.Caches.{CacheData, with_used}
use Rattle.sc_cache.specs.contracts.cache.BlockCache.{the_row}

-- the block of a name was used
abbrev pub ends_used : (V : RattleType) → MutBor (CacheData V.Denot) → CachedId → Fml
ends_used V c id =
    follows_so (the_row V) (the_row V) c.ghost_name none (λ _ _. ⊤) (λ n. n ≡ with_used c.now id)
