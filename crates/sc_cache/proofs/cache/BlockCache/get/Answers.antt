use Rattle.std.proofs.Common.{◌≡◌, ◌∙◌, refl, ap}
use Rattle.lru.specs.LruCache.{promoted}
use Rattle.sc_cache.specs.Caches.{block_of, cache_data, same_id, with_used}
use Rattle.sc_cache.proofs.CacheLemmas.{promoted_is}
use Rattle.sc_cache.proofs.cache.BlockCache.get.Goals as goal

pub returns : goal.returns
returns g c =
    let id = c.args.id in
    let es = c.self.inside.blocks.entries in
    let n = c.self.inside.blocks.cap in
    let order : cache_data (promoted (same_id id) es) n ≡ with_used (cache_data es n) id =
    ap (λ order. cache_data order n) (promoted_is id es n) in (
      (
        refl,
        (λ w. tt),
        ap (λ l. cache_data l.entries l.cap) c.get.follows.holds-at-none
            ∙ order
            ∙ ap (λ m. with_used m id) c.self.view_is,
      ),
      record {
        used = tt;
        found = c.get.ensures.value ∙ ap (λ m. block_of m id) c.self.view_is;
      },
    )
