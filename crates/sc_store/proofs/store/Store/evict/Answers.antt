use Rattle.std.proofs.Common.{sym, subst}
use Rattle.sc_cache.specs.Caches.{without_last}
use Rattle.sc_store.specs.OwnBlocks.{IsOwnPartition}
use Rattle.sc_store.specs.StoreData.{HoldsOwn, store_data}
use Rattle.sc_store.proofs.CachedLemmas.{left_keeps}
use Rattle.sc_store.proofs.store.Store.evict.Goals as goal

pub invariant_of-self : goal.invariant_of-self
invariant_of-self g c =
    let work = g.W.Naming.work in
    let s = c.self.inside in
    let kept : HoldsOwn work
    (store_data s.exec s.generation s.blocks.entries (without_last s.cache)) =
    record {
      outputs = c.self.invariant.outputs;
      cached =
          left_keeps (IsOwnPartition work) s.cache c.self.invariant.cached c.is_sound.ensures;
    } in
    subst (λ m. HoldsOwn work (store_data s.exec s.generation s.blocks.entries m))
    (sym c.evict_last.ensures.others) kept
