use Rattle.std.proofs.Common.{sym, subst}
use Rattle.sc_cache.specs.Caches.{with_used}
use Rattle.sc_store.specs.OwnBlocks.{IsOwnPartition}
use Rattle.sc_store.specs.StoreData.{HoldsOwn, store_data}
use Rattle.sc_store.proofs.CachedLemmas.{used_keeps}
use Rattle.sc_store.proofs.store.Store.mark_used.Goals as goal

pub invariant_of-self : goal.invariant_of-self
invariant_of-self g c =
    let work = g.W.Naming.work in
    let s = c.self.inside in
    let kept : HoldsOwn work
    (store_data s.exec s.generation s.blocks.entries (with_used s.cache c.args.id)) =
    record {
      outputs = c.self.invariant.outputs;
      cached = used_keeps (IsOwnPartition work) s.cache c.self.invariant.cached c.args.id;
    } in
    subst (λ m. HoldsOwn work (store_data s.exec s.generation s.blocks.entries m))
    (sym c.get.follows.holds-at-none) kept
