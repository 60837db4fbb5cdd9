use Rattle.std.proofs.Common.{sym, subst}
use Rattle.sc_cache.specs.Caches.{with_kept}
use Rattle.sc_store.specs.OwnBlocks.{IsOwnPartition}
use Rattle.sc_store.specs.StoreData.{HoldsOwn, store_data}
use Rattle.sc_store.proofs.CachedLemmas.{kept_keeps}
use Rattle.sc_store.proofs.store.Store.keep.Goals as goal

pub invariant_of-self-2 : goal.invariant_of-self-2
invariant_of-self-2 g c =
    let work = g.W.Naming.work in
    let s = c.self.inside in
    let kept : HoldsOwn work
    (store_data s.exec s.generation s.blocks.entries
    (with_kept s.cache c.args.id c.args.rows)) =
    record {
      outputs = c.self.invariant.outputs;
      cached =
          kept_keeps (IsOwnPartition work) s.cache c.self.invariant.cached c.is_sound.ensures
          c.args.id c.args.rows c.requires.own;
    } in
    subst (λ m. HoldsOwn work (store_data s.exec s.generation s.blocks.entries m))
    (sym c.in_ok-keep.ensures.kept) kept
