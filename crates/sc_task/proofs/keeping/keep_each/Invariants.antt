use Rattle.std.proofs.Common.{◌≡◌, take}
use Rattle.sc_store.specs.StoreData.{with_cache}
use Rattle.sc_task.specs.Caches.{with_each_kept}
use Rattle.sc_task.proofs.keeping.keep_each.Given as goal

abbrev pub invariant-loop-part : goal.invariant-loop-part
invariant-loop-part g l =
    l.store ≡ with_cache l.initial.store
    (with_each_kept l.initial.store.cache (take l.part-index l.fresh))
