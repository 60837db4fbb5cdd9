-- What an attempt that computes does with the cache of its executor's store.
use Rattle.std.proofs.Common.{◌≡◌, inl, inr, List, refl, sym, subst}
use Rattle.sc_lineage.specs.ScriptData.{WorkData}
use Rattle.sc_compute.specs.declared.caching.CachedPart.{CachedPart}
use Rattle.sc_net.specs.Tasks.{TaskData, target_of_task}
use Rattle.sc_store.specs.StoreData.{StoreData}
use Rattle.sc_task.specs.Caches.{IsSameButCache, TakesCached}
use Rattle.sc_task.specs.States.{ComputedData}
use Rattle.sc_task.specs.Steps.{Computes}
use Rattle.sc_task.specs.declared.took.Did.{Did}
use Rattle.sc_task.specs.declared.took.Did.TheVariants as dids
use Rattle.sc_task.proofs.KeepingLemmas.{keeps_rest, some_rest}
use Rattle.sc_world.specs.Caching.{Caches, KeepsSoMuch}
use Rattle.sc_world.specs.declared.steps.Kept.{Kept}
use Rattle.sc_world.specs.declared.steps.Kept.TheVariants as kepts

much_rest : (kept : Kept) (used fresh : List CachedPart) (before after : StoreData)
    → KeepsSoMuch kept used fresh before after → IsSameButCache before after
much_rest kepts.All used fresh before after keeps = keeps_rest used fresh before after keeps
much_rest kepts.Short used fresh before after keeps = some_rest used fresh before after keeps

-- all of the store stays but what it has cached
pub caches_same : (work : WorkData) (t : TaskData) (kept : Kept) (before after : StoreData)
    → Caches work t kept before after → IsSameButCache before after
caches_same work t kept before after (inl leaves) =
    subst (IsSameButCache before) (sym leaves.same) (record { rest = refl; limit = refl })
caches_same work t kept before after (inr (planned, whole, keeps)) =
    much_rest kept keeps.used keeps.fresh before after keeps.keeps

-- an attempt that has computed what some partitions were known for
pub computes_caches : {W : _} → (work : WorkData) (t r : TaskData) (known : List CachedPart)
    (did : Did W) (done : ComputedData) (kept : Kept) (before after : StoreData)
    → did ≡ dids.Computed done → TakesCached work (target_of_task work r) before known
    → Computes work r known did → r ≡ t → KeepsSoMuch kept done.used done.fresh before after
    → Caches work t kept before after
computes_caches work t r known did done kept before after is takes computes same keeps =
    let d = subst (Computes work r known) is computes in
    subst (λ u. Caches work u kept before after) same
    (inr (
      d.0,
      d.1,
      record {
        used = known;
        takes = takes;
        fresh = done.fresh;
        computes = d.4;
        own = d.5;
        keeps = subst (λ used. KeepsSoMuch kept used done.fresh before after) d.3 keeps;
      },
    ))
