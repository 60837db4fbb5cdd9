-- What an attempt that computes does with the cache of its executor's store.
use Rattle.std.specs.Prelude.{◌≡◌, ◌⊎◌, All, false, List, None}
use Rattle.sc_lineage.specs.ScriptData.{WorkData}
use Rattle.sc_lineage.specs.Targets.{own_value}
use Rattle.sc_compute.specs.Asking.{place_taken}
use Rattle.sc_compute.specs.Caching.{IsCachedPart}
use Rattle.sc_compute.specs.Needs.{AreFresh, places_in}
use Rattle.sc_compute.specs.declared.caching.CachedPart.{CachedPart}
use Rattle.sc_net.specs.Tasks.{TaskData, is_planned, target_of_task}
use Rattle.sc_net.specs.declared.findings.Finding.{Finding}
use Rattle.sc_store.specs.StoreData.{StoreData}
use Rattle.sc_task.specs.Caches.{KeepsEach, KeepsSome, TakesCached}
use Rattle.sc_task.specs.Steps.{FailsAs}
use Rattle.sc_world.specs.declared.steps.Kept.{Kept}
use Rattle.sc_world.specs.declared.steps.Kept.TheVariants as kepts

-- What was used becomes the most recently used, and then all that is fresh is kept, in order; or,
-- where memory runs out, the first of it, and not all.
abbrev pub KeepsSoMuch : Kept → List CachedPart → List CachedPart → StoreData → StoreData → Type 0
KeepsSoMuch kepts.All used fresh before after = KeepsEach used fresh before after
KeepsSoMuch kepts.Short used fresh before after = KeepsSome used fresh before after

-- What a store does for an attempt that computes: of the partitions of cache nodes that the task
-- needs exactly those that the store has are used, and exactly those that are computed are kept.
pub record UsesAndKeeps (work : WorkData) (t : TaskData) (kept : Kept) (before after : StoreData)
    : Type 0 where
  pub used : List CachedPart
  pub takes : TakesCached work (target_of_task work t) before used
  pub fresh : List CachedPart
  pub computes : AreFresh work (places_in used) (place_taken work (target_of_task work t))
      (places_in fresh)
  pub own : All (IsCachedPart work) fresh
  pub keeps : KeepsSoMuch kept used fresh before after

-- for one that fails, as planned or by its own raise, it uses and keeps nothing
pub record LeavesCache (work : WorkData) (t : TaskData) (kept : Kept) (before after : StoreData)
    : Type 0 where
  pub finding : Finding
  pub fails : FailsAs work t finding
  pub all : kept ≡ kepts.All
  pub same : after ≡ before

-- what a store does for an attempt of a task that has read all
abbrev pub Caches : WorkData → TaskData → Kept → StoreData → StoreData → Type 0
Caches work t kept before after =
    LeavesCache work t kept before after
    ⊎ ((is_planned work t ≡ false) × ((own_value work (target_of_task work t)).raise ≡ None)
    × UsesAndKeeps work t kept before after)
