-- The stores that a job begins with, where they are new.
use Rattle.std.specs.Prelude.{ℕ, ◌≡◌, List, [], None, map}
use Rattle.sc_base.specs.Lists.{numbers_below}
use Rattle.sc_cache.specs.Caches.{cache_data}
use Rattle.sc_ids.specs.declared.blocks.BlockId.{BlockId}
use Rattle.sc_lineage.specs.ScriptData.{WorkData}
use Rattle.sc_tracker.specs.TrackerData.{TrackerData, output_of, trust_of}
use Rattle.sc_store.specs.StoreData.{StoreData, store_data}
use Rattle.sc_desk.specs.DeskData.{DeskData, core_of}

-- the store of an executor at a generation at which nothing was put
abbrev pub empty_store : WorkData → ℕ → ℕ → StoreData
empty_store work exec generation =
    store_data exec generation [] (cache_data [] work.limits.cache)

-- before the first job it wasn't wiped
abbrev pub new_store : WorkData → ℕ → StoreData
new_store work exec = empty_store work exec 0

-- those of all executors
abbrev pub new_stores : WorkData → List StoreData
new_stores work = map (new_store work) (numbers_below work.limits.executors)

-- an empty store at the generation that a tracker has seen of its executor
abbrev pub seen_store : WorkData → TrackerData → ℕ → StoreData
seen_store work t exec = empty_store work exec (trust_of t exec).seen

-- those of all executors
abbrev pub seen_stores : WorkData → TrackerData → List StoreData
seen_stores work t = map (seen_store work t) (numbers_below work.limits.executors)

-- a desk knows of no place where an output is or was
abbrev pub IsUnregistered : DeskData → Type 0
IsUnregistered d = (b : BlockId) → (output_of (core_of d).dag.tracker b).last ≡ None
