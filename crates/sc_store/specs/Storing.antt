-- What the calls on a store do.
use Rattle.std.specs.Prelude.{ℕ, ◌≡◌, ◌<◌, ◌≤◌, false, [], Some, None}
use Rattle.sc_ids.specs.declared.blocks.BlockId.{BlockId}
use Rattle.sc_plan.specs.declared.orders.OrderKind.{OrderKind}
use Rattle.sc_plan.specs.declared.orders.OrderKind.TheVariants as kinds
use Rattle.sc_cache.specs.Caches.{cache_data}
use Rattle.sc_store.specs.declared.answers.FetchAnswer.{FetchAnswer}
use Rattle.sc_store.specs.declared.answers.FetchAnswer.TheVariants.{Found, Gone, Absent}
use Rattle.sc_store.specs.declared.answers.WipeAnswer.{WipeAnswer}
use Rattle.sc_store.specs.declared.answers.WipeAnswer.TheVariants.{Wiped, Stale}
use Rattle.sc_store.specs.BlockData.{BlockData, same_block}
use Rattle.sc_store.specs.StoreData.{StoreData, output_in, store_data}

-- a block is put: it lies under its name, in the place of one that lay there, and all else stays
pub record Puts (before : StoreData) (block : BlockData) (after : StoreData) : Type 0 where
  pub here : output_in after block.id ≡ Some block.output
  pub others : (other : BlockId) → same_block block.id other ≡ false
      → output_in after other ≡ output_in before other
  pub rest : after ≡ store_data before.exec before.generation after.blocks before.cache

-- What is answered to a fetch at a generation: Gone exactly where the store is past it, and else
-- Absent exactly where no block of the name was put.
abbrev pub Fetches : {W : _} → StoreData → BlockId → ℕ → FetchAnswer W → Type 0
Fetches s id wanted (Found block) =
    (s.generation ≤ wanted) × (block.id ≡ id) × (output_in s id ≡ Some block.output)
Fetches s id wanted (Gone asked found) =
    (wanted < s.generation) × (asked ≡ wanted) × (found ≡ s.generation)
Fetches s id wanted Absent = (s.generation ≤ wanted) × (output_in s id ≡ None)

-- an order asks for a wipe
abbrev pub IsWipe : OrderKind → Type 0
IsWipe kinds.Drop = Unit {0}
IsWipe kinds.Lose = Unit {0}
IsWipe kinds.Evict = ⊥

-- an empty store at a generation
abbrev pub emptied : StoreData → ℕ → StoreData
emptied s generation = store_data s.exec generation [] (cache_data [] s.cache.limit)

-- What an order of a number to wipe does: it empties the store and gives it that generation, and is
-- stale exactly where the number isn't above the generation; then nothing changes.
abbrev pub Wipes : StoreData → ℕ → WipeAnswer → StoreData → Type 0
Wipes before number (Wiped generation) after =
    (before.generation < number) × (generation ≡ number) × (after ≡ emptied before number)
Wipes before number (Stale generation) after =
    (number ≤ before.generation) × (generation ≡ before.generation) × (after ≡ before)
