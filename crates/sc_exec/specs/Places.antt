-- What is at the place of an executor where its store isn't, and what is done at a store.
use Rattle.std.specs.Prelude.{ℕ, ◌≡◌, ◌≢◌}
use Rattle.sc_plan.specs.declared.orders.OrderKind.{OrderKind}
use Rattle.sc_plan.specs.declared.orders.OrderKind.TheVariants as kinds
use Rattle.sc_cache.specs.Caches.{without_last}
use Rattle.sc_store.specs.StoreData.{StoreData, with_cache}
use Rattle.sc_store.specs.Storing.{Wipes}
use Rattle.sc_store.specs.declared.answers.WipeAnswer.{WipeAnswer}
use Rattle.sc_exec.specs.declared.lefts.Left.{Left}
use Rattle.sc_exec.specs.declared.lefts.Left.TheVariants as lefts
use Rattle.sc_exec.specs.declared.places.Misplaced.{Misplaced}

-- at the place of an executor is the store of another one
abbrev pub IsMisplaced : ℕ → Misplaced → Type 0
IsMisplaced place m = (m.place ≡ place) × (m.found ≢ place)

-- memory ran out at a store
abbrev pub IsWantOfMemory : Left → Type 0
IsWantOfMemory left = left ≡ lefts.NoMemory

-- an order of this kind and number was carried out at a store
abbrev pub IsCarriedOut : OrderKind → ℕ → StoreData → StoreData → Type 0
IsCarriedOut kinds.Drop number store after =
    (answer : WipeAnswer) × Wipes store number answer after
IsCarriedOut kinds.Lose number store after =
    (answer : WipeAnswer) × Wipes store number answer after
IsCarriedOut kinds.Evict number store after =
    after ≡ with_cache store (without_last store.cache)
