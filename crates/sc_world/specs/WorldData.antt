-- A world, as plain data.
use Rattle.std.specs.Prelude.{ℕ, List, Option, None, refl}
use Rattle.std.specs.Coded.{Coded, code_by, coded×, coded_list, coded_option}
use Rattle.sc_base.specs.Lists.{at_or}
use Rattle.sc_ids.specs.Changes.{change_at}
use Rattle.sc_core.specs.CoreData.{CoreData}
use Rattle.sc_desk.specs.DeskData.{DeskData, core_of, desk_code}
use Rattle.sc_store.specs.StoreData.{StoreData, store_code}
use Rattle.sc_task.specs.Attempts.{AttemptData, attempt_code}

-- a world
pub record WorldData : Type 0 where
  -- the driver's desk
  pub desk : DeskData
  -- the stores of the executors, in the order of their numbers
  pub stores : List StoreData
  -- the attempt that each executor has out, by the same numbers
  pub held : List (Option AttemptData)

abbrev pub world_data : DeskData → List StoreData → List (Option AttemptData) → WorldData
world_data desk stores held = record { desk = desk; stores = stores; held = held }

-- the attempt that an executor has out
abbrev pub held_at : WorldData → ℕ → Option AttemptData
held_at w exec = at_or w.held exec None

-- the scheduler
abbrev pub core_in : WorldData → CoreData
core_in w = core_of w.desk

abbrev pub with_held : WorldData → ℕ → Option AttemptData → WorldData
with_held w exec held = world_data w.desk w.stores (change_at w.held exec (λ _. held))

abbrev pub with_store : WorldData → ℕ → StoreData → WorldData
with_store w exec store = world_data w.desk (change_at w.stores exec (λ _. store)) w.held

abbrev pub with_desk : WorldData → DeskData → WorldData
with_desk w desk = world_data desk w.stores w.held

-- the code of a world, by which proofs tell two of them apart
abbrev pub world_code : Coded WorldData
world_code =
    code_by (DeskData × (List StoreData × List (Option AttemptData)))
    (coded× desk_code (coded× (coded_list store_code) (coded_list (coded_option attempt_code))))
    (λ w. (w.desk, (w.stores, w.held))) (λ p. world_data p.0 p.1.0 p.1.1) (λ _. refl)
