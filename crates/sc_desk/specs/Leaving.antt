-- Which executors left a job early, by its entries.
use Rattle.std.specs.Prelude.{ℕ, ◌≡◌, ◌≤◌, ◌==◌, All, Bool, true, false, List, count_by, get_or, length, not}
use Rattle.std.specs.List.{list_any}
use Rattle.sc_ids.specs.declared.attempts.Mark.TheVariants.{Exec}
use Rattle.sc_core.specs.Journals.{JournalData}
use Rattle.sc_core.specs.declared.entries.Entry.{Entry}
use Rattle.sc_core.specs.declared.events.Event.{Event}
use Rattle.sc_core.specs.declared.events.Event.TheVariants.{Side}
use Rattle.sc_core.specs.declared.events.SideEvent.{SideEvent}
use Rattle.sc_core.specs.declared.events.SideEvent.TheVariants.{Leave}

-- an event is that this executor leaves
abbrev pub leaves_aside : ℕ → SideEvent → Bool
leaves_aside exec (Leave who) = who == exec
leaves_aside exec event = false

abbrev pub leaves : ℕ → Event → Bool
leaves exec (Side event) = leaves_aside exec event
leaves exec event = false

-- this executor left, as an entry tells
abbrev pub has_left : ℕ → List Entry → Bool
has_left exec entries = list_any (λ e. leaves exec e.event) entries

-- an entry that an executor leaves is marked by that executor
abbrev pub IsOwnLeave : Entry → Type 0
IsOwnLeave e = (exec : ℕ) → leaves exec e.event ≡ true → e.by ≡ Exec exec

-- by an event nobody leaves
abbrev pub IsNoLeave : Event → Type 0
IsNoLeave (Side (Leave exec)) = ⊥
IsNoLeave event = Unit {0}

-- how many didn't leave yet, of executors that left or not
abbrev pub staying : List Bool → ℕ
staying left = count_by not left

-- a journal with room for the leave of each executor that didn't leave yet
pub record HasRoomToLeave (j : JournalData) (left : List Bool) (room : ℕ) : Type 0 where
  -- of each executor it is known whether it left
  pub places : length left ≡ j.opening.dag.limits.executors
  pub known : (exec : ℕ) → get_or left exec false ≡ has_left exec j.entries
  -- each that left said so itself
  pub own : All IsOwnLeave j.entries
  pub room_is : staying left ≤ room
