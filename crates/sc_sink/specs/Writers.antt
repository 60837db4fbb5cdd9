-- A writer of bytes whose failed calls are counted.
use Rattle.std.specs.Prelude.{ℕ, ◌≡◌, ◌<◌, ◌≤◌, Bool, true, false, List, length, take, Option, Result, Ok, Err}
use Rattle.std.specs.Io.KnownBytes.{Keeps, Appends}
use Rattle.sc_base.specs.Counts.{counted}

-- a writer at one moment
pub record WriterState : Type 0 where
  -- the bytes that it took, where it shows them
  pub taken : Option (List ℕ)
  -- whether all that it took was flushed
  pub is_flushed : Bool
  -- how often a call failed
  pub faults : ℕ

-- a writer that took these bytes, none of which need be flushed, and of which no call failed
abbrev pub fresh_writer : Option (List ℕ) → WriterState
fresh_writer taken = record { taken = taken; is_flushed = false; faults = 0 }

-- a writer took so many of some bytes, at least one, and counted nothing
pub record TakesSome (before after : WriterState) (bytes : List ℕ) (count : ℕ) : Type 0 where
  pub some : 0 < count
  pub within : count ≤ length bytes
  pub taken : Appends before.taken after.taken (take count bytes)
  pub faults : after.faults ≡ before.faults

-- a call of a writer failed: it took nothing, and the call was counted
pub record FailsCall (before after : WriterState) : Type 0 where
  pub kept : Keeps before.taken after.taken
  pub failed : after.faults ≡ counted before.faults

-- a write of some bytes, by its answer
abbrev pub WritesSome : {E : Type 0} → WriterState → WriterState → List ℕ → Result ℕ E → Type 0
WritesSome before after bytes (Ok count) = TakesSome before after bytes count
WritesSome before after bytes (Err error) = FailsCall before after

-- a writer sent on all that it took, and counted nothing
pub record SendsOn (before after : WriterState) : Type 0 where
  pub kept : Keeps before.taken after.taken
  pub flushed : after.is_flushed ≡ true
  pub faults : after.faults ≡ before.faults

-- a flush, by its answer
abbrev pub Flushes : {A E : Type 0} → WriterState → WriterState → Result A E → Type 0
Flushes before after (Ok x) = SendsOn before after
Flushes before after (Err error) = FailsCall before after

-- Takes note of how a flush ended, and answers so.
abbrev pub Settles :
    {A B E F : Type 0} → WriterState → WriterState → Result A E → Result B F → Type 0
Settles before after (Ok x) (Ok y) = after ≡ record before { is_flushed = true }
Settles before after (Ok x) (Err error) = ⊥
Settles before after (Err error) (Ok y) = ⊥
Settles before after (Err error) (Err other) = FailsCall before after

-- a writer took all bytes in order and sent them on, and counted nothing
pub record TakesAll (before after : WriterState) (bytes : List ℕ) : Type 0 where
  pub taken : Appends before.taken after.taken bytes
  pub flushed : after.is_flushed ≡ true
  pub faults : after.faults ≡ before.faults

-- a call of a writer failed after so many of the bytes, and was counted
abbrev pub FailsWithin : WriterState → WriterState → List ℕ → Type 0
FailsWithin before after bytes =
    (after.faults ≡ counted before.faults)
    × ((n : ℕ) × Appends before.taken after.taken (take n bytes))

-- a write of all bytes, by its answer
abbrev pub WritesAll : {A E : Type 0} → WriterState → WriterState → List ℕ → Result A E → Type 0
WritesAll before after bytes (Ok x) = TakesAll before after bytes
WritesAll before after bytes (Err error) = FailsWithin before after bytes
