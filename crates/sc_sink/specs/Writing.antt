-- What a write tells of a sink.
use Rattle.std.specs.Prelude.{ℕ, ◌≡◌, List, [], ◌∷◌, take}
use Rattle.sc_base.specs.Counts.{Rose}
use Rattle.sc_base.specs.Outside.{SinkState, with_more}
use Rattle.sc_sink.specs.declared.sink.SinkAnswer.{SinkAnswer}
use Rattle.sc_sink.specs.declared.sink.SinkAnswer.TheVariants.{Written, Failed, OutOfMemory}

-- the cause of an answer: the bytes went out as one piece and the count stayed, or a prefix of them
-- did and it rose, or nothing changed
abbrev pub IsWriteCause : SinkState → SinkState → List ℕ → SinkAnswer → Type 0
IsWriteCause before after bytes Written =
    (after.faults ≡ before.faults) × (after.pieces ≡ with_more before.pieces (bytes ∷ []))
IsWriteCause before after bytes Failed =
    Rose before.faults after.faults
    × ((n : ℕ) × (after.pieces ≡ with_more before.pieces (take n bytes ∷ [])))
IsWriteCause before after bytes OutOfMemory = after ≡ before
