-- A sink that keeps its bytes in memory.
use Rattle.std.specs.Prelude.{ℕ, ◌≡◌, List, [], ◌∷◌, ◌++◌, Option, Some, None, if◌then◌else◌, ◌==◌, take}
use Rattle.sc_base.specs.Counts.{counted}
use Rattle.sc_base.specs.Outside.{SinkState}
use Rattle.sc_sink.specs.declared.sink.SinkAnswer.{SinkAnswer}
use Rattle.sc_sink.specs.declared.sink.SinkAnswer.TheVariants.{Written, Failed, OutOfMemory}

-- the pieces that a sink in memory took, the calls that are to fail, and what was counted
pub record HeldPieces : Type 0 where
  -- what it took of each write, in order
  pub pieces : List (List ℕ)
  -- calls that are to fail, by their numbers, of which the first is 1, each with how many bytes go
  -- out first; of two entries of one number the first counts
  pub failing : List (ℕ × ℕ)
  -- how many calls were answered
  pub calls : ℕ
  -- how many of them failed
  pub faults : ℕ

-- what such a sink shows: all of its pieces
abbrev pub shown_pieces : HeldPieces → SinkState
shown_pieces held = record { pieces = Some held.pieces; faults = held.faults }

-- no pieces, no calls that are to fail, and nothing counted
abbrev pub no_pieces : HeldPieces
no_pieces = record { pieces = []; failing = []; calls = 0; faults = 0 }

-- one more piece, behind the others
abbrev pub with_piece : HeldPieces → List ℕ → HeldPieces
with_piece held piece = record held { pieces = held.pieces ++ piece ∷ [] }

-- one more call that is to fail after so many bytes
abbrev pub with_failing_call : HeldPieces → ℕ → ℕ → HeldPieces
with_failing_call held call count = record held { failing = held.failing ++ (call, count) ∷ [] }

-- after how many bytes a call is to fail
abbrev pub failing_after : List (ℕ × ℕ) → ℕ → Option ℕ
failing_after [] call = None
failing_after (entry ∷ entries) call =
    if entry.0 == call then Some entry.1 else failing_after entries call

-- after how many bytes the next call is to fail
abbrev pub next_failing_after : HeldPieces → Option ℕ
next_failing_after held = failing_after held.failing (counted held.calls)

-- A write to a sink in memory, by its answer. A call that is to fail does so after its bytes, and
-- no other; all calls are counted but those that want of memory ended.
abbrev pub WritesHeldPieces : HeldPieces → HeldPieces → List ℕ → SinkAnswer → Type 0
WritesHeldPieces before after bytes Written =
    (next_failing_after before ≡ None)
    × (after ≡ record (with_piece before bytes) { calls = counted before.calls })
WritesHeldPieces before after bytes Failed =
    (n : ℕ) × (next_failing_after before ≡ Some n)
    × (after ≡ record (with_piece before (take n bytes)) {
      calls = counted before.calls;
      faults = counted before.faults;
    })
WritesHeldPieces before after bytes OutOfMemory = after ≡ before
