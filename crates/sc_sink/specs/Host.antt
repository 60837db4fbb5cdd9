-- The standard output.
use Rattle.std.specs.Prelude.{ℕ, ◌≡◌, List, None}
use Rattle.sc_base.specs.Counts.{counted}
use Rattle.sc_base.specs.Outside.{SinkState}
use Rattle.sc_sink.specs.Writers.{WriterState, TakesAll, FailsWithin}
use Rattle.sc_sink.specs.declared.sink.SinkAnswer.{SinkAnswer}
use Rattle.sc_sink.specs.declared.sink.SinkAnswer.TheVariants.{Written, Failed, OutOfMemory}

-- a sink that shows no pieces and counted nothing yet
abbrev pub unseen_pieces : SinkState
unseen_pieces = record { pieces = None; faults = 0 }

-- A write to the standard output, by its answer: nothing changes, or one more fault is counted,
-- where a count stands still at its type's last value.
abbrev pub WritesOut : SinkState → SinkState → SinkAnswer → Type 0
WritesOut before after Written = after ≡ before
WritesOut before after Failed = after ≡ record before { faults = counted before.faults }
WritesOut before after OutOfMemory = ⊥

-- Puts some bytes out through a writer, by the answer: it took all of them and sent them on, or a
-- call of it failed and one more fault is counted.
abbrev pub PutsOut : ℕ → ℕ → WriterState → WriterState → List ℕ → SinkAnswer → Type 0
PutsOut faults faults' before after bytes Written =
    (faults' ≡ faults) × TakesAll before after bytes
PutsOut faults faults' before after bytes Failed =
    (faults' ≡ counted faults) × FailsWithin before after bytes
PutsOut faults faults' before after bytes OutOfMemory = ⊥
