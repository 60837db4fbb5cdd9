use Rattle.std.proofs.Common.{◌≡◌}
use Rattle.sc_rows.specs.Jobs.{room_of}
use Rattle.sc_rows.proofs.transcripts.assert_transcript.Given as goal

abbrev pub invariant-loop-line : goal.invariant-loop-line
invariant-loop-line g l = room_of l.journal.0.core ≡ room_of l.initial.journal.0.core
