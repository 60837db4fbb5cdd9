-- Streams: the content of a partition.
use Rattle.std.specs.Prelude.{Bool, List, [], ◌∷◌, ◌++◌, Option, Some, None, Ok, Err, is_some}
use Rattle.sc_value.specs.Datum.{Datum}
use Rattle.sc_expr.specs.Heads.{Outcome}
use Rattle.sc_expr.specs.declared.exprs.Raise.{Raise}
use Rattle.sc_lineage.specs.declared.streams.Stream.{Stream}

-- rows with nothing raised behind them
abbrev pub whole_stream : List Datum → Stream
whole_stream rows = record { rows = rows; raise = None }

-- no rows, and a raise or none
abbrev pub ended_stream : Option Raise → Stream
ended_stream end = record { rows = []; raise = end }

-- whether a stream ends in a raise
abbrev pub raises : Stream → Bool
raises s = is_some s.raise

-- rows in front of a stream
abbrev pub with_rows : List Datum → Stream → Stream
with_rows ds s = record { rows = ds ++ s.rows; raise = s.raise }

-- what an outcome puts in front of a stream: rows that its value gives, or its raise in place of
-- the whole rest
abbrev pub with_outcome : (Datum → List Datum) → Outcome → Stream → Stream
with_outcome given (Ok d) rest = with_rows (given d) rest
with_outcome given (Err r) rest = ended_stream (Some r)

-- What rows give one after another, up to the first raise, whether it is one of theirs or the one
-- at the end: from each row and the value of its outcome some rows.
abbrev pub each_gives :
    (Datum → Datum → List Datum) → (Datum → Outcome) → List Datum → Option Raise → Stream
each_gives given f [] end = ended_stream end
each_gives given f (d ∷ ds) end = with_outcome (given d) (f d) (each_gives given f ds end)

-- the value of each row, up to the first raise
abbrev pub each_until_raise : (Datum → Outcome) → List Datum → Option Raise → Stream
each_until_raise f ds end = each_gives (λ d v. v ∷ []) f ds end

-- a stream behind rows and what ended them: a raise ends the whole
abbrev pub unless_raised : List Datum → Option Raise → Stream → Stream
unless_raised rows None rest = with_rows rows rest
unless_raised rows (Some r) rest = record { rows = rows; raise = Some r }

-- streams one behind another, up to the first raise
abbrev pub joined_streams : List Stream → Stream
joined_streams [] = ended_stream None
joined_streams (s ∷ ss) = unless_raised s.rows s.raise (joined_streams ss)
