-- What each narrow operation gives: the stream of one partition of a node, from the streams that
-- the partition reads. It knows nothing of where these come from.
use Rattle.std.specs.Prelude.{ℕ, List, [], ◌∷◌, map, None, unwrap_or, if◌then◌else◌}
use Rattle.sc_base.specs.Lists.{content_of}
use Rattle.sc_base.specs.Outside.{Files}
use Rattle.sc_value.specs.Datum.{Datum, text, pair}
use Rattle.sc_value.specs.Lines.{text_lines}
use Rattle.sc_input.specs.Slices.{slice_of}
use Rattle.sc_expr.specs.ExprData.{ExprData}
use Rattle.sc_expr.specs.Heads.{Outcome, truth_in, items_in, first_of, second_of}
use Rattle.sc_expr.specs.Meaning.{one_value, value_of_expr}
use Rattle.sc_lineage.specs.declared.nodes.Elementwise.{Elementwise}
use Rattle.sc_lineage.specs.declared.nodes.Elementwise.TheVariants as by
use Rattle.sc_lineage.specs.declared.streams.Stream.{Stream}
use Rattle.sc_lineage.specs.NodeData.{NodeData, text_node, parallelize_node, each_node, union_node, coalesce_node, cache_node, shuffle_node, meet_node}
use Rattle.sc_lineage.specs.Streams.{whole_stream, ended_stream, each_gives, joined_streams}

-- an expression at a row
abbrev pub at_row : ExprData → Datum → Outcome
at_row e d = value_of_expr (one_value d) e

-- what the expression of an operation is over: the row, or the value of a row that is a pair
abbrev pub element_of : Elementwise → Datum → Datum
element_of by.Map d = d
element_of by.Filter d = d
element_of by.FlatMap d = d
element_of by.MapValues d = second_of d
element_of by.FlatMapValues d = second_of d

-- the rows that an operation gives, from a row and the value of its expression there
abbrev pub given_of : Elementwise → Datum → Datum → List Datum
given_of by.Map d v = v ∷ []
given_of by.Filter d v = if truth_in v then d ∷ [] else []
given_of by.FlatMap d v = items_in v
given_of by.MapValues d v = pair (first_of d) v ∷ []
given_of by.FlatMapValues d v = map (pair (first_of d)) (items_in v)

-- an operation on each row of a stream, up to the first raise
abbrev pub each_stream : Elementwise → ExprData → Stream → Stream
each_stream kind e s =
    each_gives (given_of kind) (λ d. at_row e (element_of kind d)) s.rows s.raise

-- the lines of an input; one that isn't there has none
abbrev pub lines_in : Files → List ℕ → List (List ℕ)
lines_in inputs name = text_lines (unwrap_or (content_of inputs name) [])

-- a function of the first stream; of none it is the empty stream
abbrev pub of_first : (Stream → Stream) → List Stream → Stream
of_first f [] = ended_stream None
of_first f (s ∷ ss) = f s

-- The stream of partition p of a narrow node, from inputs and from the streams that it reads. A
-- shuffle is none, and has nothing here.
abbrev pub narrow_stream : Files → NodeData → ℕ → List Stream → Stream
narrow_stream inputs (text_node name n) p read =
    whole_stream (map text (slice_of (lines_in inputs name) n p))
narrow_stream inputs (parallelize_node rows n) p read = whole_stream (slice_of rows n p)
narrow_stream inputs (each_node kind parent e) p read = of_first (each_stream kind e) read
narrow_stream inputs (union_node left right) p read = joined_streams read
narrow_stream inputs (coalesce_node parent n) p read = joined_streams read
narrow_stream inputs (cache_node parent) p read = of_first (λ s. s) read
narrow_stream inputs (shuffle_node kind parent n) p read = ended_stream None
narrow_stream inputs (meet_node kind left right n) p read = ended_stream None
