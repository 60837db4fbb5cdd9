-- What actions give: each partition's stream is made a result, and the results are put together.
-- A raise in any of the results leaves the action without an outcome, for ever.
use Rattle.std.specs.Prelude.{ℕ, ◌≡◌, List, [], ◌∷◌, ◌++◌, length, map, take, Option, Some, None, Ok, Err, unwrap_or}
use Rattle.std.specs.Fmt.{decimal}
use Rattle.std.specs.List.{flat_map, filter_map, position_from}
use Rattle.sc_base.specs.Trees.{Path}
use Rattle.sc_value.specs.Datum.{Datum}
use Rattle.sc_value.specs.Printing.{printed_line, printed_lines}
use Rattle.sc_expr.specs.ExprData.{ExprData}
use Rattle.sc_expr.specs.Heads.{Outcome}
use Rattle.sc_expr.specs.Meaning.{two_values, value_of_expr}
use Rattle.sc_expr.specs.declared.exprs.Raise.{Raise}
use Rattle.sc_lineage.specs.declared.nodes.DriverFault.{DriverFault}
use Rattle.sc_lineage.specs.declared.nodes.DriverFault.TheVariants.{EmptyCollection, Raised}
use Rattle.sc_lineage.specs.declared.streams.Stream.{Stream}
use Rattle.sc_lineage.specs.Meaning.{local_streams, node_streams}
use Rattle.sc_lineage.specs.ScriptData.{ActionData, collect_action, count_action, reduce_action, save_action, WorkData, node_of_action}
use Rattle.sc_lineage.specs.Streams.{whole_stream, ended_stream, raises}

-- what a fold goes on with behind an outcome
abbrev pub fold_from : (Datum → Outcome) → Outcome → Outcome
fold_from rest (Ok d) = rest d
fold_from rest (Err r) = Err r

-- values put together from the left, behind one: the last value, or the first raise
abbrev pub folded : ExprData → Datum → List Datum → Outcome
folded e a [] = Ok a
folded e a (b ∷ ds) = fold_from (λ c. folded e c ds) (value_of_expr (two_values a b) e)

-- what a fold leaves of a partition: its own raise, or its one row unless the rows ended in a raise
abbrev pub row_of_outcome : Outcome → Option Raise → Stream
row_of_outcome (Ok d) None = whole_stream (d ∷ [])
row_of_outcome (Ok d) (Some r) = ended_stream (Some r)
row_of_outcome (Err r) end = ended_stream (Some r)

-- a partition folded from the left to one row at most; a partition without rows stays as it is
abbrev pub folded_stream : ExprData → List Datum → Option Raise → Stream
folded_stream e [] end = ended_stream end
folded_stream e (d ∷ ds) end = row_of_outcome (folded e d ds) end

-- what an action makes of a partition, before the results are put together: for `reduce` the fold
-- of its rows, else the partition as it is
abbrev pub result_of : ActionData → Stream → Stream
result_of (collect_action node) s = s
result_of (count_action node) s = s
result_of (reduce_action node e) s = folded_stream e s.rows s.raise
result_of (save_action node dir) s = s

-- What an action gives: a text; the directory of a save, with the text of the part of each
-- partition in order; a fault where the results are put together; or nothing ever, since a
-- partition raises.
pub data ActionOutcome : Type 0 where
  prints : List ℕ → ActionOutcome
  saves : Path → List (List ℕ) → ActionOutcome
  faults : DriverFault → ActionOutcome
  never : ActionOutcome

-- the printed value of an outcome, or the fault of its raise
abbrev pub printed_outcome : Outcome → ActionOutcome
printed_outcome (Ok d) = prints (printed_line d)
printed_outcome (Err r) = faults (Raised r)

-- what a fold of the rows of all results gives
abbrev pub reduced : ExprData → List Datum → ActionOutcome
reduced e [] = faults EmptyCollection
reduced e (d ∷ ds) = printed_outcome (folded e d ds)

-- the rows of streams in order
abbrev pub all_rows : List Stream → List Datum
all_rows streams = flat_map (λ s. s.rows) streams

-- the rows of streams, those of each apart
abbrev pub rows_of_each : List Stream → List (List Datum)
rows_of_each streams = map (λ s. s.rows) streams

-- the rows of all results, those of each behind those before
abbrev pub rows_together : List (List Datum) → List Datum
rows_together rows = flat_map (λ rs. rs) rows

-- What results give that don't raise, by the rows of each: all rows a line each, their number, or
-- their fold; of a save the lines of each result apart.
abbrev pub outcome_of_rows : ActionData → List (List Datum) → ActionOutcome
outcome_of_rows (collect_action node) rows = prints (printed_lines (rows_together rows))
outcome_of_rows (count_action node) rows = prints (decimal (length (rows_together rows)) ++ 10 ∷ [])
outcome_of_rows (reduce_action node e) rows = reduced e (rows_together rows)
outcome_of_rows (save_action node dir) rows = saves dir (map printed_lines rows)

-- the first of some results that raises
abbrev pub first_raise : List Stream → Option ℕ
first_raise results = position_from raises 0 results

-- an outcome, unless a result raises
abbrev pub unless_never : Option ℕ → ActionOutcome → ActionOutcome
unless_never None outcome = outcome
unless_never (Some p) outcome = never

-- what an action gives, from the results of its partitions in order
abbrev pub outcome_of_results : ActionData → List Stream → ActionOutcome
outcome_of_results action results =
    unless_never (first_raise results) (outcome_of_rows action (rows_of_each results))

-- what an action gives, from the streams of its node
abbrev pub outcome_from : ActionData → List Stream → ActionOutcome
outcome_from action streams = outcome_of_results action (map (result_of action) streams)

-- the results that are computed for the partitions of an action's node
abbrev pub local_results : WorkData → ActionData → List Stream
local_results work action = map (result_of action) (local_streams work (node_of_action action))

-- what an action gives, by the sequential meaning
abbrev pub action_outcome : WorkData → ActionData → ActionOutcome
action_outcome work action = outcome_from action (node_streams work (node_of_action action))

-- the text that an outcome prints, where it has one: that of a save is empty
abbrev pub text_of_outcome : ActionOutcome → Option (List ℕ)
text_of_outcome (prints printed) = Some printed
text_of_outcome (saves dir texts) = Some []
text_of_outcome (faults fault) = None
text_of_outcome never = None

-- the text of an action, where it has one
abbrev pub action_text : WorkData → ActionData → Option (List ℕ)
action_text work action = text_of_outcome (action_outcome work action)

-- the text that the first k actions print
abbrev pub printed_by : WorkData → ℕ → List ℕ
printed_by work k =
    flat_map (λ action. unwrap_or (action_text work action) []) (take k work.script.actions)

-- a text that isn't empty
abbrev pub some_text : Option (List ℕ) → Option (List ℕ)
some_text (Some (c ∷ cs)) = Some (c ∷ cs)
some_text t = None

-- the texts of the first k actions that aren't empty
abbrev pub texts_by : WorkData → ℕ → List (List ℕ)
texts_by work k =
    filter_map (λ action. some_text (action_text work action)) (take k work.script.actions)

-- an action gives a text
abbrev pub HasText : WorkData → ActionData → Type 0
HasText work action = (printed : List ℕ) × (action_text work action ≡ Some printed)
