-- What an action gives by rows alone, where no partition raises.
use Rattle.std.proofs.Common.{◌≡◌, ◌∙◌, ◌+◌, ℕ, List, [], ◌∷◌, None, map, refl, ap, sym}
use Rattle.std.specs.List.{position_from}
use Rattle.sc_base.specs.Trees.{Path}
use Rattle.sc_value.specs.Datum.{Datum}
use Rattle.sc_value.specs.Printing.{printed_lines}
use Rattle.sc_lineage.specs.Actions.{first_raise, local_results, outcome_of_results, outcome_of_rows, rows_of_each, saves, unless_never}
use Rattle.sc_lineage.specs.Meaning.{bounds_between, bounds_step, known_of, local_streams, meanings_by}
use Rattle.sc_lineage.specs.NodeData.{shuffle_node, sort_by_key}
use Rattle.sc_lineage.specs.ScriptData.{ActionData, WorkData, save_action}
use Rattle.sc_lineage.specs.Streams.{raises, whole_stream}
use Rattle.sc_compute.specs.Evaluations.{Gives, Settles, local_outcome}
use Rattle.sc_compute.specs.Stages.{bounds_at, node_at}
use Rattle.sc_compute.specs.declared.evaluation.Evaluated.{Evaluated}
use Rattle.sc_compute.proofs.OutcomeLemmas.{gives-settled}

-- rows alone don't raise
none_raises : (k : ℕ) (results : List (List Datum))
    → position_from raises k (map whole_stream results) ≡ None
none_raises k [] = refl
none_raises k (rows ∷ results) = none_raises (k + 1) results

rows_of_whole : (results : List (List Datum))
    → rows_of_each (map whole_stream results) ≡ results
rows_of_whole [] = refl
rows_of_whole (rows ∷ results) = ap (λ more. rows ∷ more) (rows_of_whole results)

-- what settles the rows of all results is what the action gives
pub gives-rows : (work : WorkData) (action : ActionData) (results : List (List Datum))
    (e : Evaluated) → local_results work action ≡ map whole_stream results
    → Settles (outcome_of_rows action results) e → Gives work action e
gives-rows work action results e are settles =
    gives-settled work action results e
    (ap first_raise are ∙ none_raises 0 results)
    (sym (ap rows_of_each are ∙ rows_of_whole results)) settles

-- what a save gives, where no result raises: the lines of the rows of each
pub saved_parts : (work : WorkData) (node : ℕ) (dir : Path) (results : List (List Datum))
    → local_results work (save_action node dir) ≡ map whole_stream results
    → local_outcome work (save_action node dir) ≡ saves dir (map printed_lines results)
saved_parts work node dir results are =
    let streams = map whole_stream results in
    ap (outcome_of_results (save_action node dir)) are
    ∙ ap (λ raised. unless_never raised (saves dir (map printed_lines (rows_of_each streams))))
    (none_raises 0 results)
    ∙ ap (λ rows. saves dir (map printed_lines rows)) (rows_of_whole results)

-- the bounds of a sort are those between the rows of its parent
pub bounds_of_sort : (work : WorkData) (node parent n : ℕ) (results : List (List Datum))
    → node_at work node ≡ shuffle_node sort_by_key parent n
    → local_streams work parent ≡ map whole_stream results
    → bounds_between (map whole_stream results) n ≡ bounds_at work node
bounds_of_sort work node parent n results sort are =
    ap (λ streams. bounds_between streams n) (sym are)
    ∙ ap (bounds_step (meanings_by (known_of work) work)) (sym sort)
