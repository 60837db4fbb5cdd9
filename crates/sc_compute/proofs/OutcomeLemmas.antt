-- The results of an action, one after another.
use Rattle.std.proofs.Common.{◌≡◌, ◌∙◌, ℕ, ◌<◌, List, None, length, get_or, ap, sym}
use Rattle.std.proofs.lemmas.List.{get_or-map, length-map}
use Rattle.sc_value.specs.Datum.{Datum}
use Rattle.sc_lineage.specs.Actions.{local_results, first_raise, outcome_of_rows, result_of, rows_of_each, unless_never}
use Rattle.sc_lineage.specs.Meaning.{local_streams}
use Rattle.sc_lineage.specs.ScriptData.{ActionData, WorkData, node_of_action}
use Rattle.sc_lineage.specs.Streams.{ended_stream}
use Rattle.sc_lineage.specs.Targets.{own_value, result_target}
use Rattle.sc_lineage.specs.declared.streams.Stream.{Stream}
use Rattle.sc_lineage.proofs.PlaceLemmas.{at_or-get_or}
use Rattle.sc_compute.specs.Evaluations.{Gives, Settles}
use Rattle.sc_compute.specs.Stages.{local_count}
use Rattle.sc_compute.specs.declared.evaluation.Evaluated.{Evaluated}
use Rattle.sc_compute.specs.declared.evaluation.Evaluated.TheVariants.{Prints, Saves, Faults, Never}

-- there are as many results as partitions
pub length-results : (work : WorkData) (action : ActionData)
    → length (local_results work action) ≡ local_count work (node_of_action action)
length-results work action =
    length-map (local_streams work (node_of_action action)) (result_of action)

-- the result of a partition
pub result_at : (work : WorkData) (action : ActionData) (p : ℕ) (d : Stream)
    → p < local_count work (node_of_action action)
    → get_or (local_results work action) p d ≡ own_value work (result_target action p)
result_at work action p d within =
    let streams = local_streams work (node_of_action action) in
    get_or-map (result_of action) streams p (ended_stream None) d within
    ∙ ap (result_of action) (sym (at_or-get_or streams p (ended_stream None)))

-- an action of which no result raises
pub gives-settled : (work : WorkData) (action : ActionData) (rows : List (List Datum))
    (e : Evaluated)
    → first_raise (local_results work action) ≡ None
    → rows ≡ rows_of_each (local_results work action) → Settles (outcome_of_rows action rows) e
    → Gives work action e
gives-settled work action rows (Prints printed) none all settles =
    let outcome = outcome_of_rows action (rows_of_each (local_results work action)) in
    ap (λ o. unless_never o outcome) none ∙ ap (outcome_of_rows action) (sym all) ∙ settles
gives-settled work action rows Saves none all settles =
    let outcome = outcome_of_rows action (rows_of_each (local_results work action)) in (
      settles.0,
      settles.1,
      ap (λ o. unless_never o outcome) none ∙ ap (outcome_of_rows action) (sym all) ∙ settles.2,
    )
gives-settled work action rows (Faults fault) none all settles =
    let outcome = outcome_of_rows action (rows_of_each (local_results work action)) in
    ap (λ o. unless_never o outcome) none ∙ ap (outcome_of_rows action) (sym all) ∙ settles
gives-settled work action rows (Never p) none all settles = absurd settles
