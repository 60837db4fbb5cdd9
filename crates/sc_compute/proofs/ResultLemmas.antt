-- What results tell of the rows that they were handed over for.
use Rattle.std.proofs.Common.{◌≡◌, ◌∙◌, ◌+◌, ◌++◌, ℕ, List, [], ◌∷◌, All, length, map, replicate, flat_map, refl, ap, ap₂, sym, subst}
use Rattle.std.proofs.lemmas.List.{length-append, length-replicate}
use Rattle.std.proofs.lemmas.List.Elements.{All-cons, All-nil}
use Rattle.std.proofs.lemmas.Result.{IfOk-weaker}
use Rattle.std.specs.Fmt.{decimal}
use Rattle.std.specs.Prelude.{IfOk, Result}
use Rattle.std.specs.declared.alloc.AllocError.{AllocError}
use Rattle.sc_base.specs.Trees.{Path}
use Rattle.sc_value.specs.Datum.{Datum, group, no_items}
use Rattle.sc_value.specs.Printing.{printed_lines}
use Rattle.sc_lineage.specs.Actions.{outcome_of_rows, prints, rows_together}
use Rattle.sc_expr.specs.ExprData.{ExprData}
use Rattle.sc_lineage.specs.ScriptData.{ActionData, WorkData, collect_action, count_action, reduce_action, save_action}
use Rattle.sc_compute.specs.Evaluations.{Settles}
use Rattle.sc_compute.specs.Gathering.{IsGathered}
use Rattle.sc_compute.specs.Results.{AreResultsOf, IsFor, result_by, rows_told}
use Rattle.sc_compute.specs.declared.evaluation.Evaluated.{Evaluated}
use Rattle.sc_compute.specs.declared.evaluation.Evaluated.TheVariants as evaluated
use Rattle.sc_compute.specs.declared.gathered.Gathered.{Gathered}
use Rattle.sc_compute.specs.declared.gathered.Gathered.TheVariants as gathers
use Rattle.sc_compute.specs.declared.results.TaskResult.{TaskResult}

-- each has what the action needs
pub are_for : (action : ActionData) (rows : List (List Datum))
    → All (IsFor action) (map (result_by action) rows)
are_for action [] = All-nil (IsFor action)
are_for action (r ∷ rows) =
    All-cons (IsFor action) (result_by action r) (map (result_by action) rows) (is action)
    (are_for action rows)
  where
    is : (a : ActionData) → IsFor a (result_by a r)
    is (collect_action node) = tt
    is (count_action node) = tt
    is (reduce_action node e) = tt
    is (save_action node dir) = tt

pub all_for : (work : WorkData) (action : ActionData) (results : List TaskResult)
    → AreResultsOf work action results → All (IsFor action) results
all_for work action results are =
    subst (All (IsFor action)) (sym are.told) (are_for action are.rows)

-- those of a collect are the rows
pub collected_rows : (node : ℕ) (rows : List (List Datum))
    → map rows_told (map (result_by (collect_action node)) rows) ≡ rows
collected_rows node [] = refl
collected_rows node (r ∷ rows) = ap (λ more. r ∷ more) (collected_rows node rows)

reduced_rows : (node : ℕ) (e : ExprData) (rows : List (List Datum))
    → map rows_told (map (result_by (reduce_action node e)) rows) ≡ rows
reduced_rows node e [] = refl
reduced_rows node e (r ∷ rows) = ap (λ more. r ∷ more) (reduced_rows node e rows)

count_tells : (node : ℕ) (rows : List (List Datum))
    → length (rows_together (map rows_told (map (result_by (count_action node)) rows)))
    ≡ length (rows_together rows)
count_tells node [] = refl
count_tells node (r ∷ rows) =
    length-append (replicate (length r) (group no_items))
    (rows_together (map rows_told (map (result_by (count_action node)) rows)))
    ∙ ap₂ (λ a b. a + b) (length-replicate (length r) (group no_items)) (count_tells node rows)
    ∙ sym (length-append r (rows_together rows))

-- what settles a save, whatever its parts hold
saved_settles : (node : ℕ) (dir : Path) (rows others : List (List Datum)) (e : Evaluated)
    → Settles (outcome_of_rows (save_action node dir) others) e
    → Settles (outcome_of_rows (save_action node dir) rows) e
saved_settles node dir rows others (evaluated.Prints text) settles = absurd cc
saved_settles node dir rows others evaluated.Saves settles = (dir, map printed_lines rows, refl)
saved_settles node dir rows others (evaluated.Faults fault) settles = absurd cc
saved_settles node dir rows others (evaluated.Never p) settles = settles

-- where nothing is gathered, for the rows stand in parts, the action is a save
pub saves_settle : (action : ActionData) (rows : List (List Datum)) (all : List Datum)
    → IsGathered action gathers.Saves all → Settles (outcome_of_rows action rows) evaluated.Saves
saves_settle (collect_action node) rows all is = absurd is
saves_settle (count_action node) rows all is = absurd is
saves_settle (reduce_action node e) rows all is = absurd is
saves_settle (save_action node dir) rows all is = (dir, map printed_lines rows, refl)

-- what settles what the results of an action tell settles what the action makes of the rows
pub settles_told : (action : ActionData) (rows : List (List Datum)) (e : Evaluated)
    → Settles (outcome_of_rows action (map rows_told (map (result_by action) rows))) e
    → Settles (outcome_of_rows action rows) e
settles_told (collect_action node) rows e =
    subst (λ rs. Settles (outcome_of_rows (collect_action node) rs) e) (collected_rows node rows)
settles_told (count_action node) rows e =
    subst (λ n. Settles (prints (decimal n ++ 10 ∷ [])) e) (count_tells node rows)
settles_told (reduce_action node f) rows e =
    subst (λ rs. Settles (outcome_of_rows (reduce_action node f) rs) e) (reduced_rows node f rows)
settles_told (save_action node dir) rows e =
    saved_settles node dir rows (map rows_told (map (result_by (save_action node dir)) rows)) e

-- the rows that results tell, together
tell_together : (results : List TaskResult)
    → flat_map rows_told results ≡ rows_together (map rows_told results)
tell_together [] = refl
tell_together (r ∷ results) = ap (λ more. rows_told r ++ more) (tell_together results)

-- what is gathered of the results of an action settles what it makes of the rows
pub gathered_settles : (action : ActionData) (results : List TaskResult) (rows : List (List Datum))
    (gathered : Gathered) (given : Result Evaluated AllocError)
    → results ≡ map (result_by action) rows
    → IsGathered action gathered (flat_map rows_told results)
    → ((rows : List (List Datum)) → IsGathered action gathered (rows_together rows)
    → IfOk given (Settles (outcome_of_rows action rows)))
    → IfOk given (Settles (outcome_of_rows action rows))
gathered_settles action results rows gathered given are is settles =
    IfOk-weaker given _ _ (settles_told action rows)
    (subst (λ rs. IfOk given (Settles (outcome_of_rows action (map rows_told rs)))) are
    (settles (map rows_told results)
    (subst (IsGathered action gathered) (tell_together results) is)))
