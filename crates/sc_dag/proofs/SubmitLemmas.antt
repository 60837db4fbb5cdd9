-- What a submission leaves, by the fates that were noted.
use Rattle.std.proofs.Common.{◌≡◌, List, ap, subst, sym, ◌∙◌}
use Rattle.sc_ids.specs.declared.limits.Limits.{Limits}
use Rattle.sc_tracker.specs.TrackerData.{TrackerData}
use Rattle.sc_dag.specs.DagData.{dag_data}
use Rattle.sc_dag.specs.Rows.{AreFates, RowData, SuitFates, dag_of, is_looked_at, is_submitted, outlook, stages_of, states_of}
use Rattle.sc_dag.specs.Submission.{IsSubmitted, by_number, moved_if}
use Rattle.sc_dag.specs.declared.fates.Fate.{Fate}
use Rattle.sc_dag.specs.declared.fates.Submitted.{Submitted}
use Rattle.sc_dag.proofs.FateLemmas.{looked_by_fates, suit_by_fates}

-- the fates that were noted are those of the stages, whatever the limits
fates_told :
    (rows seen : List RowData) (t : TrackerData) (limits : Limits) (submitted : Submitted)
    (fates told : List Fate) → seen ≡ rows → told ≡ fates
    → AreFates (outlook seen t) (is_submitted submitted (outlook seen t)) fates
    → AreFates (dag_of rows t limits) (is_submitted submitted (dag_of rows t limits)) told
fates_told rows seen t limits submitted fates told e f are =
    subst (λ fs. AreFates (outlook rows t) (is_submitted submitted (outlook rows t)) fs) (sym f)
    (subst (λ rs. AreFates (outlook rs t) (is_submitted submitted (outlook rs t)) fates) e are)

pub told_suit :
    (rows seen : List RowData) (t : TrackerData) (limits : Limits) (submitted : Submitted)
    (fates told : List Fate) → seen ≡ rows → told ≡ fates
    → AreFates (outlook seen t) (is_submitted submitted (outlook seen t)) fates
    → SuitFates (dag_of rows t limits) told
told_suit rows seen t limits submitted fates told e f are =
    suit_by_fates (dag_of rows t limits) (is_submitted submitted (dag_of rows t limits)) told
    (fates_told rows seen t limits submitted fates told e f are)

pub told_submitted :
    (rows seen after : List RowData) (t : TrackerData) (limits : Limits) (submitted : Submitted)
    (fates told : List Fate) → seen ≡ rows → told ≡ fates
    → AreFates (outlook seen t) (is_submitted submitted (outlook seen t)) fates
    → states_of after
    ≡ by_number (moved_if (dag_of rows t limits) (is_looked_at told)) 0 (states_of rows)
    → stages_of after ≡ stages_of rows
    → IsSubmitted (dag_of rows t limits) (is_submitted submitted (dag_of rows t limits))
    (dag_of after t limits)
told_submitted rows seen after t limits submitted fates told e f are states stages = (
  is_looked_at told,
  looked_by_fates (dag_of rows t limits) (is_submitted submitted (dag_of rows t limits)) told
      (fates_told rows seen t limits submitted fates told e f are),
  ap (λ ss. dag_data ss (states_of after) t limits) stages
      ∙ ap (λ ss. dag_data (stages_of rows) ss t limits) states,
)
