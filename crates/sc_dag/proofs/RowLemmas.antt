-- Rows of stages.
use Rattle.std.proofs.Common.{◌≡◌, ℕ, ◌+◌, ◌<◌, ◌≤◌, zero, suc, Bool, true, false, Some, None, List, [], ◌∷◌, length, get_or, map, slice_get, take, refl, ap, sym, ◌∙◌, arith, rules}
use Rattle.std.specs.List.{list_all}
use Rattle.std.specs.Option.{option_map}
use Rattle.std.proofs.Math.ListN.{set}
use Rattle.std.proofs.lemmas.List.{length-map, map-set}
use Rattle.std.proofs.lemmas.Option.{slice_get-map, slice_get_past, slice_get_read}
use Rattle.sc_base.specs.Lists.{at_or}
use Rattle.sc_ids.specs.Graphs.{StageData}
use Rattle.sc_ids.specs.declared.attempts.AttemptId.{AttemptId}
use Rattle.sc_dag.specs.DagData.{DagData, StageState, newest_at, newest_set, no_stage}
use Rattle.sc_dag.specs.Losses.{without_executor}
use Rattle.sc_dag.specs.Reports.{set_of}
use Rattle.sc_dag.specs.Rows.{RowData, ready_of, row_data, row_without_executor, stages_of, states_of}

-- the state of a row that is there
pub state_there :
    (rows : List RowData) (i : ℕ) (r : RowData) → i < length rows → r ≡ get_or rows i r
    → slice_get (states_of rows) i ≡ Some r.state
state_there rows i r l e =
    slice_get-map (λ r. r.state) rows i
    ∙ ap (option_map (λ r. r.state)) (slice_get_read rows (length rows) i r refl l e)

-- there is none past the end
pub state_past : (rows : List RowData) (i : ℕ) → length rows ≤ i
    → slice_get (states_of rows) i ≡ None
state_past rows i le =
    slice_get-map (λ r. r.state) rows i
    ∙ ap (option_map (λ r. r.state)) (slice_get_past rows i le)

-- the newest task set of a stage that is there
pub newest_there : (d : DagData) (s : ℕ) (state : StageState)
    → slice_get d.states s ≡ Some state → newest_at d s ≡ newest_set state
newest_there d s state e = rw e refl

-- a stage that isn't there has no task sets
pub set_past : (d : DagData) (a : AttemptId) → slice_get d.states a.stage ≡ None
    → set_of d a ≡ None
set_past d a e = rw e refl

-- one more row has room for an attempt
pub all_more : (bs : List Bool) (k : ℕ) (b : Bool) → k < length bs → b ≡ true
    → list_all (λ b. b) (take k bs) ≡ true → list_all (λ b. b) (take (suc k) (set bs k b)) ≡ true
all_more [] k b l is all = absurd (omega (arith, l))
all_more (x ∷ xs) zero b l is all = rw is refl
all_more (x ∷ xs) (suc k) b l is all = by x (all_more xs k b (omega (arith, l)) is) all
  where
    by : (y : Bool)
        → (list_all (λ b. b) (take k xs) ≡ true
        → list_all (λ b. b) (take (suc k) (set xs k b)) ≡ true)
        → list_all (λ b. b) (y ∷ take k xs) ≡ true
        → list_all (λ b. b) (y ∷ take (suc k) (set xs k b)) ≡ true
    by true rest more = rest more
    by false rest more = absurd (search (rules, more))

-- the same of rows
pub ready_more : (rows : List RowData) (k : ℕ) (r : RowData) → k < length rows
    → r.is_ready ≡ true → list_all (λ b. b) (take k (ready_of rows)) ≡ true
    → list_all (λ b. b) (take (k + 1) (ready_of (set rows k r))) ≡ true
ready_more rows k r l is all =
    let one : k + 1 ≡ suc k = omega arith in
    rw (one, map-set (λ (q : RowData). q.is_ready) rows k r)
    (all_more (ready_of rows) k r.is_ready (rw (length-map rows (λ q. q.is_ready)) l) is all)

-- a row by its parts
pub row_is : (r : RowData) (stage : StageData) (state : StageState) (is_ready : Bool)
    → r.stage ≡ stage → r.state ≡ state → r.is_ready ≡ is_ready
    → r ≡ row_data stage state is_ready
row_is r stage state is_ready a b c =
    ap (λ s. row_data s r.state r.is_ready) a ∙ ap (λ s. row_data stage s r.is_ready) b
    ∙ ap (row_data stage state) c

-- rows whose stages were told that an executor is lost
pub lost_states : (exec : ℕ) (rows : List RowData)
    → states_of (map (row_without_executor exec) rows)
    ≡ map (without_executor exec) (states_of rows)
lost_states exec [] = refl
lost_states exec (r ∷ rows) =
    ap (λ ss. without_executor exec r.state ∷ ss) (lost_states exec rows)

pub lost_stages : (exec : ℕ) (rows : List RowData)
    → stages_of (map (row_without_executor exec) rows) ≡ stages_of rows
lost_stages exec [] = refl
lost_stages exec (r ∷ rows) = ap (λ ss. r.stage ∷ ss) (lost_stages exec rows)

pub lost_ready : (exec : ℕ) (rows : List RowData)
    → ready_of (map (row_without_executor exec) rows) ≡ ready_of rows
lost_ready exec [] = refl
lost_ready exec (r ∷ rows) = ap (λ bs. r.is_ready ∷ bs) (lost_ready exec rows)

-- the stage of a row that is there
pub stage_there :
    (rows : List RowData) (i : ℕ) (r : RowData) → i < length rows → r ≡ get_or rows i r
    → at_or (stages_of rows) i no_stage ≡ r.stage
stage_there [] i r l e = absurd (omega (arith, l))
stage_there (q ∷ rows) zero r l e = ap (λ p. p.stage) (sym e)
stage_there (q ∷ rows) (suc i) r l e = stage_there rows i r (omega (arith, l)) e
