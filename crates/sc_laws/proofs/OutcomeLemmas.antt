-- What is computed for an action, where meanings of its node agree.
use Rattle.std.proofs.Common.{◌≡◌, ◌∙◌, ℕ, ◌+◌, Bool, true, false, ◌||◌, cond, List, [], ◌∷◌, Option, Some, None, Ok, Err, is_some, map, refl, ap, sym, true≢false}
use Rattle.std.specs.List.{list_any, position_from}
use Rattle.sc_value.specs.Datum.{Datum}
use Rattle.sc_expr.specs.ExprData.{ExprData}
use Rattle.sc_expr.specs.Heads.{Outcome}
use Rattle.sc_expr.specs.declared.exprs.Raise.{Raise}
use Rattle.sc_lineage.specs.Actions.{ActionOutcome, folded, folded_stream, never, outcome_of_results, outcome_of_rows, result_of, row_of_outcome, rows_of_each, unless_never}
use Rattle.sc_lineage.specs.declared.streams.Stream.{Stream}
use Rattle.sc_lineage.specs.ScriptData.{ActionData, collect_action, count_action, reduce_action, save_action}
use Rattle.sc_lineage.specs.Streams.{raises}
use Rattle.sc_laws.specs.Skips.{Agree}

-- a result raises where the partition does
row_raises : (outcome : Outcome) (end : Option Raise) → is_some end ≡ true
    → raises (row_of_outcome outcome end) ≡ true
row_raises (Ok d) None is = is
row_raises (Ok d) (Some r) is = refl
row_raises (Err r) end is = refl

folded_raises : (e : ExprData) (rows : List Datum) (end : Option Raise) → is_some end ≡ true
    → raises (folded_stream e rows end) ≡ true
folded_raises e [] end is = is
folded_raises e (d ∷ rows) end is = row_raises (folded e d rows) end is

result_raises : (action : ActionData) (s : Stream) → raises s ≡ true
    → raises (result_of action s) ≡ true
result_raises (collect_action node) s is = is
result_raises (count_action node) s is = is
result_raises (reduce_action node e) s is = folded_raises e s.rows s.raise is
result_raises (save_action node dir) s is = is

either_holds : (b c d e : Bool) → (b ≡ true → d ≡ true) → (c ≡ true → e ≡ true)
    → (b || c) ≡ true → (d || e) ≡ true
either_holds true c d e first second is = ap (λ x. x || e) (first refl)
either_holds false c true e first second is = refl
either_holds false c false e first second is = second is

results_raise : (action : ActionData) (streams : List Stream) → list_any raises streams ≡ true
    → list_any raises (map (result_of action) streams) ≡ true
results_raise action [] is = is
results_raise action (s ∷ streams) is =
    either_holds (raises s) (list_any raises streams) (raises (result_of action s))
    (list_any raises (map (result_of action) streams)) (result_raises action s)
    (results_raise action streams) is

-- where a result raises there is never an outcome
never_by : (b c : Bool) (i : ℕ) (rest : Option ℕ) (outcome : ActionOutcome)
    → (c ≡ true → unless_never rest outcome ≡ never) → (b || c) ≡ true
    → unless_never (cond b (Some i) rest) outcome ≡ never
never_by true c i rest outcome behind is = refl
never_by false c i rest outcome behind is = behind is

never_from : (results : List Stream) (i : ℕ) (outcome : ActionOutcome)
    → list_any raises results ≡ true
    → unless_never (position_from raises i results) outcome ≡ never
never_from [] i outcome is = absurd (true≢false (sym is))
never_from (s ∷ results) i outcome is =
    never_by (raises s) (list_any raises results) i (position_from raises (i + 1) results) outcome
    (never_from results (i + 1) outcome) is

pub results_never : (action : ActionData) (results : List Stream) → list_any raises results ≡ true
    → outcome_of_results action results ≡ never
results_never action results is =
    never_from results 0 (outcome_of_rows action (rows_of_each results)) is

pub raised_never : (action : ActionData) (streams : List Stream) → list_any raises streams ≡ true
    → outcome_of_results action (map (result_of action) streams) ≡ never
raised_never action streams is =
    results_never action (map (result_of action) streams) (results_raise action streams is)

-- two meanings that agree give one outcome
pub outcomes_agree : (action : ActionData) (sequential local : List Stream)
    → Agree sequential local
    → outcome_of_results action (map (result_of action) local)
    ≡ outcome_of_results action (map (result_of action) sequential)
outcomes_agree action sequential local agree = decided (list_any raises sequential) refl
  where
    decided : (b : Bool) → list_any raises sequential ≡ b
        → outcome_of_results action (map (result_of action) local)
        ≡ outcome_of_results action (map (result_of action) sequential)
    decided true raised =
        raised_never action local (agree.raising ∙ raised)
        ∙ sym (raised_never action sequential raised)
    decided false silent =
        ap (λ (streams : List Stream). outcome_of_results action (map (result_of action) streams))
        (agree.same silent)
