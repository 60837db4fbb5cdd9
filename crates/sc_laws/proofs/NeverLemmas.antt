-- An action has no outcome exactly where the result of some partition of its node raises.
use Rattle.std.proofs.Common.{◌≡◌, ◌∙◌, ℕ, suc, ◌+◌, ◌<◌, Bool, true, false, cond, List, [], ◌∷◌, Option, Some, None, Ok, Err, length, refl, ap, sym, arith}
use Rattle.std.proofs.lemmas.List.{length-map}
use Rattle.std.specs.List.{position_from}
use Rattle.sc_base.specs.Lists.{at_or}
use Rattle.sc_value.specs.Datum.{Datum}
use Rattle.sc_expr.specs.ExprData.{ExprData}
use Rattle.sc_expr.specs.Heads.{Outcome}
use Rattle.sc_lineage.specs.Actions.{ActionOutcome, action_outcome, folded, local_results, never, outcome_of_results, outcome_of_rows, printed_outcome, reduced, result_of, rows_of_each, rows_together, unless_never}
use Rattle.sc_lineage.specs.declared.streams.Stream.{Stream}
use Rattle.sc_lineage.specs.Meaning.{local_streams}
use Rattle.sc_lineage.specs.ScriptData.{ActionData, collect_action, count_action, reduce_action, save_action, node_of_action}
use Rattle.sc_lineage.specs.Streams.{ended_stream, raises}
use Rattle.sc_lineage.specs.Targets.{own_value, result_target}
use Rattle.sc_lineage.proofs.PlaceLemmas.{at_or-map}
use Rattle.sc_laws.specs.Spreads.{NeversAreByRaises}
use Rattle.sc_laws.proofs.AgreeLemmas.{outcomes_are_same}
use Rattle.sc_laws.proofs.OutcomeLemmas.{raised_never, results_never}
use Rattle.sc_laws.proofs.StreamLemmas.{raises_by}

-- rows give an outcome
printed_not_never : (outcome : Outcome) → printed_outcome outcome ≡ never → ⊥
printed_not_never (Ok d) is = cc
printed_not_never (Err r) is = cc

reduced_not_never : (e : ExprData) (rows : List Datum) → reduced e rows ≡ never → ⊥
reduced_not_never e [] is = cc
reduced_not_never e (d ∷ rows) is = printed_not_never (folded e d rows) is

rows_not_never : (action : ActionData) (rows : List (List Datum))
    → outcome_of_rows action rows ≡ never → ⊥
rows_not_never (collect_action node) rows is = cc
rows_not_never (count_action node) rows is = cc
rows_not_never (reduce_action node e) rows is = reduced_not_never e (rows_together rows) is
rows_not_never (save_action node dir) rows is = cc

-- a stream of some that raises
abbrev RaisesAt : List Stream → Type 0
RaisesAt streams = (p : ℕ) × (p < length streams)
    × (raises (at_or streams p (ended_stream None)) ≡ true)

-- a result that raises, where there is never an outcome
raises_at : (results : List Stream) (i : ℕ) (outcome : ActionOutcome) → (outcome ≡ never → ⊥)
    → unless_never (position_from raises i results) outcome ≡ never → RaisesAt results
raises_at [] i outcome not is = absurd (not is)
raises_at (s ∷ results) i outcome not is =
    decided (position_from raises (i + 1) results) (raises_at results (i + 1) outcome not)
    (raises s) refl is
  where
    decided : (behind : Option ℕ) → (unless_never behind outcome ≡ never → RaisesAt results)
        → (b : Bool) → raises s ≡ b → unless_never (cond b (Some i) behind) outcome ≡ never
        → RaisesAt (s ∷ results)
    decided behind more true first is = (0, omega arith, first)
    decided behind more false first is =
        let rest = more is in
        (suc rest.0, (let below = rest.1 in omega (arith, below)), rest.2)

pub nevers_by_raises : NeversAreByRaises
nevers_by_raises work action sound there = record {
  of_node = λ raised. sym same ∙ raised_never action streams raised;
  of_result = λ p within raised. sym same
      ∙ results_never action (local_results work action)
      (raises_by (local_results work action) p (result p within ∙ raised));
  only = λ is.
      let results = local_results work action in
      let some = raises_at results 0 (outcome_of_rows action (rows_of_each results))
      (rows_not_never action (rows_of_each results)) (same ∙ is) in
      let below : some.0 < length streams =
      (let found = some.1 in omega (arith, found, length-map streams (result_of action))) in
      (some.0, below, sym (result some.0 below) ∙ some.2);
}
  where
    streams : List Stream
    streams = local_streams work (node_of_action action)

    same : outcome_of_results action (local_results work action) ≡ action_outcome work action
    same = outcomes_are_same work action sound there

    result : (p : ℕ) → p < length streams
        → raises (at_or (local_results work action) p (ended_stream None))
        ≡ raises (own_value work (result_target action p))
    result p within = ap raises
        (at_or-map (result_of action) streams p (ended_stream None) (ended_stream None) within)
