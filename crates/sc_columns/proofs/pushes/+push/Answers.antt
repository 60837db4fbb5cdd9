use Rattle.std.proofs.Common.{◌∙◌, ◌++◌, [], ◌∷◌, ap, cond, length, map, refl, sym}
use Rattle.std.proofs.lemmas.List.{map_push}
use Rattle.sc_value.specs.Datum.{pair}
use Rattle.sc_value.specs.Views.{datum_of}
use Rattle.sc_value.proofs.ViewLemmas.{datum_of-Pair}
use Rattle.sc_columns.specs.Columns.{zip_with}
use Rattle.sc_columns.specs.Runs.{is_yes, run_rows}
use Rattle.sc_columns.proofs.JoinLemmas.{pairs_extended}
use Rattle.sc_columns.proofs.RunLemmas.{run-Pairs, run-Values}
use Rattle.sc_columns.proofs.pushes.+push.Goals as goal

pub returns-then-done : goal.returns-then-done
returns-then-done t c =
    let first = run_rows c.in-Pairs.first.value in
    let second = run_rows c.in-Pairs.second.value in
    let a = datum_of c.in-Pair.a.value ∷ [] in
    let b = datum_of c.in-Pair.b.value ∷ [] in
    let rows = run_rows c.args.run.now in
    let more = datum_of c.args.value.now ∷ [] in
    let done = is_yes c.push-then-done.result in
    let rows_are = sym (c.in_ok-begin.ensures ∙ c.in_ok-settle.ensures)
    ∙ run-Pairs c.begin.new.run c.in-Pairs.first c.in-Pairs.second c.in-Pairs.is in
    let more_are = ap (λ d. d ∷ [])
    (ap datum_of c.in-Pair.is ∙ datum_of-Pair c.in-Pair.a c.in-Pair.b) in
    let level = ap (λ x. length (run_rows x)) (sym c.deref.ensures)
    ∙ c.if-not-is_level.ensures refl ∙ ap (λ x. length (run_rows x)) c.deref-in-Pair.ensures in
    let first_grown = c.in-Ok.ensures
    ∙ ap (λ d. cond d (run_rows c.deref_mut.result.now ++ datum_of c.deref-in-Pair-2.result.now ∷
    [])
    (run_rows c.deref_mut.result.now)) c.if-done.true
    ∙ ap (λ x. run_rows x ++ datum_of c.deref-in-Pair-2.result.now ∷ []) c.deref_mut.ensures.value
    ∙ ap (λ v. first ++ datum_of v ∷ []) c.deref-in-Pair-2.ensures in
    let second_grown = c.push-then-done.ensures
    ∙ ap (λ x. cond done (run_rows x ++ datum_of c.deref-then-done.result.now ∷ []) (run_rows x))
    c.deref_mut-then-done.ensures.value
    ∙ ap (λ v. cond done (second ++ datum_of v ∷ []) second) c.deref-then-done.ensures in
    run-Pairs _ _ _ refl
    ∙ pairs_extended first second (run_rows c.push.new.run) (run_rows c.push-then-done.new.run)
    a b rows more done rows_are more_are level first_grown second_grown

pub returns-else-done : goal.returns-else-done
returns-else-done t c =
    let second = run_rows c.in-Pairs.second.value in
    let rows_are = sym (c.in_ok-begin.ensures ∙ c.in_ok-settle.ensures)
    ∙ run-Pairs c.begin.new.run c.in-Pairs.first c.in-Pairs.second c.in-Pairs.is in
    run-Pairs _ _ _ refl
    ∙ ap (λ x. zip_with pair x second)
    (c.in-Ok.ensures
    ∙ ap (λ d. cond d (run_rows c.deref_mut.result.now ++ datum_of c.deref-in-Pair-2.result.now ∷
    [])
    (run_rows c.deref_mut.result.now)) c.if-done.false
    ∙ ap run_rows c.deref_mut.ensures.value)
    ∙ sym rows_are

pub returns-in-Err : goal.returns-in-Err
returns-in-Err t c =
    let second = run_rows c.in-Pairs.second.value in
    let rows_are = sym (c.in_ok-begin.ensures ∙ c.in_ok-settle.ensures)
    ∙ run-Pairs c.begin.new.run c.in-Pairs.first c.in-Pairs.second c.in-Pairs.is in
    run-Pairs _ _ _ refl
    ∙ ap (λ x. zip_with pair x second) (c.in-Err.ensures ∙ ap run_rows c.deref_mut.ensures.value)
    ∙ sym rows_are

pub returns-in_ok-push-in-Values : goal.returns-in_ok-push-in-Values
returns-in_ok-push-in-Values t c =
    let rows_are = sym (c.in_ok-begin.ensures ∙ c.in_ok-settle.ensures)
    ∙ run-Values c.begin.new.run c.in-Values.out c.in-Values.is in
    run-Values _ c.push-in-Values.new.self refl
    ∙ ap (map datum_of) c.in_ok-push-in-Values.ensures.items
    ∙ map_push datum_of c.in-Values.out.items c.in_ok-copy-in-Values.field-0
    ∙ ap (λ r. r ++ datum_of c.in_ok-copy-in-Values.field-0 ∷ []) (sym rows_are)
    ∙ ap (λ d. run_rows c.args.run.now ++ d ∷ []) c.in_ok-copy-in-Values.ensures
