use Rattle.std.proofs.Common.{◌∙◌, ◌++◌, ap, cond, false, length, refl, sym}
use Rattle.std.specs.Arc.{arc_value}
use Rattle.sc_value.specs.Datum.{pair}
use Rattle.sc_columns.specs.Columns.{rows_in, zip_with}
use Rattle.sc_columns.specs.Runs.{is_yes, run_rows}
use Rattle.sc_columns.proofs.JoinLemmas.{pairs_extended}
use Rattle.sc_columns.proofs.RunLemmas.{run-Pairs}
use Rattle.sc_columns.proofs.VariantLemmas.{at-Pairs}
use Rattle.sc_columns.proofs.joins.+extend.Goals as goal

pub returns-then-done : goal.returns-then-done
returns-then-done t c =
    let column = rows_in (arc_value c.args.column.now) in
    let first = run_rows c.in-Pairs.first.value in
    let second = run_rows c.in-Pairs.second.value in
    let a = rows_in c.in-Pairs-deref.a.value in
    let b = rows_in c.in-Pairs-deref.b.value in
    let rows_are = sym (c.in_ok-settle.ensures ∙ c.in_ok-merges.ensures
    ∙ ap (λ d. cond d (run_rows c.args.run.now ++ rows_in c.deref.result.now)
    (run_rows c.args.run.now)) c.if-branch.false)
    ∙ run-Pairs c.settle.new.run c.in-Pairs.first c.in-Pairs.second c.in-Pairs.is in
    let more_are = ap rows_in (sym c.deref-in-Pairs.ensures)
    ∙ at-Pairs c.deref-in-Pairs.result.now c.in-Pairs-deref.a c.in-Pairs-deref.b c.in-Pairs-deref.is
    in
    let level = ap (λ x. length (run_rows x)) (sym c.deref-in-Pairs-deref.ensures)
    ∙ c.if-not-is_level.ensures refl ∙ ap (λ x. length (run_rows x))
    c.deref-in-Pairs-deref-2.ensures in
    let grown = c.in-Ok.ensures
    ∙ ap (λ d. cond d (run_rows c.deref_mut.result.now ++ a) (run_rows c.deref_mut.result.now))
    c.if-done.true
    ∙ ap (λ x. run_rows x ++ a) c.deref_mut.ensures.value in
    run-Pairs _ _ _ refl
    ∙ pairs_extended first second (run_rows c.extend.new.run) (run_rows c.extend-then-done.new.run)
    a b (run_rows c.args.run.now) column (is_yes c.extend-then-done.result)
    rows_are more_are level grown
    (c.extend-then-done.ensures
    ∙ ap (λ x. cond (is_yes c.extend-then-done.result) (run_rows x ++ b) (run_rows x))
    c.deref_mut-then-done.ensures.value)

pub returns-else-done : goal.returns-else-done
returns-else-done t c =
    let first = run_rows c.in-Pairs.first.value in
    let second = run_rows c.in-Pairs.second.value in
    let a = rows_in c.in-Pairs-deref.a.value in
    let rows_are = sym (c.in_ok-settle.ensures ∙ c.in_ok-merges.ensures
    ∙ ap (λ d. cond d (run_rows c.args.run.now ++ rows_in c.deref.result.now)
    (run_rows c.args.run.now))
    c.if-branch.false)
    ∙ run-Pairs c.settle.new.run c.in-Pairs.first c.in-Pairs.second c.in-Pairs.is in
    run-Pairs _ _ _ refl
    ∙ ap (λ x. zip_with pair x second)
    (c.in-Ok.ensures
    ∙ ap (λ d. cond d (run_rows c.deref_mut.result.now ++ a) (run_rows c.deref_mut.result.now))
    c.if-done.false
    ∙ ap run_rows c.deref_mut.ensures.value)
    ∙ sym rows_are

pub returns-in-Err : goal.returns-in-Err
returns-in-Err t c =
    let first = run_rows c.in-Pairs.first.value in
    let second = run_rows c.in-Pairs.second.value in
    let a = rows_in c.in-Pairs-deref.a.value in
    let rows_are = sym (c.in_ok-settle.ensures ∙ c.in_ok-merges.ensures
    ∙ ap (λ d. cond d (run_rows c.args.run.now ++ rows_in c.deref.result.now)
    (run_rows c.args.run.now))
    c.if-branch.false)
    ∙ run-Pairs c.settle.new.run c.in-Pairs.first c.in-Pairs.second c.in-Pairs.is in
    run-Pairs _ _ _ refl
    ∙ ap (λ x. zip_with pair x second)
    (c.in-Err.ensures ∙ ap run_rows c.deref_mut.ensures.value)
    ∙ sym rows_are
