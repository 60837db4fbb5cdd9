use Rattle.std.proofs.Common.{◌∙◌, ◌++◌, ap, cond, false, length, refl, slice_range, sym}
use Rattle.sc_value.specs.Datum.{pair}
use Rattle.sc_columns.specs.Columns.{rows_in, zip_with}
use Rattle.sc_columns.specs.Runs.{is_yes, run_rows}
use Rattle.sc_columns.proofs.JoinLemmas.{pairs_extended}
use Rattle.sc_columns.proofs.RangeLemmas.{part-zip_with}
use Rattle.sc_columns.proofs.RunLemmas.{run-Pairs}
use Rattle.sc_columns.proofs.VariantLemmas.{at-Pairs}
use Rattle.sc_columns.proofs.ranges.+extend_range.Goals as goal

pub returns-then-done : goal.returns-then-done
returns-then-done t c =
    let from = c.args.from in
    let to = c.args.to in
    let first = run_rows c.in-Pairs.first.value in
    let second = run_rows c.in-Pairs.second.value in
    let a = slice_range (rows_in c.in-Pairs-column.a.value) from to in
    let b = slice_range (rows_in c.in-Pairs-column.b.value) from to in
    let rows_are = run-Pairs c.args.run.now c.in-Pairs.first c.in-Pairs.second c.in-Pairs.is in
    let more_are = sym (part-zip_with pair (rows_in c.in-Pairs-column.a.value) a
    (rows_in c.in-Pairs-column.b.value) b (rows_in c.args.column.now) from to
    (at-Pairs c.args.column.now c.in-Pairs-column.a c.in-Pairs-column.b c.in-Pairs-column.is)
    refl refl) in
    let level = ap (λ x. length (run_rows x)) (sym c.deref.ensures)
    ∙ c.if-not-is_level.ensures refl ∙ ap (λ x. length (run_rows x))
    c.deref-in-Pairs-column.ensures in
    let part_is = ap (λ x. slice_range (rows_in x) from to) c.deref-in-Pairs-column-2.ensures in
    let grown = c.in-Ok.ensures
    ∙ ap (λ d. cond d (run_rows c.deref_mut.result.now
    ++ slice_range (rows_in c.deref-in-Pairs-column-2.result.now) from to)
    (run_rows c.deref_mut.result.now))
    c.if-done.true
    ∙ ap (λ x. run_rows x
    ++ slice_range (rows_in c.deref-in-Pairs-column-2.result.now) from to) c.deref_mut.ensures.value
    ∙ ap (λ x. first ++ x) part_is in
    run-Pairs _ _ _ refl
    ∙ pairs_extended first second (run_rows c.extend_range.new.run)
    (run_rows c.extend_range-then-done.new.run)
    a b (run_rows c.args.run.now) (slice_range (rows_in c.args.column.now) from to)
    (is_yes c.extend_range-then-done.result) rows_are more_are level grown
    (c.extend_range-then-done.ensures
    ∙ ap (λ x. cond (is_yes c.extend_range-then-done.result) (run_rows x
    ++ slice_range (rows_in c.deref-then-done.result.now) from to) (run_rows x))
    c.deref_mut-then-done.ensures.value
    ∙ ap (λ x. cond (is_yes c.extend_range-then-done.result) (second ++ x) second)
    (ap (λ x. slice_range (rows_in x) from to) c.deref-then-done.ensures))

pub returns-else-done : goal.returns-else-done
returns-else-done t c =
    let second = run_rows c.in-Pairs.second.value in
    let part = slice_range (rows_in c.deref-in-Pairs-column-2.result.now) c.args.from c.args.to in
    run-Pairs _ _ _ refl
    ∙ ap (λ x. zip_with pair x second)
    (c.in-Ok.ensures
    ∙ ap (λ d. cond d (run_rows c.deref_mut.result.now ++ part) (run_rows c.deref_mut.result.now))
    c.if-done.false
    ∙ ap run_rows c.deref_mut.ensures.value)
    ∙ sym (run-Pairs c.args.run.now c.in-Pairs.first c.in-Pairs.second c.in-Pairs.is)

pub returns-in-Err : goal.returns-in-Err
returns-in-Err t c =
    let second = run_rows c.in-Pairs.second.value in
    run-Pairs _ _ _ refl
    ∙ ap (λ x. zip_with pair x second)
    (c.in-Err.ensures ∙ ap run_rows c.deref_mut.ensures.value)
    ∙ sym (run-Pairs c.args.run.now c.in-Pairs.first c.in-Pairs.second c.in-Pairs.is)
