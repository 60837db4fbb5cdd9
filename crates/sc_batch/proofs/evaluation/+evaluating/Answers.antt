use Rattle.std.proofs.Common.{◌≡◌, ◌∙◌, Ok, map, not, ap, sym, false, arith, slice_range, ◌∷◌, []}
use Rattle.std.proofs.lemmas.Option.{IfSome_then}
use Rattle.std.proofs.lemmas.Result.{IfOk-weaker}
use Rattle.sc_value.specs.Kept.{kept}
use Rattle.sc_columns.proofs.VariantLemmas.{datum_of-Bool, datum_of-Text}
use Rattle.sc_expr.specs.ExprData.{exprs_of, text_expr}
use Rattle.sc_expr.specs.Heads.{head_value}
use Rattle.sc_expr.specs.Meaning.{all_values, strict_outcome}
use Rattle.sc_expr.specs.Views.{expr_data_of}
use Rattle.sc_lineage.specs.Narrow.{at_row}
use Rattle.sc_lineage.specs.Streams.{each_until_raise}
use Rattle.sc_batch.specs.Choices.{branch_outcome, merged, outcomes_in, stream_from}
use Rattle.sc_batch.specs.Made.{stream_of}
use Rattle.sc_batch.proofs.StreamLemmas.{until_raise-map}
use Rattle.sc_batch.proofs.ArgumentLemmas.{each-one, each-two, each-strict}
use Rattle.sc_batch.proofs.ChoiceLemmas.{each-chosen}
use Rattle.sc_batch.proofs.ExprLemmas.{argument-found, argument-missing, argument_outcome, expr_data_of-Text, one_of, two_of}
use Rattle.sc_batch.proofs.evaluation.+evaluating.Goals as goal

pub eval_at-returns-in-Some : goal.eval_at-returns-in-Some
eval_at-returns-in-Some t c =
    let h = c.in-Some.ensures.lookup in
    let same = ap (λ xs. argument_outcome xs c.args.at) (sym c.deref.ensures.value)
    ∙ argument-found c.deref.result.now c.args.at c.in-Some.expr.now h.3.0 h.1 in
    IfOk-weaker c.eval_stream.result _ _
    (λ s is. is ∙ ap (λ f. each_until_raise f c.args.rows.now c.args.end) (sym same))
    c.eval_stream.ensures

pub eval_at-returns-in-None : goal.eval_at-returns-in-None
eval_at-returns-in-None t c =
    let h = c.in-None.ensures.lookup in
    let same = ap (λ xs. argument_outcome xs c.args.at) (sym c.deref.ensures.value)
    ∙ argument-missing c.deref.result.now c.args.at h.3 in
    IfOk-weaker c.constant.result _ _ (λ s is. is
    ∙ ap (λ v. each_until_raise (λ _. Ok v) c.args.rows.now c.args.end) (datum_of-Bool false)
    ∙ ap (λ f. each_until_raise f c.args.rows.now c.args.end) (sym same)) c.constant.ensures

pub eval_call-returns-else-is_lazy : goal.eval_call-returns-else-is_lazy
eval_call-returns-else-is_lazy t c =
    let es = exprs_of (map expr_data_of c.args.args.now.items) in
    IfOk-weaker c.eval_strict.result _ _ (λ o found. IfSome_then o found (λ v is.
    each-strict c.args.head es c.args.rows.now c.args.end (stream_of v)
    (sym c.is_lazy.ensures ∙ c.if-is_lazy.false) is)) c.eval_strict.ensures

pub eval_chosen-returns : goal.eval_chosen-returns
eval_chosen-returns t c =
    let xs = c.args.args.now.items in
    let rest = c.in_ok-rest.rest in
    let marks = c.in_ok-marks.marks.items in
    let test = c.in_ok-test.test in
    let ays = c.in_ok-yes.yes in
    let nos = c.in_ok-no.no in
    c.of.ensures
    ∙ each-chosen (argument_outcome xs 0) (λ d. branch_outcome c.args.yes (outcomes_in xs d))
    (λ d. branch_outcome c.args.no (outcomes_in xs d)) c.args.rows.now rest
    c.in_ok-filter.field-0 c.in_ok-filter-2.field-0 marks c.in_ok-others.others.items c.args.end
    test ays nos c.in_ok-choose.field-0 c.in_ok-test.ensures
    (c.in_ok-rest.ensures ∙ ap (λ n. slice_range c.args.rows.now 0 n) c.len.ensures)
    c.in_ok-marks.ensures
    (c.in_ok-others.ensures ∙ ap (map not) c.deref.ensures.value)
    (c.in_ok-filter.ensures ∙ ap (λ m. kept m rest) c.deref-2.ensures.value)
    (c.in_ok-filter-2.ensures ∙ ap (λ m. kept m rest) c.deref-3.ensures.value)
    c.in_ok-yes.ensures c.in_ok-no.ensures
    (c.in_ok-choose.ensures ∙ ap (λ m. stream_from
    (merged m ays.rows ays.raise nos.rows nos.raise test.raise))
    c.deref-4.ensures.value)

pub eval_column-returns-in_ok-constant-in-Text : goal.eval_column-returns-in_ok-constant-in-Text
eval_column-returns-in_ok-constant-in-Text t c =
    c.of-in-Text.ensures ∙ c.in_ok-constant-in-Text.ensures
    ∙ ap (λ v. each_until_raise (λ _. Ok v) c.args.rows.now c.args.end)
    (datum_of-Text c.in_ok-copy-in-Text.field-0)
    ∙ ap (λ e. each_until_raise (at_row e) c.args.rows.now c.args.end)
    (sym (ap expr_data_of c.in-Text.is ∙ expr_data_of-Text c.in-Text.t
    ∙ ap text_expr (sym c.in_ok-copy-in-Text.ensures)))

pub eval_column-returns-in_ok-by_rows-in-None : goal.eval_column-returns-in_ok-by_rows-in-None
eval_column-returns-in_ok-by_rows-in-None t c =
    c.of-in-None.ensures ∙ c.in_ok-by_rows-in-None.ensures
    ∙ until_raise-map (at_row (expr_data_of c.args.expr.now)) c.args.rows.now c.args.end

pub eval_strict-returns-in_ok-one_column-in-len1 : goal.eval_strict-returns-in_ok-one_column-in-len1
eval_strict-returns-in_ok-one_column-in-len1 t c =
    let h = c.args.head in
    let xs = c.as_slice.result.now in
    let only = c.only-item.result in
    let one : xs ≡ only ∷ [] = one_of xs only (omega arith) c.only-item.is in
    each-one h (at_row (expr_data_of only)) c.args.rows.now c.args.end
    (stream_of c.in_ok-input-in-len1.input) (stream_of c.in_ok-one_column-in-len1.field-0)
    c.in_ok-input-in-len1.ensures c.in_ok-one_column-in-len1.ensures
    ∙ ap (λ es. each_until_raise
    (λ d. strict_outcome (head_value h) (all_values (outcomes_in es d))) c.args.rows.now c.args.end)
    (sym (sym c.as_slice.ensures.value ∙ one))

pub eval_strict-returns-in_ok-two_columns-in-len2 :
    goal.eval_strict-returns-in_ok-two_columns-in-len2
eval_strict-returns-in_ok-two_columns-in-len2 t c =
    let h = c.args.head in
    let xs = c.as_slice.result.now in
    let x = c.first-item.result in
    let y = c.second-item.result in
    let two : xs ≡ x ∷ y ∷ [] = two_of xs x y (omega arith) c.first-item.is c.second-item.is in
    each-two h (at_row (expr_data_of x)) (at_row (expr_data_of y)) c.args.rows.now
    c.in_ok-rest-in-len2.rest c.args.end (stream_of c.in_ok-first-in-len2.first)
    c.in_ok-second-in-len2.second (stream_of c.in_ok-two_columns-in-len2.field-0)
    c.in_ok-first-in-len2.ensures
    (c.in_ok-rest-in-len2.ensures ∙ ap (λ n. slice_range c.args.rows.now 0 n) c.len.ensures)
    c.in_ok-second-in-len2.ensures c.in_ok-two_columns-in-len2.ensures
    ∙ ap (λ es. each_until_raise
    (λ d. strict_outcome (head_value h) (all_values (outcomes_in es d))) c.args.rows.now c.args.end)
    (sym (sym c.as_slice.ensures.value ∙ two))
