use Rattle.std.proofs.Common.{◌∙◌, length, slice_get, ap, arith}
use Rattle.sc_base.specs.Answers.{Answers}
use Rattle.sc_value.specs.Views.{datum_of}
use Rattle.sc_expr.specs.Views.{expr_data_of}
use Rattle.sc_lineage.specs.Narrow.{at_row}
use Rattle.sc_batch.specs.Outcomes.{of_one, of_two, outcomes_at}
use Rattle.sc_columns.proofs.ListLemmas.{length-zip_with, slice_get-zip_with}
use Rattle.sc_batch.proofs.ZipLemmas.{at-map, some_fact}
use Rattle.sc_batch.proofs.by_rows.AtRows.at.Goals as goal

pub row-requires-in-Two : goal.row-requires-in-Two
row-requires-in-Two c =
    omega (
      arith,
      c.requires,
      ap (λ w. length (outcomes_at w)) c.in-Two.is,
      length-zip_with (of_two c.in-Two.head) c.in-Two.first.now c.in-Two.second.now,
    )

pub row-requires-in-Two-2 : goal.row-requires-in-Two-2
row-requires-in-Two-2 c =
    omega (
      arith,
      c.requires,
      ap (λ w. length (outcomes_at w)) c.in-Two.is,
      length-zip_with (of_two c.in-Two.head) c.in-Two.first.now c.in-Two.second.now,
    )

pub returns-in_ok-row-in-Expr : goal.returns-in_ok-row-in-Expr
returns-in_ok-row-in-Expr c =
    let f = at_row (expr_data_of c.in-Expr.expr.now) in
    let d = datum_of c.in_ok-row-in-Expr.row in
    some_fact (Answers datum_of (λ r. r) c.eval.result) _ (f d)
    (ap (λ w. slice_get (outcomes_at w) c.args.i) c.in-Expr.is
    ∙ at-map f c.in-Expr.rows.now c.args.i d c.in_ok-row-in-Expr.ensures) c.eval.ensures

pub returns-in_ok-row-in-One : goal.returns-in_ok-row-in-One
returns-in_ok-row-in-One c =
    let f = of_one c.in-One.head in
    let d = datum_of c.in_ok-row-in-One.field-0 in
    some_fact (Answers datum_of (λ r. r) c.apply.result) _ (f d)
    (ap (λ w. slice_get (outcomes_at w) c.args.i) c.in-One.is
    ∙ at-map f c.in-One.rows.now c.args.i d c.in_ok-row-in-One.ensures) c.apply.ensures

pub returns-in_ok-b-in-Two : goal.returns-in_ok-b-in-Two
returns-in_ok-b-in-Two c =
    let f = of_two c.in-Two.head in
    let a = datum_of c.in_ok-a-in-Two.a in
    let b = datum_of c.in_ok-b-in-Two.b in
    some_fact (Answers datum_of (λ r. r) c.apply-in-Two.result) _ (f a b)
    (ap (λ w. slice_get (outcomes_at w) c.args.i) c.in-Two.is
    ∙ slice_get-zip_with f c.in-Two.first.now c.in-Two.second.now c.args.i a b
    c.in_ok-a-in-Two.ensures c.in_ok-b-in-Two.ensures) c.apply-in-Two.ensures
