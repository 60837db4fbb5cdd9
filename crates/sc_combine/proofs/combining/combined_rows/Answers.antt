use Rattle.std.proofs.Common.{◌∙◌, [], List, Ok, map, ap, sym, Vec, Global}
use Rattle.std.proofs.lemmas.Result.{err_from_is_err_and}
use Rattle.sc_expr.specs.Views.{expr_data_of}
use Rattle.sc_lineage.specs.Keyed.{combined as combined_of}
use Rattle.sc_value.specs.Datum.{Datum}
use Rattle.sc_value.specs.Views.{datum_of}
use Rattle.sc_value.specs.declared.values.Value.{Value}
use Rattle.sc_combine.specs.Combining.{folded_by, step_of}
use Rattle.sc_combine.specs.declared.combining.Taken.TheVariants.{Rows}
use Rattle.sc_combine.proofs.RowLemmas.{combined_by_rows}
use Rattle.sc_combine.proofs.FoldLemmas.{Answers-refused}
use Rattle.sc_combine.proofs.combining.combined_rows.Goals as goal

pub returns-in_err-kept : goal.returns-in_err-kept
returns-in_err-kept c =
    let e = expr_data_of c.args.expr.now in
    let rows = c.args.rows.now in
    let step = step_of Rows e in
    let groups = c.in_ok-groups.ensures rows c.in_ok-both.ensures.first in
    let numbers = c.deref.ensures.value ∙ groups.numbers in
    let p = err_from_is_err_and c.from_residual-in_err-kept.result
    c.from_residual-in_err-kept.ensures.1 in
    rw (p.1, p.2)
    (Answers-refused {Y = List Datum} (λ (v : Vec Value Global). map datum_of v.items) (λ r. r)
    (folded_by step [] c.deref.result.now rows) (combined_of e rows) c.in_err-kept.field-0.0
    (λ r is. combined_by_rows e rows ∙ ap (λ ns. folded_by step [] ns rows) (sym numbers) ∙ is)
    c.in_err-kept.ensures)

pub returns : goal.returns
returns c =
    let e = expr_data_of c.args.expr.now in
    let rows = c.args.rows.now in
    let groups = c.in_ok-groups.ensures rows c.in_ok-both.ensures.first in
    let numbers = c.deref.ensures.value ∙ groups.numbers in
    combined_by_rows e rows ∙ ap (λ ns. folded_by (step_of Rows e) [] ns rows) (sym numbers)
    ∙ c.in_ok-kept.ensures
    ∙ ap Ok (sym (c.in_ok-rows_of.ensures ∙ ap (map datum_of) c.deref-2.ensures.value))
