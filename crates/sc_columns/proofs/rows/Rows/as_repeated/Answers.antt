use Rattle.std.proofs.Common.{◌∙◌, ap, length, replicate, sym}
use Rattle.std.proofs.lemmas.List.{length-replicate}
use Rattle.sc_value.specs.Views.{datum_of}
use Rattle.sc_columns.specs.Columns.{rows_in}
use Rattle.sc_columns.proofs.VariantLemmas.{at-Same}
use Rattle.sc_columns.proofs.rows.Rows.as_repeated.Goals as goal

pub returns-in-Same : goal.returns-in-Same
returns-in-Same c =
    let n = c.in-Same.field-1 in
    let d = datum_of c.in-Same.v.value in
    let are = sym c.column.ensures ∙ ap rows_in (sym c.deref.ensures)
    ∙ at-Same c.deref.result.now c.in-Same.v n c.in-Same.is in
    are ∙ ap (λ k. replicate k d) (sym (ap length are ∙ length-replicate n d))
    ∙ ap (λ v. replicate (length c.args.self.now) (datum_of v)) (sym c.deref-in-Same.ensures)
