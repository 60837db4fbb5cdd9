use Rattle.std.proofs.Common.{◌∙◌, ap, map, sym}
use Rattle.std.proofs.lemmas.Result.{IfOk-weaker}
use Rattle.sc_value.specs.Printing.{printed}
use Rattle.sc_columns.specs.Columns.{rows_in}
use Rattle.sc_columns.proofs.PrintLemmas.{printed-texts}
use Rattle.sc_columns.proofs.VariantLemmas.{at-Texts}
use Rattle.sc_columns.proofs.rows.Rows.printed_rows.Goals as goal

pub returns-in-Texts : goal.returns-in-Texts
returns-in-Texts c =
    let are = sym c.column.ensures ∙ ap rows_in (sym c.deref.ensures)
    ∙ at-Texts c.deref.result.now c.in-Texts.t c.in-Texts.is in
    IfOk-weaker c.share.result _ _
    (λ t is. is ∙ sym (printed-texts c.in-Texts.t) ∙ ap (map printed) (sym are)) c.share.ensures
