use Rattle.std.proofs.Common.{◌∙◌, ap, map}
use Rattle.std.proofs.lemmas.Result.{IfOk-weaker}
use Rattle.sc_value.specs.Datum.{number}
use Rattle.sc_columns.specs.Parts.{AreLists}
use Rattle.sc_batch.specs.Lists.{span_len}
use Rattle.sc_batch.proofs.ListLemmas.{each-len}
use Rattle.sc_batch.proofs.ZipLemmas.{fact_of_some}
use Rattle.sc_batch.proofs.lists.lens_of_rows.Goals as goal

pub returns-in-Some : goal.returns-in-Some
returns-in-Some c =
    let rows = c.args.rows.now in
    let lists = c.in-Some.lists in
    let are = fact_of_some (AreLists rows) c.in_ok-lists.field-0 lists c.in-Some.is
    c.in_ok-lists.ensures in
    IfOk-weaker c.span_lens.result _ _ (λ s is. is
    ∙ ap (λ ss. record { rows = map number (map span_len ss); raise = c.args.end })
    c.as_slice.ensures
    ∙ each-len rows lists c.args.end are) c.span_lens.ensures
