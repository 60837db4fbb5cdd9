use Rattle.std.proofs.Common.{◌∙◌, ap, map}
use Rattle.std.proofs.lemmas.Result.{IfOk-weaker}
use Rattle.sc_value.specs.Datum.{number}
use Rattle.sc_columns.specs.Parts.{AreLists}
use Rattle.sc_batch.specs.Lists.{span_sum}
use Rattle.sc_batch.proofs.ListLemmas.{each-sum}
use Rattle.sc_batch.proofs.ZipLemmas.{fact_of_some}
use Rattle.sc_batch.proofs.lists.sums.Goals as goal

pub returns-in-Some-as_ints : goal.returns-in-Some-as_ints
returns-in-Some-as_ints c =
    let rows = c.args.rows.now in
    let lists = c.in-Some.lists in
    let ns = c.in-Some-as_ints.items.now in
    let are = fact_of_some (AreLists rows) c.in_ok-lists.field-0 lists c.in-Some.is
    c.in_ok-lists.ensures in
    IfOk-weaker c.span_sums.result _ _ (λ s is. is
    ∙ ap (λ ss. record { rows = map number (map (span_sum ns) ss); raise = c.args.end })
    c.as_slice.ensures
    ∙ each-sum ns rows lists c.args.end are c.in-Some-as_ints.ensures) c.span_sums.ensures
