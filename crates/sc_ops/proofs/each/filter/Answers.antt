use Rattle.std.proofs.Common.{◌∙◌, sym}
use Rattle.std.proofs.lemmas.List.{map-id}
use Rattle.sc_expr.specs.Views.{expr_data_of}
use Rattle.sc_lineage.specs.Narrow.{at_row, given_of}
use Rattle.sc_lineage.specs.declared.nodes.Elementwise.TheVariants.{Filter}
use Rattle.sc_ops.proofs.KindLemmas.{each_gives-values, given-filter}
use Rattle.sc_ops.proofs.each.filter.Goals as goal

pub returns : goal.returns
returns c =
    let batch = c.args.batch.now in
    let truths = c.in_ok-truths.truths in
    each_gives-values (given_of Filter) (at_row (expr_data_of c.args.expr.now)) (λ d. d) batch batch
    c.in_ok-kept_rows.field-0 c.args.end truths (sym (map-id batch)) c.in_ok-truths.ensures
    (c.in_ok-kept_rows.ensures ∙ given-filter batch truths.rows)
