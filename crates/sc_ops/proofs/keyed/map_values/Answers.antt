use Rattle.std.proofs.Common.{◌∙◌, ap}
use Rattle.sc_value.specs.Datum.{pair}
use Rattle.sc_columns.specs.Columns.{zip_with}
use Rattle.sc_expr.specs.Heads.{second_of}
use Rattle.sc_expr.specs.Views.{expr_data_of}
use Rattle.sc_lineage.specs.Narrow.{at_row, given_of}
use Rattle.sc_lineage.specs.declared.nodes.Elementwise.TheVariants.{MapValues}
use Rattle.sc_ops.proofs.KindLemmas.{each_gives-values, given-map_values}
use Rattle.sc_ops.proofs.keyed.map_values.Goals as goal

pub returns : goal.returns
returns c =
    let batch = c.args.batch.now in
    let values = c.in_ok-values.values in
    each_gives-values (given_of MapValues) (at_row (expr_data_of c.args.expr.now)) second_of batch
    c.in_ok-both.both.second c.in_ok-pairs.field-0 c.args.end values
    c.in_ok-both.ensures.second c.in_ok-values.ensures
    (c.in_ok-pairs.ensures ∙ ap (λ ks. zip_with pair ks values.rows) c.in_ok-both.ensures.first
    ∙ given-map_values batch values.rows)
