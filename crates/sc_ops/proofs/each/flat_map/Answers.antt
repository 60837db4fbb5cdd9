use Rattle.std.proofs.Common.{◌∙◌, sym}
use Rattle.std.proofs.lemmas.List.{map-id}
use Rattle.sc_expr.specs.Views.{expr_data_of}
use Rattle.sc_lineage.specs.Narrow.{at_row, given_of}
use Rattle.sc_lineage.specs.declared.nodes.Elementwise.TheVariants.{FlatMap}
use Rattle.sc_ops.proofs.KindLemmas.{each_gives-values, few_values, given-flat_map}
use Rattle.sc_ops.proofs.each.flat_map.Goals as goal

pub returns : goal.returns
returns c =
    let batch = c.args.batch.now in
    let lists = c.in_ok-lists.lists in
    let f = at_row (expr_data_of c.args.expr.now) in
    each_gives-values (given_of FlatMap) f (λ d. d) batch batch c.in_ok-flat.field-0 c.args.end
    lists
    (sym (map-id batch)) c.in_ok-lists.ensures
    (c.in_ok-flat.ensures
    ∙ given-flat_map batch lists.rows
    (few_values f (λ d. d) batch batch c.args.end lists (sym (map-id batch)) c.in_ok-lists.ensures))
