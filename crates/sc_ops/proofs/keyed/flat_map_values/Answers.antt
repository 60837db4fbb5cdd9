use Rattle.std.proofs.Common.{◌∙◌, ap}
use Rattle.sc_expr.specs.Heads.{second_of}
use Rattle.sc_expr.specs.Views.{expr_data_of}
use Rattle.sc_lineage.specs.Narrow.{at_row, given_of}
use Rattle.sc_lineage.specs.declared.nodes.Elementwise.TheVariants.{FlatMapValues}
use Rattle.sc_ops.specs.Given.{numbers_times}
use Rattle.sc_ops.proofs.KindLemmas.{each_gives-values, few_values, keyed_items, places_within}
use Rattle.sc_ops.proofs.keyed.flat_map_values.Goals as goal

pub picked-requires : goal.picked-requires
picked-requires c =
    let batch = c.args.batch.now in
    let f = at_row (expr_data_of c.args.expr.now) in
    let firsts = c.in_ok-both.both.first in
    let lists = c.in_ok-lists.lists in
    places_within batch firsts lists.rows c.deref-2.result.now c.in_ok-both.ensures.first
    (few_values f second_of batch c.in_ok-both.both.second c.args.end lists
    c.in_ok-both.ensures.second c.in_ok-lists.ensures)
    (c.deref-2.ensures.value ∙ c.in_ok-places.ensures.are
    ∙ ap (numbers_times 0) (c.deref.ensures.value ∙ c.in_ok-counts.ensures))

pub returns : goal.returns
returns c =
    let batch = c.args.batch.now in
    let f = at_row (expr_data_of c.args.expr.now) in
    let firsts = c.in_ok-both.both.first in
    let seconds = c.in_ok-both.both.second in
    let lists = c.in_ok-lists.lists in
    let few = few_values f second_of batch seconds c.args.end lists c.in_ok-both.ensures.second
    c.in_ok-lists.ensures in
    each_gives-values (given_of FlatMapValues) f second_of batch seconds c.in_ok-pairs.field-0
    c.args.end lists
    c.in_ok-both.ensures.second c.in_ok-lists.ensures
    (keyed_items batch firsts lists.rows c.in_ok-keys.keys c.in_ok-items.items c.in_ok-pairs.field-0
    c.deref-2.result.now
    c.in_ok-both.ensures.first few
    (c.deref-2.ensures.value ∙ c.in_ok-places.ensures.are
    ∙ ap (numbers_times 0) (c.deref.ensures.value ∙ c.in_ok-counts.ensures))
    c.in_ok-keys.ensures c.in_ok-items.ensures c.in_ok-pairs.ensures)
