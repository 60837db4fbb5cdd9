use Rattle.std.proofs.Common.{◌∙◌, ◌<◌, length, ap, subst, sym}
use Rattle.std.proofs.lemmas.List.{length-map}
use Rattle.std.specs.List.{All}
use Rattle.sc_expr.specs.Heads.{second_of}
use Rattle.sc_combine.proofs.GroupLemmas.{grouped_is, length-groups, values_are}
use Rattle.sc_combine.proofs.grouping.grouped.Goals as goal

pub of-requires-clause-level : goal.of-requires-clause-level
of-requires-clause-level c =
    let rows = c.args.rows.now in
    let groups = c.in_ok-groups.ensures rows c.in_ok-both.ensures.first in
    ap length c.deref.ensures.value
    ∙ length-groups rows c.in_ok-groups.groups.numbers.items groups.numbers
    ∙ sym (ap length c.in_ok-both.ensures.second ∙ length-map rows second_of)

pub of-requires-clause-below : goal.of-requires-clause-below
of-requires-clause-below c =
    let groups = c.in_ok-groups.ensures c.args.rows.now c.in_ok-both.ensures.first in
    subst (All (λ n. n < c.in_ok-groups.groups.count)) (sym c.deref.ensures.value) groups.below

pub returns : goal.returns
returns c =
    let rows = c.args.rows.now in
    let groups = c.in_ok-groups.ensures rows c.in_ok-both.ensures.first in
    c.in_ok-rows.ensures
    ∙ grouped_is rows c.in_ok-groups.groups.keys c.in_ok-lists.lists c.in_ok-side.side groups.keys
    c.in_ok-lists.ensures
    (c.in_ok-side.ensures
    ∙ values_are rows rows c.in_ok-both.both.second c.deref.result.now c.in_ok-groups.groups.count
    c.in_ok-both.ensures.second (c.deref.ensures.value ∙ groups.numbers) groups.count)
