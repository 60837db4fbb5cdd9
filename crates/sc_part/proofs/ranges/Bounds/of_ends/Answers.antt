use Rattle.std.proofs.Common.{rules, ◌∙◌, Bool, ap, sym, subst, map, length, arith}
use Rattle.std.specs.List.Sorted.{IsStrictlySortedBy}
use Rattle.std.proofs.lemmas.Fn.{dedup_same}
use Rattle.sc_part.proofs.BoundLemmas.{dedup-map, length-dedup, strict_once}
use Rattle.sc_part.specs.Bounds.{is_same_key}
use Rattle.sc_value.specs.Keys.{key_order}
use Rattle.sc_value.specs.Views.{key_data_of}
use Rattle.sc_value.specs.declared.keys.Key.{Key}
use Rattle.sc_part.proofs.ranges.Bounds.of_ends.Goals as goal

same : Key → Key → Bool
same a b = is_same_key (key_data_of a) (key_data_of b)

pub invariant_of-result : goal.invariant_of-result
unfolding same
invariant_of-result c =
    let ends = c.args.ends.items in
    let once = dedup_same _ same _ (λ x y b f' x' y' k. search rules) ends _
    c.dedup_by.ensures.filtered in
    let is = ap (map key_data_of) (c.in_ok-new.ensures ∙ once)
    ∙ dedup-map key_data_of is_same_key ends in
    let count = ap length (c.in_ok-new.ensures ∙ once) in
    let less = length-dedup same ends in
    let few = c.requires.few in
    let up = c.requires.in_order in
    let strict = strict_once c.keys_are_ordered.ensures (map key_data_of ends) up in
    (subst (IsStrictlySortedBy key_order) (sym is) strict, omega arith)

pub returns : goal.returns
unfolding same
returns c =
    let ends = c.args.ends.items in
    let once = dedup_same _ same _ (λ x y b f' x' y' k. search rules) ends _
    c.dedup_by.ensures.filtered in
    ap (map key_data_of) (c.in_ok-new.ensures ∙ once) ∙ dedup-map key_data_of is_same_key ends
