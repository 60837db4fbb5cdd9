use Rattle.std.proofs.Common.{rules, ◌∙◌, Bool, ap, sym, subst, map, arith}
use Rattle.std.specs.List.Sorted.{IsStrictlySortedBy}
use Rattle.std.proofs.lemmas.List.Sorted.{IsPartitionPoint-from_clause}
use Rattle.sc_part.proofs.RangeLemmas.{parted, range_is}
use Rattle.sc_part.specs.Bounds.{is_before, range_of}
use Rattle.sc_value.specs.Keys.{key_order}
use Rattle.sc_value.specs.Views.{key_data_of}
use Rattle.sc_value.specs.declared.keys.Key.{Key}
use Rattle.sc_part.proofs.ranges.range_bucket.Goals as goal

pub returns-clause-value : goal.returns-clause-value
returns-clause-value c =
    let key = key_data_of c.args.key.now in
    let ordered = c.keys_are_ordered.ensures in
    let keys = c.as_slice-keys.result.now in
    let strict : IsStrictlySortedBy key_order (map key_data_of keys) =
    subst (λ ks. IsStrictlySortedBy key_order (map key_data_of ks)) (sym c.as_slice-keys.ensures)
    c.bounds.invariant.0 in
    let p : Key → Bool = λ b. is_before (key_data_of b) key in
    let point = IsPartitionPoint-from_clause p _ _ c.partition_point.ensures.partitioned
    (parted key_data_of ordered keys key strict) (λ a r q k. search rules) in
    range_is key_data_of ordered keys key strict c.partition_point.result
    c.partition_point.ensures.bound (λ k d h. point.0 k d (omega arith) h)
    (λ k d g h. point.1 k d g h)
    ∙ ap (λ bs. range_of bs key)
    (ap (map key_data_of) c.as_slice-keys.ensures ∙ c.bounds.view_is)
