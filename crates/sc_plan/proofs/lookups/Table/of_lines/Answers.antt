use Rattle.std.proofs.Common.{rules, ◌∙◌, ap, subst}
use Rattle.std.proofs.lemmas.Cmp.{nat_cmp_total}
use Rattle.std.proofs.lemmas.List.Sorted.{answers_always, ranks_by}
use Rattle.std.specs.Cmp.{IsStrictWeakOrder}
use Rattle.std.specs.List.Sorted.{IsSortedBy}
use Rattle.sc_part.specs.Sorts.{sorted}
use Rattle.sc_plan.proofs.TableLemmas.{by_keys, is_lower_by, sorted_by_keys}
use Rattle.sc_plan.specs.Lookups.{is_lower}
use Rattle.sc_plan.specs.declared.lookups.Entry.{Entry}
use Rattle.sc_plan.proofs.lookups.Table.of_lines.Goals as goal

pub invariant_of-result : goal.invariant_of-result
invariant_of-result c =
    let o : IsStrictWeakOrder by_keys = ranks_by nat_cmp_total (λ (e : Entry). e.key) in
    subst (λ lt. IsSortedBy lt c.sort_by.new.self.items) is_lower_by
    (c.in_ok-sort_by.ensures.sorted by_keys o
    (answers_always _ _ _ (λ f a r q k. search rules)))

pub returns : goal.returns
returns c =
    let o : IsStrictWeakOrder by_keys = ranks_by nat_cmp_total (λ (e : Entry). e.key) in
    let up = c.in_ok-sort_by.ensures.sorted by_keys o
    (answers_always _ _ _ (λ f a r q k. search rules)) in
    let stable = c.sort_by.ensures.stable by_keys o
    (answers_always _ _ _ (λ f a r q k. search rules)) in
    sorted_by_keys _ _ o up stable ∙ ap (sorted is_lower) c.in_ok-entries.ensures
