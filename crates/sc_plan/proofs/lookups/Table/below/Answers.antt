use Rattle.std.proofs.Common.{rules, ◌∙◌, Bool, ap, sym, subst, arith, filter, length}
use Rattle.std.specs.List.Sorted.{IsSortedBy}
use Rattle.std.specs.Prelude.{nat_lt}
use Rattle.std.proofs.lemmas.List.Sorted.{IsPartitionPoint-from_clause}
use Rattle.sc_plan.proofs.FilterLemmas.{passing}
use Rattle.sc_plan.proofs.TableLemmas.{parted}
use Rattle.sc_plan.specs.Lookups.{is_lower}
use Rattle.sc_plan.specs.declared.lookups.Entry.{Entry}
use Rattle.sc_plan.proofs.lookups.Table.below.Goals as goal

pub returns-clause-count : goal.returns-clause-count
returns-clause-count c =
    let es = c.as_slice-entries.result.now in
    let up : IsSortedBy is_lower es =
    subst (IsSortedBy is_lower) (sym c.as_slice-entries.ensures.value) c.self.invariant in
    let low : Entry → Bool = λ e. nat_lt e.key c.args.key in
    let p = IsPartitionPoint-from_clause low _ _ c.partition_point.ensures.partitioned
    (parted es c.args.key up) (λ a r q k. search rules) in
    passing low es c.partition_point.result c.partition_point.ensures.bound
    (λ k d h. p.0 k d (omega arith) h) (λ k d g h. p.1 k d g h)
    ∙ ap (λ xs. length (filter low xs)) (c.as_slice-entries.ensures.value ∙ c.self.view_is)
