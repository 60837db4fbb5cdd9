use Rattle.std.proofs.Common.{◌∙◌, ◌-◌, ap, ap₂, subst, take, drop}
use Rattle.std.specs.List.Sorted.{IsSortedBy}
use Rattle.sc_part.proofs.OrderLemmas.{asc_from_sorted}
use Rattle.sc_plan.proofs.TableLemmas.{cut_is, lower}
use Rattle.sc_plan.specs.Lookups.{is_lower}
use Rattle.sc_plan.proofs.lookups.Table.range.Goals as goal

pub returns : goal.returns
returns c =
    let es = c.args.self.now in
    let up : IsSortedBy is_lower es =
    subst (IsSortedBy is_lower) c.self.view_is c.self.invariant in
    ap (λ xs. take (c.places-start.result.1 - c.places-start.result.0)
    (drop c.places-start.result.0 xs)) (c.as_slice.ensures.value ∙ c.self.view_is)
    ∙ ap₂ (λ start end. take (end - start) (drop start es)) c.places-start.ensures.from
    c.places-start.ensures.to
    ∙ cut_is c.args.from c.args.to c.requires es (asc_from_sorted is_lower lower es up)
