use Rattle.std.proofs.Common.{◌∙◌, All, sym, subst}
use Rattle.std.proofs.lemmas.List.Elements.{All-nil}
use Rattle.sc_compute.specs.Caching.{IsOwnPart}
use Rattle.sc_compute.proofs.targets.compute.Goals as goal

pub compute_cached-requires-clause-known : goal.compute_cached-requires-clause-known
compute_cached-requires-clause-known c =
    let work = c.args.work.now in
    subst (All (IsOwnPart work)) (sym (c.deref.ensures.value ∙ c.new-none.ensures.items))
    (All-nil (IsOwnPart work))
