use Rattle.std.proofs.Common.{sym, subst}
use Rattle.sc_compute.specs.Asking.{place_taken}
use Rattle.sc_compute.specs.Needs.{AreFresh, places_in, places_noted}
use Rattle.sc_compute.specs.Tasks.{target_data_of}
use Rattle.sc_compute.proofs.NeedsLemmas.{fresh_from_none}
use Rattle.sc_compute.proofs.targets.compute_cached.Goals as goal

pub returns-clause-fresh : goal.returns-clause-fresh
returns-clause-fresh c =
    let work = c.args.work.now in
    let at = place_taken work (target_data_of c.args.target) in
    let after = c.left_by.new.caching in
    subst (λ parts. AreFresh work (places_in c.args.known.now) at (places_in parts))
    (sym c.fresh.ensures.noted)
    (subst (λ parts. AreFresh work (places_in parts) at (places_noted after))
    c.new-caching.ensures.known
    (fresh_from_none work at c.new-caching.result after c.new-caching.ensures.none
    c.in_ok-computed.ensures.notes))
