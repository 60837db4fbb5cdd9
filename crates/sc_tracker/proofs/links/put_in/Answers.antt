use Rattle.std.proofs.Common.{arith, sym}
use Rattle.sc_ids.proofs.ChangeLemmas.{change_at_past, set_change_at}
use Rattle.sc_tracker.specs.Lists.{unlinked}
use Rattle.sc_tracker.proofs.links.put_in.Goals as goal

pub returns-then-map-len : goal.returns-then-map-len
returns-then-map-len c =
    let v = c.args.links.now in
    set_change_at v.items c.args.map unlinked (λ _. c.args.link) (omega (arith, v.ok.0))

pub returns-else-map-len : goal.returns-else-map-len
returns-else-map-len c =
    let v = c.args.links.now in
    sym (change_at_past v.items c.args.map (λ _. c.args.link) (omega (arith, v.ok.0)))
