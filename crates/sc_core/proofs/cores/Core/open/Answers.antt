use Rattle.std.proofs.Common.{option_map}
use Rattle.sc_core.proofs.OpenLemmas.{opening_sound}
use Rattle.sc_core.proofs.cores.Core.open.Goals as goal

pub invariant_of-result : goal.invariant_of-result
invariant_of-result c =
    opening_sound c.args.graph.now c.args.limits c.args.saves c.args.plan.now
    (option_map (λ l. l.now) c.args.last) (option_map (λ s. s.now.0) c.state_behind.result)
    c.in_ok-state.state.0 c.state_behind.ensures.state c.requires.job c.requires.fits
    c.state_behind.ensures.sound c.requires.live c.in_ok-state.ensures
