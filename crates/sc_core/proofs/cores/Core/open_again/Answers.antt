use Rattle.std.proofs.Common.{subst, sym}
use Rattle.sc_core.specs.CoreData.{CoreData}
use Rattle.sc_core.specs.Sound.{HasLive}
use Rattle.sc_core.proofs.OpenLemmas.{again_sound}
use Rattle.sc_core.proofs.cores.Core.open_again.Goals as goal

pub invariant_of-result : goal.invariant_of-result
invariant_of-result c =
    again_sound c.args.graph.now c.args.limits c.args.saves c.args.plan.now c.last.inside.state.0
    c.in_ok-state.state.0 c.requires.job c.last.invariant
    (subst (λ (x : CoreData). HasLive x.dag.tracker) (sym c.last.view_is) c.requires.live)
    c.in_ok-state.ensures
