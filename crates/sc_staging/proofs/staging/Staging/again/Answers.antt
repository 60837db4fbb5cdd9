use Rattle.sc_staging.proofs.RenewalLemmas.{renewed-clash, renewed-sound}
use Rattle.sc_staging.proofs.staging.Staging.again.Goals as goal

pub invariant_of-result : goal.invariant_of-result
invariant_of-result g c =
    renewed-sound c.self.inside.dir c.self.inside.area _ _ _ c.self.invariant
    c.in-Done.ensures.cause c.in-Made.ensures.cause

pub returns-in-Exists-clause-renews : goal.returns-in-Exists-clause-renews
returns-in-Exists-clause-renews g c =
    rw (← c.self.view_is) (renewed-clash c.self.inside.dir c.self.inside.area _ _ _
    c.self.invariant.named c.in-Done.ensures.cause c.in-Exists.ensures.cause)
