use Rattle.sc_staging.proofs.OpeningLemmas.{opened-made, opened-refused, opened-sound}
use Rattle.sc_staging.proofs.staging.Staging.open.Goals as goal

pub invariant_of-result : goal.invariant_of-result
invariant_of-result g c =
    opened-sound c.in-Ok.dir c.in-Ok-staging_name.area _ _ _ c.in-Ok-staging_name.ensures
    c.in-Made.ensures.cause c.in-Made-make.ensures.cause

pub returns-in-Made-make-clause-opens : goal.returns-in-Made-make-clause-opens
returns-in-Made-make-clause-opens g c =
    opened-made c.args.dir.now c.in-Ok.dir c.in-Ok-staging_name.area _ _ _ c.in-Ok.ensures
    c.in-Ok-staging_name.ensures c.in-Made.ensures.cause c.in-Made-make.ensures.cause

pub returns-in-Exists-make-clause-opens : goal.returns-in-Exists-make-clause-opens
returns-in-Exists-make-clause-opens g c =
    opened-refused c.args.dir.now c.in-Ok.dir c.in-Ok-staging_name.area _ _ _ c.in-Ok.ensures
    c.in-Ok-staging_name.ensures c.in-Made.ensures.cause c.in-Exists-make.ensures.cause
