use Rattle.sc_exec.proofs.DrainLemmas.{enters_next, met_next}
use Rattle.sc_exec.proofs.drains.enter_next.Goals as goal

pub returns-in-Ok-clause-entered : goal.returns-in-Ok-clause-entered
returns-in-Ok-clause-entered g c =
    enters_next g.W.Naming.work _ _ c.args.posted _ c.in-Ok.delivery _ c.requires.none
    c.in-Ok.ensures.posted c.strange_of.ensures

pub returns-in-Ok-clause-met : goal.returns-in-Ok-clause-met
returns-in-Ok-clause-met g c =
    met_next g.W.Naming.work _ _ _ _ c.in-Ok.delivery _ c.in-Ok.ensures.posted
    c.strange_of.ensures
