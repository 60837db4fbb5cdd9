use Rattle.sc_exec.proofs.HinderLemmas.{early_hinders, refused_hinders}
use Rattle.sc_exec.proofs.posting.hand_in.Goals as goal

pub returns-in-Stranger-clause-hinders : goal.returns-in-Stranger-clause-hinders
returns-in-Stranger-clause-hinders g c =
    refused_hinders g.W.Naming.work _ _ c.args.log.now _ c.args.report _ c.in-Ok.delivery
    c.in-Stranger.refused c.in-Stranger.is c.requires.told c.in-Ok.ensures.posted

pub returns-clause-hinders : goal.returns-clause-hinders
returns-clause-hinders g c =
    early_hinders g.W.Naming.work _ _ c.args.log.now _ c.args.report _ c.in-Ok.delivery
    c.in-Early.early c.in-Early.is c.requires.told c.is_true.ensures c.in-Ok.ensures.posted
