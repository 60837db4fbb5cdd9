use Rattle.sc_exec.proofs.OwedLemmas.{asks_owed, asks_told}
use Rattle.sc_exec.proofs.saving.ask.Goals as goal

pub returns-in-Ok-clause-works : goal.returns-in-Ok-clause-works
returns-in-Ok-clause-works g c =
    asks_owed _ _ c.args.log.now _ c.args.attempt c.in-Ok.said c.requires.works
    c.in-Ok.ensures.asked

pub returns-in-Ok-clause-told : goal.returns-in-Ok-clause-told
returns-in-Ok-clause-told g c =
    asks_told _ _ c.args.log.now _ c.args.attempt c.in-Ok.said c.in-Ok.ensures.asked
