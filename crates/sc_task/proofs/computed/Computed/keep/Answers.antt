use Rattle.sc_task.proofs.KeepingLemmas.{keeps_rest, some_rest}
use Rattle.sc_task.proofs.computed.Computed.keep.Goals as goal

pub returns-in-Ok-clause-rest : goal.returns-in-Ok-clause-rest
returns-in-Ok-clause-rest g c =
    keeps_rest c.as_slice.result.now c.as_slice-2.result.now c.args.store.now
    c.keep_all.new.store c.in-Ok.ensures.keeps

pub returns-in-Err-clause-rest : goal.returns-in-Err-clause-rest
returns-in-Err-clause-rest g c =
    some_rest c.as_slice.result.now c.as_slice-2.result.now c.args.store.now
    c.keep_all.new.store c.in-Err.ensures.refused
