use Rattle.std.proofs.Common.{ap}
use Rattle.sc_task.specs.Attempts.{attempt_data_of}
use Rattle.sc_task.specs.States.{ReadData}
use Rattle.sc_world.proofs.CachingLemmas.{computes_caches}
use Rattle.sc_world.proofs.CodeGo.{computes_makes}
use Rattle.sc_world.proofs.going.compute_next.Goals as goal

pub returns-in-Ok-Computed-clause-makes : goal.returns-in-Ok-Computed-clause-makes
returns-in-Ok-Computed-clause-makes g c =
    computes_makes g.W.Naming.work c.args.state.task c.keep-done.result.0.task c.ready.result.task
    c.in-Ok-Computed.ensures.did.0 c.in-Ok-Computed.field-0 c.in-Ok-Computed.computed
    (attempt_data_of c.made_of.result) c.in-Ok-Computed.field-0-is
    c.in-Ok-Computed.ensures.did.2 (ap (λ (r : ReadData). r.task) c.ready.ensures)
    c.keep-done.ensures.task c.made_of.ensures.made

pub returns-in-Ok-Computed-clause-caches : goal.returns-in-Ok-Computed-clause-caches
returns-in-Ok-Computed-clause-caches g c =
    computes_caches g.W.Naming.work c.args.state.task c.ready.result.task
    c.in-Ok-Computed.ensures.did.0 c.in-Ok-Computed.field-0 c.in-Ok-Computed.computed
    c.keep-done.result.1 c.args.store.now c.keep-done.new.store c.in-Ok-Computed.field-0-is
    c.in-Ok-Computed.ensures.did.1 c.in-Ok-Computed.ensures.did.2
    (ap (λ (r : ReadData). r.task) c.ready.ensures) c.keep-done.ensures.keeps
