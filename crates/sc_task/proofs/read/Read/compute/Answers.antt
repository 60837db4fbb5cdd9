use Rattle.std.proofs.Common.{ap}
use Rattle.sc_net.specs.Tasks.{blocks_of_task}
use Rattle.sc_task.proofs.LeavingLemmas.{planned_did, read_whole}
use Rattle.sc_task.specs.States.{ReadData}
use Rattle.sc_task.proofs.read.Read.compute.Goals as goal

pub returns-then-is_planned-clause-did : goal.returns-then-is_planned-clause-did
returns-then-is_planned-clause-did g c =
    planned_did g.W.Naming.work c.args.self.task c.self.inside.task _ c.is_planned.result
    c.new.ensures (ap (λ (r : ReadData). r.task) c.self.view_is) c.is_planned.ensures
    c.if-is_planned.true

pub did-requires-clause-inputs : goal.did-requires-clause-inputs
did-requires-clause-inputs g c =
    read_whole g.W.Naming.work (blocks_of_task c.self.inside.task) c.self.inside.got.items
    c.self.invariant.0
