use Rattle.std.proofs.Common.{ap}
use Rattle.sc_dag.specs.DagData.{DagData}
use Rattle.sc_core.specs.CoreData.{core_data}
use Rattle.sc_core.proofs.states.State.put_result.Goals as goal

pub returns : goal.returns
returns c =
    let i = c.self.inside in
    rw (← c.self.view_is)
    (ap (λ (d : DagData). core_data i.told i.tick i.handed i.job i.left_first i.running.items
    i.shelf.items i.next_key i.commit d i.plan) c.result_success.ensures.state)
