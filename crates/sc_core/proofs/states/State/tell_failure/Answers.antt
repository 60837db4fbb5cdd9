use Rattle.std.proofs.Common.{◌∙◌, ap}
use Rattle.sc_commit.specs.declared.committers.Ending.TheVariants as endings
use Rattle.sc_dag.specs.DagData.{DagData}
use Rattle.sc_dag.specs.Reports.{reaches_limit_in, set_of}
use Rattle.sc_core.specs.CoreData.{CoreData, core_data, with_dag}
use Rattle.sc_core.specs.Tells.{released}
use Rattle.sc_core.proofs.TellLemmas.{again_is_no_limit, failure_told}
use Rattle.sc_core.proofs.states.State.tell_failure.Goals as goal

pub returns-in-Again-clause-tells : goal.returns-in-Again-clause-tells
returns-in-Again-clause-tells c =
    let i = c.self.inside in
    let before : CoreData =
    core_data i.told i.tick i.handed i.job i.left_first i.running.items i.shelf.items
    i.next_key i.commit i.stages.0 i.plan in
    let a = c.args.attempt in
    rw (← c.self.view_is)
    (failure_told (reaches_limit_in (set_of i.stages.0 a) a c.args.cause) before a c.args.cause
    c.hands_out-hands_out.result c.release.new.self.0 c.fail_by.result c.fail_by.new.self.0
    (λ h. again_is_no_limit (c.in-Again.ensures.limit.1 h))
    (rw c.dag.ensures at c.hands_out-hands_out.ensures)
    (c.release.ensures.state
    ∙ ap (λ (d : DagData). released (with_dag before d) a endings.Failed)
    c.failed-verdict.ensures.state)
    c.fail_by.ensures.fails)
