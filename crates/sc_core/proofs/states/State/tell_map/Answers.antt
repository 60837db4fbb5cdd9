use Rattle.std.proofs.Common.{refl}
use Rattle.sc_core.specs.CoreData.{CoreData, core_data}
use Rattle.sc_core.proofs.TellLemmas.{map_told}
use Rattle.sc_core.proofs.states.State.tell_map.Goals as goal

pub returns-clause-tells : goal.returns-clause-tells
returns-clause-tells c =
    let i = c.self.inside in
    let before : CoreData =
    core_data i.told i.tick i.handed i.job i.left_first i.running.items i.shelf.items
    i.next_key i.commit i.stages.0 i.plan in
    rw (← c.self.view_is)
    (map_told before c.args.running.now c.args.loc c.attempt-attempt.result
    c.epoch-epoch.result c.map_success.result c.map_success.new.self.0 c.answer_to.result _
    c.attempt-attempt.ensures c.epoch-epoch.ensures c.map_success.ensures.answer
    c.map_success.ensures.state c.answer_to.ensures.answer refl)
