use Rattle.std.proofs.lemmas.Result.{IfOk-weaker}
use Rattle.sc_lineage.specs.Views.{action_data_of}
use Rattle.sc_compute.proofs.ResultLemmas.{gathered_settles}
use Rattle.sc_compute.proofs.SettleLemmas.{gives-rows}
use Rattle.sc_compute.proofs.settling.settle.Goals as goal

pub returns-clause-settles : goal.returns-clause-settles
returns-clause-settles c = λ rows are.
    let action = action_data_of c.args.action.now in
    gathered_settles action c.args.results.items rows c.in_ok-gathered.gathered c.outcome.result are
    c.in_ok-gathered.ensures (c.outcome.ensures action)

pub returns-clause-gives : goal.returns-clause-gives
returns-clause-gives c = λ work are.
    let action = action_data_of c.args.action.now in
    IfOk-weaker c.outcome.result _ _
    (λ e settles. gives-rows work action are.rows e are.whole settles)
    (gathered_settles action c.args.results.items are.rows c.in_ok-gathered.gathered
    c.outcome.result are.told c.in_ok-gathered.ensures (c.outcome.ensures action))
