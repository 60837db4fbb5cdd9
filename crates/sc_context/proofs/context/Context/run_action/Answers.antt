use Rattle.std.proofs.lemmas.Result.{IfErr-weaker, IfOk-weaker}
use Rattle.sc_context.specs.Contexts.{GivesNext, Stops}
use Rattle.sc_context.specs.Records.{histories_of}
use Rattle.sc_context.proofs.ChainLemmas.{gives_behind, stops_behind}
use Rattle.sc_context.proofs.context.Context.run_action.Goals as goal

pub returns-clause-given : goal.returns-clause-given
returns-clause-given g c =
    let work = g.W.Naming.work in
    IfOk-weaker c.run_own_job.result
    (λ x. GivesNext work c.in_ok-context.context x.value x.context)
    (λ x. GivesNext work c.args.self x.value x.context)
    (λ x h. gives_behind work c.args.self c.in_ok-context.context x.context x.value
    c.in_ok-context.ensures.finds.on h)
    c.run_own_job.ensures.given

pub returns-clause-stops : goal.returns-clause-stops
returns-clause-stops g c =
    let work = g.W.Naming.work in
    IfErr-weaker c.run_own_job.result
    (λ x. Stops work c.in_ok-context.context x.why x.records.histories.items
    (histories_of x.records.gave_up.items) (g.F.Files.state x.files))
    (λ x. Stops work c.args.self x.why x.records.histories.items
    (histories_of x.records.gave_up.items) (g.F.Files.state x.files))
    (λ x h. stops_behind work c.args.self c.in_ok-context.context x.why
    x.records.histories.items (histories_of x.records.gave_up.items) (g.F.Files.state x.files)
    c.in_ok-context.ensures.finds.on h)
    c.run_own_job.ensures.stops
