use Rattle.std.proofs.Common.{◌∙◌, ap}
use Rattle.sc_base.specs.Outside.{outside_of}
use Rattle.sc_context.specs.Records.{histories_of}
use Rattle.sc_app.specs.Handed.{IsRunOf}
use Rattle.sc_gen.specs.Script.{new_files}
use Rattle.sc_app.proofs.SourceLemmas.{runs_over}
use Rattle.sc_app.proofs.workloads.run_workload.Goals as goal

pub returns-in-Ok-new-clause-run : goal.returns-in-Ok-new-clause-run
returns-in-Ok-new-clause-run g c =
    runs_over _ _ _
    (λ before after. IsRunOf c.args.command c.run_script.new.reads.items
    c.run_script.new.records.histories.items (histories_of c.run_script.new.records.gave_up.items)
    (outside_of before (g.K.Sink.state c.args.sink.now))
    (outside_of after (g.K.Sink.state c.run_script.new.sink)) (g.F.Files.state c.args.files)
    (g.F.Files.state c.run_script.result.1) c.run_script.result.0)
    (c.in-Ok-new.ensures
    ∙ ap (λ script. new_files script c.args.workload.seed c.args.workload.size) c.in-Ok.ensures)
    c.run_script.ensures.later c.run_script.ensures.run
