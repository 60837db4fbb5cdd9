use Rattle.std.proofs.Common.{inr, List, Result, Err, Ok, subst}
use Rattle.sc_base.specs.declared.refusals.OrMemory.{OrMemory}
use Rattle.sc_context.specs.Records.{histories_of}
use Rattle.sc_print.specs.declared.faults.PrintFault.{PrintFault}
use Rattle.sc_print.specs.Printing.{Prints}
use Rattle.sc_read.specs.declared.reads.Read.{Read}
use Rattle.sc_read.specs.Scripts.{TakesAsScript}
use Rattle.sc_app.proofs.BegunLemmas.{begun, script-stops}
use Rattle.sc_app.proofs.KeptLemmas.{none-kept}
use Rattle.sc_app.proofs.PlanLemmas.{plan-stops}
use Rattle.sc_app.proofs.RunLemmas.{has_work, inputs-stop, printing-stops, run-done}
use Rattle.sc_app.proofs.scripts.run_script.Goals as goal

pub returns-in-Err-clause-run : goal.returns-in-Err-clause-run
returns-in-Err-clause-run g c =
    let before = g.S.Source.state c.args.source.now in
    let after = g.S.Source.state c.read_script.new.source in
    let taken = subst (λ (rs : List Read). TakesAsScript before after c.args.command.script rs
    c.read_script.new.reads.items (Err c.in-Err.stop)) c.requires.empty c.in-Err.ensures.script in
    rw c.status_of_script.ensures (λ words is. script-stops words c.args.command is
    c.args.records.now.histories.items (histories_of c.args.records.now.gave_up.items)
    c.requires.none_ran before after (g.K.Sink.state c.args.sink.now) (g.F.Files.state c.args.files)
    c.read_script.new.reads.items c.in-Err.stop taken)

pub returns-in-Err-read_plan-clause-run : goal.returns-in-Err-read_plan-clause-run
returns-in-Err-read_plan-clause-run g c =
    let start = g.S.Source.state c.args.source.now in
    let mid = g.S.Source.state c.read_script.new.source in
    let after = g.S.Source.state c.read_plan.new.source in
    let taken = subst (λ (rs : List Read). TakesAsScript start mid c.args.command.script rs
    c.read_script.new.reads.items (Ok c.in-Ok.script)) c.requires.empty c.in-Ok.ensures.script in
    rw c.status_of_plan.ensures (λ words is. plan-stops words c.args.command is
    c.args.records.now.histories.items (histories_of c.args.records.now.gave_up.items)
    c.requires.none_ran start mid c.in-Ok.ensures.later c.read_script.new.reads.items taken.0
    taken.1 c.in-Ok.script taken.2 after (g.K.Sink.state c.args.sink.now)
    (g.F.Files.state c.args.files)
    c.read_plan.new.reads.items c.in-Err-read_plan.stop c.in-Err-read_plan.ensures.plan)

pub returns-in-Err-read_work-clause-run : goal.returns-in-Err-read_work-clause-run
returns-in-Err-read_work-clause-run g c =
    let start = g.S.Source.state c.args.source.now in
    let mid = g.S.Source.state c.read_script.new.source in
    let taken = subst (λ (rs : List Read). TakesAsScript start mid c.args.command.script rs
    c.read_script.new.reads.items (Ok c.in-Ok.script)) c.requires.empty c.in-Ok.ensures.script in
    let before = g.S.Source.state c.read_plan.new.source in
    let began = begun c.args.command.script c.args.command.plan
    c.args.command.limits.executors start mid before c.read_script.new.reads.items
    c.read_plan.new.reads.items taken.0 c.in-Ok.script c.in-Ok-read_plan.plan c.in-Ok.ensures.later
    c.in-Ok-read_plan.ensures.later taken.1 taken.2 c.in-Ok-read_plan.ensures.plan in
    let after = g.S.Source.state c.read_work.new.source in
    rw c.status_of_input.ensures (λ words is. inputs-stop words c.args.command is start before
    c.read_plan.new.reads.items c.in-Ok.script c.in-Ok-read_plan.plan began
    c.args.records.now.histories.items (histories_of c.args.records.now.gave_up.items)
    c.requires.none_ran after (g.K.Sink.state c.args.sink.now) (g.F.Files.state c.args.files)
    c.read_work.new.reads.items c.in-Err-read_work.stop
    c.in-Err-read_work.ensures.work)

pub returns-in-Ok-end-clause-run : goal.returns-in-Ok-end-clause-run
returns-in-Ok-end-clause-run g c =
    let start = g.S.Source.state c.args.source.now in
    let mid = g.S.Source.state c.read_script.new.source in
    let taken = subst (λ (rs : List Read). TakesAsScript start mid c.args.command.script rs
    c.read_script.new.reads.items (Ok c.in-Ok.script)) c.requires.empty c.in-Ok.ensures.script in
    let before = g.S.Source.state c.read_plan.new.source in
    let began = begun c.args.command.script c.args.command.plan
    c.args.command.limits.executors start mid before c.read_script.new.reads.items
    c.read_plan.new.reads.items taken.0 c.in-Ok.script c.in-Ok-read_plan.plan c.in-Ok.ensures.later
    c.in-Ok-read_plan.ensures.later taken.1 taken.2 c.in-Ok-read_plan.ensures.plan in
    let after = g.S.Source.state c.read_work.new.source in
    let sink = g.K.Sink.state c.args.sink.now in
    let sink' = g.K.Sink.state c.print_work-end.new.sink in
    let files = g.F.Files.state c.args.files in
    let files' = g.F.Files.state c.print_work-end.result.files in
    let work = c.in-Ok-read_work.work in
    let histories = c.print_work-end.result.records.histories.items in
    let given_up = histories_of c.print_work-end.result.records.gave_up.items in
    let prints = subst (λ (r : Result (Unit {0}) (OrMemory PrintFault)). Prints work sink sink'
    files files' r histories given_up) c.in-Ok-end.is c.print_work-end.ensures.prints in
    λ words is. run-done words c.args.command is start before c.read_plan.new.reads.items
    c.in-Ok.script c.in-Ok-read_plan.plan began after c.read_work.new.reads.items work
    c.in-Ok-read_work.ensures.work.0 c.in-Ok-read_work.ensures.work.1
    c.in-Ok-read_work.ensures.work.2 c.in-Ok-read_work.ensures.work.3 c.is_sound.ensures histories
    given_up sink sink' files files' prints.0 prints.1

pub returns-clause-run : goal.returns-clause-run
returns-clause-run g c =
    let start = g.S.Source.state c.args.source.now in
    let mid = g.S.Source.state c.read_script.new.source in
    let taken = subst (λ (rs : List Read). TakesAsScript start mid c.args.command.script rs
    c.read_script.new.reads.items (Ok c.in-Ok.script)) c.requires.empty c.in-Ok.ensures.script in
    let before = g.S.Source.state c.read_plan.new.source in
    let began = begun c.args.command.script c.args.command.plan
    c.args.command.limits.executors start mid before c.read_script.new.reads.items
    c.read_plan.new.reads.items taken.0 c.in-Ok.script c.in-Ok-read_plan.plan c.in-Ok.ensures.later
    c.in-Ok-read_plan.ensures.later taken.1 taken.2 c.in-Ok-read_plan.ensures.plan in
    let after = g.S.Source.state c.read_work.new.source in
    let sink = g.K.Sink.state c.args.sink.now in
    let sink' = g.K.Sink.state c.print_work-end.new.sink in
    let files = g.F.Files.state c.args.files in
    let files' = g.F.Files.state c.print_work-end.result.files in
    let work = c.in-Ok-read_work.work in
    let histories = c.print_work-end.result.records.histories.items in
    let given_up = histories_of c.print_work-end.result.records.gave_up.items in
    let prints = subst (λ (r : Result (Unit {0}) (OrMemory PrintFault)). Prints work sink sink'
    files files' r histories given_up) c.in-Err-end.is c.print_work-end.ensures.prints in
    rw c.status_of_print.ensures (λ words is. printing-stops words c.args.command is start before
    c.read_plan.new.reads.items c.in-Ok.script c.in-Ok-read_plan.plan began after
    c.read_work.new.reads.items work c.in-Ok-read_work.ensures.work.0
    c.in-Ok-read_work.ensures.work.1 c.in-Ok-read_work.ensures.work.2
    c.in-Ok-read_work.ensures.work.3 c.is_sound.ensures histories given_up sink sink' files files'
    c.in-Err-end.stop prints)

pub returns-in-Err-clause-kept : goal.returns-in-Err-clause-kept
returns-in-Err-clause-kept g c =
    none-kept c.args.command c.read_script.new.reads.items c.args.records.now c.requires.kept

pub returns-in-Err-read_plan-clause-kept : goal.returns-in-Err-read_plan-clause-kept
returns-in-Err-read_plan-clause-kept g c =
    none-kept c.args.command c.read_plan.new.reads.items c.args.records.now c.requires.kept

pub returns-in-Err-read_work-clause-kept : goal.returns-in-Err-read_work-clause-kept
returns-in-Err-read_work-clause-kept g c =
    none-kept c.args.command c.read_work.new.reads.items c.args.records.now c.requires.kept

pub returns-in-Ok-end-clause-kept : goal.returns-in-Ok-end-clause-kept
returns-in-Ok-end-clause-kept g c =
    let start = g.S.Source.state c.args.source.now in
    let mid = g.S.Source.state c.read_script.new.source in
    let taken = subst (λ (rs : List Read). TakesAsScript start mid c.args.command.script rs
    c.read_script.new.reads.items (Ok c.in-Ok.script)) c.requires.empty c.in-Ok.ensures.script in
    let before = g.S.Source.state c.read_plan.new.source in
    let began = begun c.args.command.script c.args.command.plan
    c.args.command.limits.executors start mid before c.read_script.new.reads.items
    c.read_plan.new.reads.items taken.0 c.in-Ok.script c.in-Ok-read_plan.plan c.in-Ok.ensures.later
    c.in-Ok-read_plan.ensures.later taken.1 taken.2 c.in-Ok-read_plan.ensures.plan in
    let after = g.S.Source.state c.read_work.new.source in
    let work = c.in-Ok-read_work.work in
    λ words is. inr (
      work,
      has_work words c.args.command is start before c.read_plan.new.reads.items c.in-Ok.script
          c.in-Ok-read_plan.plan began after c.read_work.new.reads.items work
          c.in-Ok-read_work.ensures.work.0 c.in-Ok-read_work.ensures.work.1
          c.in-Ok-read_work.ensures.work.2 c.in-Ok-read_work.ensures.work.3 c.is_sound.ensures,
      c.print_work-end.ensures.kept,
    )

pub returns-clause-kept : goal.returns-clause-kept
returns-clause-kept g c =
    let start = g.S.Source.state c.args.source.now in
    let mid = g.S.Source.state c.read_script.new.source in
    let taken = subst (λ (rs : List Read). TakesAsScript start mid c.args.command.script rs
    c.read_script.new.reads.items (Ok c.in-Ok.script)) c.requires.empty c.in-Ok.ensures.script in
    let before = g.S.Source.state c.read_plan.new.source in
    let began = begun c.args.command.script c.args.command.plan
    c.args.command.limits.executors start mid before c.read_script.new.reads.items
    c.read_plan.new.reads.items taken.0 c.in-Ok.script c.in-Ok-read_plan.plan c.in-Ok.ensures.later
    c.in-Ok-read_plan.ensures.later taken.1 taken.2 c.in-Ok-read_plan.ensures.plan in
    let after = g.S.Source.state c.read_work.new.source in
    let work = c.in-Ok-read_work.work in
    λ words is. inr (
      work,
      has_work words c.args.command is start before c.read_plan.new.reads.items c.in-Ok.script
          c.in-Ok-read_plan.plan began after c.read_work.new.reads.items work
          c.in-Ok-read_work.ensures.work.0 c.in-Ok-read_work.ensures.work.1
          c.in-Ok-read_work.ensures.work.2 c.in-Ok-read_work.ensures.work.3 c.is_sound.ensures,
      c.print_work-end.ensures.kept,
    )
