use Rattle.std.proofs.Common.{◌≡◌, ◌∙◌, ◌≤◌, Ok, Err, ap, arith, length, sym}
use Rattle.std.proofs.lemmas.List.{length-map}
use Rattle.sc_lineage.specs.ScriptData.{ScriptData, WorkData}
use Rattle.sc_lineage.specs.Views.{action_data_of}
use Rattle.sc_context.specs.Records.{histories_of}
use Rattle.sc_print.proofs.EndLemmas.{all_done, printing-stops}
use Rattle.sc_print.proofs.OverLemmas.{gone_first, gone_printed, prints-later}
use Rattle.sc_print.proofs.PrintLemmas.{printed-first, printed-more}
use Rattle.sc_print.proofs.printing.print_actions.Goals as goal

pub loop-alloc-init : goal.loop-alloc-init
loop-alloc-init g c = record {
  later = omega arith;
  printed = printed-first g.W.Naming.work (g.K.Sink.state c.args.sink.now) c.args.first.files
      c.args.first c.requires;
  gone = gone_first g.W.Naming.work c.args.first.files c.args.first c.requires;
}

pub loop-alloc-preserved : goal.loop-alloc-preserved
loop-alloc-preserved g c = record {
  later = omega (arith, c.loop-alloc.invariant.later, c.in-Ok.ensures.later);
  printed = printed-more g.W.Naming.work (g.K.Sink.state c.args.sink.now)
      (g.K.Sink.state c.loop-alloc.sink) (g.K.Sink.state c.print_action.new.sink)
      c.loop-alloc.context c.in-Ok.next c.loop-alloc.invariant.printed c.in-Ok.ensures.prints;
  gone = gone_printed g.W.Naming.work c.args.first.files c.loop-alloc.context
      c.loop-alloc.invariant.gone (g.K.Sink.state c.loop-alloc.sink)
      (g.K.Sink.state c.print_action.new.sink) c.in-Ok.next c.in-Ok.ensures.prints;
}

pub returns-in-Err-clause-prints : goal.returns-in-Err-clause-prints
returns-in-Err-clause-prints g c =
    printing-stops c.meaning_is_lawful.ensures.saves g.W.Naming.work
    (g.K.Sink.state c.args.sink.now) (g.K.Sink.state c.loop-alloc.sink) c.args.first.files
    c.loop-alloc.context c.loop-alloc.invariant.printed c.loop-alloc.invariant.gone
    (g.K.Sink.state c.print_action.new.sink) (g.F.Files.state c.in-Err.stop.files)
    c.in-Err.stop.why c.in-Err.stop.records.histories.items
    (histories_of c.in-Err.stop.records.gave_up.items) c.in-Err.ensures.stops

pub returns-in-Err-clause-files_later : goal.returns-in-Err-clause-files_later
returns-in-Err-clause-files_later g c =
    prints-later g.W.Naming.work (g.K.Sink.state c.args.sink.now)
    (g.K.Sink.state c.print_action.new.sink) c.args.first.files
    (g.F.Files.state c.in-Err.stop.files) (Err c.in-Err.stop.why)
    c.in-Err.stop.records.histories.items (histories_of c.in-Err.stop.records.gave_up.items)
    (returns-in-Err-clause-prints g c)

pub returns-clause-prints : goal.returns-clause-prints
returns-clause-prints g c =
    let parts = c.into_parts-records in
    let len : length g.W.Naming.work.script.actions ≡ length c.actions-actions.result.now =
    ap length (sym (c.actions-actions.ensures
    ∙ ap (λ (s : ScriptData). s.actions) (c.script.ensures
    ∙ ap (λ (w : WorkData). w.script) (c.get.ensures ∙ c.work.ensures))))
    ∙ length-map c.actions-actions.result.now action_data_of in
    let past : length g.W.Naming.work.script.actions ≤ c.loop-alloc.context.progress.actions =
    omega (arith, len, c.loop-alloc-test.false, c.actions.ensures) in
    all_done c.meaning_is_lawful.ensures.saves g.W.Naming.work (g.K.Sink.state c.args.sink.now)
    (g.K.Sink.state c.loop-alloc.sink) c.args.first.files c.loop-alloc.context
    c.loop-alloc.invariant.printed c.loop-alloc.invariant.gone past c.is_sound.ensures.within
    parts.result.0.histories.items (histories_of parts.result.0.gave_up.items)
    (g.F.Files.state parts.result.1)
    parts.ensures.histories parts.ensures.given_up parts.ensures.files tt

pub returns-clause-files_later : goal.returns-clause-files_later
returns-clause-files_later g c =
    prints-later g.W.Naming.work (g.K.Sink.state c.args.sink.now)
    (g.K.Sink.state c.loop-alloc.sink) c.args.first.files
    (g.F.Files.state c.into_parts-records.result.1) (Ok tt)
    c.into_parts-records.result.0.histories.items
    (histories_of c.into_parts-records.result.0.gave_up.items) (returns-clause-prints g c)
