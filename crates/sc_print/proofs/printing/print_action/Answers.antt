use Rattle.sc_context.specs.Records.{histories_of}
use Rattle.sc_print.proofs.NextLemmas.{context-stops, next-printed, next-stops}
use Rattle.sc_print.proofs.printing.print_action.Goals as goal

pub returns-in-Ok-write_value-clause-prints : goal.returns-in-Ok-write_value-clause-prints
returns-in-Ok-write_value-clause-prints g c =
    next-printed g.W.Naming.work (g.K.Sink.state c.args.sink.now)
    (g.K.Sink.state c.write_value.new.sink) c.args.context c.in-Ok.field-0.context
    c.requires.within c.actions-action.result c.actions-action.ensures c.in-Ok.field-0.value
    c.in-Ok.ensures.given c.in-Ok-write_value.field-0 c.in-Ok-write_value.ensures.value

pub returns-in-Ok-clause-stops : goal.returns-in-Ok-clause-stops
returns-in-Ok-clause-stops g c =
    let parts = c.into_parts-records in
    next-stops g.W.Naming.work (g.K.Sink.state c.args.sink.now)
    (g.K.Sink.state c.write_value.new.sink) c.args.context c.in-Ok.field-0.context
    c.requires.within c.actions-action.result c.actions-action.ensures c.in-Ok.field-0.value
    c.in-Ok.ensures.given parts.result.0.histories.items (histories_of parts.result.0.gave_up.items)
    (g.F.Files.state parts.result.1) parts.ensures.histories parts.ensures.given_up
    parts.ensures.files c.in-Err-write_value.why c.in-Err-write_value.ensures.value

pub returns-clause-stops : goal.returns-clause-stops
returns-clause-stops g c =
    rw c.fault_of.ensures
    (context-stops g.W.Naming.work (g.K.Sink.state c.args.sink.now) c.args.context
    c.actions-action.result c.actions-action.ensures c.in-Err.field-0.why
    c.in-Err.field-0.records.histories.items (histories_of c.in-Err.field-0.records.gave_up.items)
    (g.F.Files.state c.in-Err.field-0.files) c.in-Err.ensures.stops)
