use Rattle.std.proofs.Common.{inl, map}
use Rattle.std.specs.String.{string_bytes}
use Rattle.sc_base.specs.Outside.{outside_of}
use Rattle.sc_context.specs.Records.{histories_of}
use Rattle.sc_app.specs.Handed.{IsRun}
use Rattle.sc_app.specs.Runs.{run_of}
use Rattle.sc_app.specs.declared.ran.Status.TheVariants as statuses
use Rattle.sc_app.proofs.RunLemmas.{no-memory-yet}
use Rattle.sc_app.proofs.SourceLemmas.{over_still}
use Rattle.sc_app.proofs.command.run_words.Goals as goal

pub returns-in-OutOfMemory-clause-run : goal.returns-in-OutOfMemory-clause-run
returns-in-OutOfMemory-clause-run g c =
    let words = map string_bytes c.args.words.now in
    let reads = c.args.reads.now.items in
    let histories = c.args.records.now.histories.items in
    let given_up = histories_of c.args.records.now.gave_up.items in
    let sink = g.K.Sink.state c.args.sink.now in
    let files = g.F.Files.state c.args.files in
    over_still words
    (λ before after. IsRun
    (run_of words reads (outside_of before sink) (outside_of after sink) files files) histories
    given_up statuses.OutOfMemory) (g.S.Source.state c.args.source.now)
    (λ source. no-memory-yet words reads histories given_up source sink files c.requires.empty
    c.requires.none_ran)

pub returns-in-Ok-clause-kept : goal.returns-in-Ok-clause-kept
returns-in-Ok-clause-kept g c =
    c.run_command.ensures.kept (map string_bytes c.args.words.now) c.in-Ok.ensures.command.1

pub returns-in-Fault-clause-kept : goal.returns-in-Fault-clause-kept
returns-in-Fault-clause-kept g c = inl c.requires.kept

pub returns-in-OutOfMemory-clause-kept : goal.returns-in-OutOfMemory-clause-kept
returns-in-OutOfMemory-clause-kept g c = inl c.requires.kept
