use Rattle.std.proofs.Common.{ap}
use Rattle.sc_context.specs.Records.{histories_of}
use Rattle.sc_print.proofs.EndLemmas.{nothing_done}
use Rattle.sc_print.proofs.printing.print_work.Goals as goal

pub returns-in-Err-clause-prints : goal.returns-in-Err-clause-prints
returns-in-Err-clause-prints g c =
    nothing_done g.W.Naming.work (g.K.Sink.state c.args.sink.now) (g.F.Files.state c.args.files)
    (g.F.Files.state c.in-Err.failed.value) c.in-Err.ensures.back
    c.new.result.histories.items (histories_of c.new.result.gave_up.items) c.new.ensures.none
    (ap histories_of c.new.ensures.none_given)

pub returns-in-Err-clause-kept : goal.returns-in-Err-clause-kept
returns-in-Err-clause-kept g c = c.new.ensures.kept g.W.Naming.work
