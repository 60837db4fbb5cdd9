use Rattle.std.proofs.Common.{◌≤◌, ◌-◌, length}
use Rattle.sc_context.specs.Progress.{first_progress}
use Rattle.sc_context.proofs.FilesLemmas.{HaveGone}
use Rattle.sc_print.specs.Printing.{HasPrinted}
use Rattle.sc_print.proofs.printing.print_actions.Given as goal

-- the actions that have their value are printed, and their jobs were done since the beginning
abbrev pub invariant-loop-alloc : goal.invariant-loop-alloc
invariant-loop-alloc g l = record {
  later : (g.K.Sink.state l.initial.sink).faults ≤ (g.K.Sink.state l.sink).faults;
  printed : HasPrinted g.W.Naming.work (g.K.Sink.state l.initial.sink) (g.K.Sink.state l.sink)
      l.context.progress.actions;
  gone : HaveGone g.W.Naming.work (first_progress g.W.Naming.work) l.context.histories
      l.context.given_up l.context.progress l.fn.first.files l.context.files;
}

abbrev pub decreases-loop-alloc : goal.decreases-loop-alloc
decreases-loop-alloc g l = length g.W.Naming.work.script.actions - l.context.progress.actions
