use Rattle.sc_context.proofs.AloneLemmas.{idle_rests}
use Rattle.sc_context.proofs.SerialLemmas.{comes_idle, none_before, stands_idle}
use Rattle.sc_context.proofs.alone.run_alone.Goals as goal

pub run_over-requires-clause-rests : goal.run_over-requires-clause-rests
run_over-requires-clause-rests g c =
    idle_rests g.W.Naming.work c.args.desk c.in-Ok.ensures.begun.0 c.in-Ok.begun.world
    c.in-Ok.ensures.begun.1

pub run_over-requires-clause-none : goal.run_over-requires-clause-none
run_over-requires-clause-none g c =
    none_before g.W.Naming.work c.args.desk c.in-Ok.ensures.begun.0 c.in-Ok.begun.world
    c.in-Ok.ensures.begun.1 c.requires.begun.3.entries

pub run_over-requires-clause-stand : goal.run_over-requires-clause-stand
run_over-requires-clause-stand g c =
    stands_idle g.W.Naming.work c.args.desk c.in-Ok.ensures.begun.0 c.in-Ok.begun.world
    g.F.Files.state c.args.output c.in-Ok.ensures.begun.1 c.requires.stand

pub returns-in-Ok-clause-went : goal.returns-in-Ok-clause-went
returns-in-Ok-clause-went g c = λ o from.
    c.run_over.ensures.went o
    (comes_idle g.W.Naming.work c.args.desk c.in-Ok.ensures.begun.0 c.in-Ok.begun.world
    g.F.Files.state c.args.output c.in-Ok.ensures.begun.1 o from)
