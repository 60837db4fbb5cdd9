use Rattle.std.proofs.Common.{None, subst, sym}
use Rattle.sc_jobs.specs.declared.goals.Goal.TheVariants as goals
use Rattle.sc_desk.specs.DeskData.{core_of}
use Rattle.sc_world.specs.Runs.{AreReady}
use Rattle.sc_context.proofs.AloneLemmas.{idle_rests}
use Rattle.sc_context.proofs.SerialLemmas.{stands_idle}
use Rattle.sc_rows.proofs.WorldLemmas.{first_ready}
use Rattle.sc_rows.proofs.alone.run_alone.Goals as goal

pub begin-requires-clause-begun : goal.begin-requires-clause-begun
begin-requires-clause-begun g c = (c.requires.first.0, None, goals.Action 0, c.requires.first.1)

pub begin-requires-clause-ready : goal.begin-requires-clause-ready
begin-requires-clause-ready g c =
    let desk = c.args.desk in
    subst (λ stores. AreReady g.W.Naming.work stores (core_of desk).dag.tracker (core_of desk).told)
    (sym c.new_stores-stores.ensures) (first_ready g.W.Naming.work desk c.requires.first)

pub serial-requires-clause-rests : goal.serial-requires-clause-rests
serial-requires-clause-rests g c =
    idle_rests g.W.Naming.work c.args.desk c.new_stores-stores.result.items c.in-Ok.world
    c.in-Ok.ensures.begun

pub serial-requires-clause-stand : goal.serial-requires-clause-stand
serial-requires-clause-stand g c =
    stands_idle g.W.Naming.work c.args.desk c.new_stores-stores.result.items c.in-Ok.world
    g.F.Files.state c.args.output c.in-Ok.ensures.begun c.requires.stand
