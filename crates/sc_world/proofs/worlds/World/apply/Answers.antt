use Rattle.std.proofs.Common.{refl}
use Rattle.sc_world.specs.declared.steps.Step.TheVariants as steps
use Rattle.sc_world.proofs.StandLemmas.{calls_on, goes_stand}
use Rattle.sc_world.proofs.worlds.World.apply.Goals as goal

pub returns-in-Take-clause-files : goal.returns-in-Take-clause-files
returns-in-Take-clause-files g c =
    calls_on g.W.Naming.work c.args.self.now c.apply_take.new.self (steps.Take c.in-Take.exec)
    g.F.Files.state c.args.output.now c.apply_take.result refl c.apply_take.ensures.goes
    c.apply_take.ensures.refused c.requires.stand

pub returns-in-Read-clause-files : goal.returns-in-Read-clause-files
returns-in-Read-clause-files g c =
    calls_on g.W.Naming.work c.args.self.now c.apply_read.new.self (steps.Read c.in-Read.exec)
    g.F.Files.state c.args.output.now c.apply_read.result refl c.apply_read.ensures.goes
    c.apply_read.ensures.refused c.requires.stand

pub returns-in-Compute-clause-files : goal.returns-in-Compute-clause-files
returns-in-Compute-clause-files g c =
    calls_on g.W.Naming.work c.args.self.now c.apply_compute.new.self
    (steps.Compute c.in-Compute.exec) g.F.Files.state c.args.output.now c.apply_compute.result refl
    c.apply_compute.ensures.goes
    c.apply_compute.ensures.refused c.requires.stand

pub returns-in-Put-clause-files : goal.returns-in-Put-clause-files
returns-in-Put-clause-files g c =
    calls_on g.W.Naming.work c.args.self.now c.apply_put.new.self (steps.Put c.in-Put.exec)
    g.F.Files.state c.args.output.now c.apply_put.result refl c.apply_put.ensures.goes
    c.apply_put.ensures.refused c.requires.stand

pub returns-in-Ask-clause-files : goal.returns-in-Ask-clause-files
returns-in-Ask-clause-files g c =
    calls_on g.W.Naming.work c.args.self.now c.apply_ask.new.self (steps.Ask c.in-Ask.exec)
    g.F.Files.state c.args.output.now c.apply_ask.result refl c.apply_ask.ensures.goes
    c.apply_ask.ensures.refused c.requires.stand

pub returns-in-Post-clause-files : goal.returns-in-Post-clause-files
returns-in-Post-clause-files g c =
    calls_on g.W.Naming.work c.args.self.now c.apply_post.new.self (steps.Post c.in-Post.exec)
    g.F.Files.state c.args.output.now c.apply_post.result refl c.apply_post.ensures.goes
    c.apply_post.ensures.refused c.requires.stand

pub returns-in-Release-clause-files : goal.returns-in-Release-clause-files
returns-in-Release-clause-files g c =
    calls_on g.W.Naming.work c.args.self.now c.apply_release.new.self
    (steps.Release c.in-Release.key) g.F.Files.state c.args.output.now c.apply_release.result refl
    c.apply_release.ensures.goes
    c.apply_release.ensures.refused c.requires.stand

pub returns-in-TellLost-clause-files : goal.returns-in-TellLost-clause-files
returns-in-TellLost-clause-files g c =
    calls_on g.W.Naming.work c.args.self.now c.apply_loss.new.self
    (steps.TellLost c.in-TellLost.exec) g.F.Files.state c.args.output.now c.apply_loss.result refl
    c.apply_loss.ensures.goes
    c.apply_loss.ensures.refused c.requires.stand

pub returns-in-Tick-clause-files : goal.returns-in-Tick-clause-files
returns-in-Tick-clause-files g c =
    calls_on g.W.Naming.work c.args.self.now c.apply_tick.new.self (steps.Tick c.in-Tick.now)
    g.F.Files.state c.args.output.now c.apply_tick.result refl c.apply_tick.ensures.goes
    c.apply_tick.ensures.refused c.requires.stand

pub returns-in-Wipe-clause-files : goal.returns-in-Wipe-clause-files
returns-in-Wipe-clause-files g c =
    goes_stand g.W.Naming.work c.args.self.now c.apply_wipe.new.self (steps.Wipe c.in-Wipe.order)
    c.apply_wipe.result g.F.Files.state c.args.output.now refl c.apply_wipe.ensures
    c.requires.stand

pub returns-in-Evict-clause-files : goal.returns-in-Evict-clause-files
returns-in-Evict-clause-files g c =
    goes_stand g.W.Naming.work c.args.self.now c.apply_evict.new.self (steps.Evict c.in-Evict.exec)
    c.apply_evict.result g.F.Files.state c.args.output.now refl c.apply_evict.ensures
    c.requires.stand

pub returns-in-NextOrder-clause-files : goal.returns-in-NextOrder-clause-files
returns-in-NextOrder-clause-files g c =
    goes_stand g.W.Naming.work c.args.self.now c.apply_order.new.self steps.NextOrder
    c.apply_order.result g.F.Files.state c.args.output.now refl c.apply_order.ensures
    c.requires.stand
