use Rattle.std.proofs.Common.{subst, sym}
use Rattle.std.proofs.lemmas.Result.{on_ok_weaker}
use Rattle.sc_world.specs.Serial.{GoesOn}
use Rattle.sc_world.specs.WorldData.{WorldData}
use Rattle.sc_world.proofs.CodeRuns.{goes_then, stays}
use Rattle.sc_world.proofs.CodeTurns.{asks_then}
use Rattle.sc_world.proofs.FilesLemmas.{goes_on_then, stays_same}
use Rattle.sc_world.proofs.StandLemmas.{takes_stand}
use Rattle.sc_world.proofs.worlds.World.run_task.Goals as goal

pub returns-in_err-request-clause-on : goal.returns-in_err-request-clause-on
returns-in_err-request-clause-on g c =
    subst (λ (x : WorldData). GoesOn g.W.Naming.work c.args.self.now x)
    (sym c.in_err-request.ensures.refused) (stays g.W.Naming.work c.args.self.now)

pub returns-clause-turns : goal.returns-clause-turns
returns-clause-turns g c =
    on_ok_weaker c.finish.result
    (λ finishes. asks_then g.W.Naming.work c.args.self.now c.request.new.self c.finish.new.self
    c.args.exec c.in_ok-request.ensures.asks finishes)
    c.finish.ensures.finishes

pub returns-clause-on : goal.returns-clause-on
returns-clause-on g c =
    goes_then g.W.Naming.work c.args.self.now c.request.new.self c.finish.new.self
    c.in_ok-request.ensures.asks.on c.finish.ensures.on

pub finish-requires-clause-stand : goal.finish-requires-clause-stand
finish-requires-clause-stand g c =
    let t = c.in_ok-request.ensures.takes in
    (takes_stand g.W.Naming.work c.args.self.now c.request.new.self c.args.exec t.0
    g.F.Files.state c.args.output.now t.1 c.requires.stand).stand

pub returns-in_err-request-clause-files : goal.returns-in_err-request-clause-files
returns-in_err-request-clause-files g c =
    stays_same g.W.Naming.work c.args.self.now c.request.new.self g.F.Files.state
    c.args.output.now c.in_err-request.ensures.refused c.requires.stand

pub returns-clause-files : goal.returns-clause-files
returns-clause-files g c =
    let t = c.in_ok-request.ensures.takes in
    goes_on_then g.W.Naming.work c.args.self.now c.request.new.self c.finish.new.self
    g.F.Files.state c.args.output.now c.args.output.now c.finish.new.output
    (takes_stand g.W.Naming.work c.args.self.now c.request.new.self c.args.exec t.0
    g.F.Files.state c.args.output.now t.1 c.requires.stand)
    c.finish.ensures.files
