use Rattle.std.proofs.Common.{subst, sym}
use Rattle.sc_world.specs.Serial.{GoesOn}
use Rattle.sc_world.specs.WorldData.{WorldData}
use Rattle.sc_world.proofs.CodeRuns.{stays}
use Rattle.sc_world.specs.Turns.{DoesDueIf}
use Rattle.sc_world.proofs.StandLemmas.{due_stand}
use Rattle.sc_world.proofs.worlds.World.turn.Goals as goal

pub returns-in_err-drive-clause-on : goal.returns-in_err-drive-clause-on
returns-in_err-drive-clause-on g c =
    subst (λ (x : WorldData). GoesOn g.W.Naming.work c.args.self.now x)
    (sym c.in_err-drive.ensures.refused) (stays g.W.Naming.work c.args.self.now)

pub returns-then-branch-clause-files : goal.returns-then-branch-clause-files
returns-then-branch-clause-files g c =
    due_stand g.W.Naming.work c.args.self.now c.drive.new.self c.next_live-exec.result
    g.F.Files.state c.args.output.now
    (subst (λ b. DoesDueIf b g.W.Naming.work c.next_live-exec.result c.args.self.now
    c.drive.new.self) c.if-branch.true c.in_ok-drive.ensures.due)
    c.requires.stand
