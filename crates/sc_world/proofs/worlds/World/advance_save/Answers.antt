use Rattle.std.proofs.Common.{refl}
use Rattle.sc_world.specs.declared.steps.Applied.TheVariants as applied
use Rattle.sc_world.specs.declared.steps.Step.TheVariants as steps
use Rattle.sc_world.proofs.SideTurnLemmas.{asks_advances, moves_advances, stages_advances}
use Rattle.sc_world.proofs.StandLemmas.{goes_stand}
use Rattle.sc_world.proofs.worlds.World.advance_save.Goals as goal

pub returns-in_ok-stage-in-Stages-clause-advances :
    goal.returns-in_ok-stage-in-Stages-clause-advances
returns-in_ok-stage-in-Stages-clause-advances g c =
    stages_advances g.W.Naming.work c.args.self.now c.args.exec c.in_ok-stage-in-Stages.field-0
    c.stage.new.self c.requires.alone c.in_ok-stage-in-Stages.ensures.stages
    c.has_sound_desk.ensures

pub returns-in_ok-ask-in-Asks-clause-advances : goal.returns-in_ok-ask-in-Asks-clause-advances
returns-in_ok-ask-in-Asks-clause-advances g c =
    asks_advances g.W.Naming.work c.args.self.now c.args.exec c.in_ok-ask-in-Asks.field-0
    c.ask.new.self c.requires.alone c.in_ok-ask-in-Asks.ensures.asks
    c.has_sound_desk-in-Asks.ensures

pub returns-in_ok-ask-in-Asks-clause-files : goal.returns-in_ok-ask-in-Asks-clause-files
returns-in_ok-ask-in-Asks-clause-files g c =
    goes_stand g.W.Naming.work c.args.self.now c.ask.new.self (steps.Ask c.args.exec)
    (applied.Noted c.in_ok-ask-in-Asks.field-0) g.F.Files.state c.args.output.now refl
    c.in_ok-ask-in-Asks.ensures.asks c.requires.stand

pub returns-in_ok-move_part-in-Moves-clause-advances :
    goal.returns-in_ok-move_part-in-Moves-clause-advances
returns-in_ok-move_part-in-Moves-clause-advances g c =
    moves_advances g.W.Naming.work c.args.self.now c.args.exec
    c.in_ok-move_part-in-Moves.field-0 c.move_part.new.self c.requires.alone
    c.in_ok-move_part-in-Moves.ensures.moves c.has_sound_desk-in-Moves.ensures
