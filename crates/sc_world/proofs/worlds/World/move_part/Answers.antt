use Rattle.std.proofs.Common.{◌≡◌, List, Option, None, refl, subst, sym}
use Rattle.sc_base.specs.Lists.{at_or}
use Rattle.sc_staging.specs.declared.outputs.Output.TheVariants.{Save}
use Rattle.sc_task.specs.Attempts.{AttemptData}
use Rattle.sc_world.specs.Files.{OutputGoesOn, OutputStands, RenamesPart}
use Rattle.sc_world.specs.Places.{IsAttemptOf}
use Rattle.sc_world.specs.Steps.{Moves, phase_of}
use Rattle.sc_world.specs.WorldData.{WorldData, held_at, world_data}
use Rattle.sc_world.specs.declared.places.AttemptState.TheVariants as phases
use Rattle.sc_world.proofs.CodeParts.{may_move, moves_on, renames_part}
use Rattle.sc_world.proofs.CodeSaves.{moves_in, moves_keep}
use Rattle.sc_world.proofs.worlds.World.move_part.Goals as goal

pub move_part-requires : goal.move_part-requires
move_part-requires g c =
    let w = world_data c.self.inside.desk c.self.inside.stores.items c.self.inside.held.items in
    record {
      staged = may_move g.W.Naming.work w c.attempt_among-attempt.result g.F.Files.state
          c.args.output.now c.in-Save.staging c.is_sound.ensures c.is_replay.ensures
          c.is_within_types.ensures c.in-Save.is
          (subst
          (λ (x : WorldData). OutputStands g.W.Naming.work x g.F.Files.state c.args.output.now)
          (sym c.self.view_is) c.requires.stand);
    }

pub invariant_of-self-2 : goal.invariant_of-self-2
invariant_of-self-2 g c =
    let w = world_data c.self.inside.desk c.self.inside.stores.items c.self.inside.held.items in
    moves_keep g.W.Naming.work w c.args.exec c.attempt_among-attempt.result c.in-Save.staging
    c.move_part.new.staging c.in_ok-noted.noted c.move_part.new.self
    c.settle_among.new.held.items c.self.invariant
    (subst (λ (x : WorldData). phase_of (held_at x c.args.exec) ≡ phases.Moves)
    (sym c.self.view_is) c.requires.moves)
    (subst (λ (h : List (Option AttemptData)). IsAttemptOf (at_or h c.args.exec None)
    c.attempt_among-attempt.result) c.as_slice.ensures.value c.attempt_among-attempt.ensures)
    c.in_ok-noted.ensures.moves c.settle_among.ensures c.is_sound-2.ensures

pub returns-clause-moves : goal.returns-clause-moves
returns-clause-moves g c =
    let w = world_data c.self.inside.desk c.self.inside.stores.items c.self.inside.held.items in
    subst (λ (x : WorldData). Moves x c.args.exec c.in_ok-noted.noted.answer
    (world_data c.move_part.new.self c.self.inside.stores.items c.settle_among.new.held.items))
    c.self.view_is
    (moves_in w c.args.exec c.attempt_among-attempt.result c.in-Save.staging
    c.move_part.new.staging c.in_ok-noted.noted c.move_part.new.self
    c.settle_among.new.held.items
    (subst (λ (x : WorldData). phase_of (held_at x c.args.exec) ≡ phases.Moves)
    (sym c.self.view_is) c.requires.moves)
    (subst (λ (h : List (Option AttemptData)). IsAttemptOf (at_or h c.args.exec None)
    c.attempt_among-attempt.result) c.as_slice.ensures.value c.attempt_among-attempt.ensures)
    c.in_ok-noted.ensures.moves c.settle_among.ensures)

pub returns-clause-files : goal.returns-clause-files
returns-clause-files g c =
    let w = world_data c.self.inside.desk c.self.inside.stores.items c.self.inside.held.items in
    subst (λ (x : WorldData). OutputGoesOn g.W.Naming.work x
    (world_data c.move_part.new.self c.self.inside.stores.items c.settle_among.new.held.items)
    g.F.Files.state c.args.output.now (Save c.move_part.new.staging)) c.self.view_is
    (moves_on g.W.Naming.work w
    (world_data c.move_part.new.self c.self.inside.stores.items c.settle_among.new.held.items)
    c.attempt_among-attempt.result g.F.Files.state c.args.output.now c.in-Save.staging
    c.move_part.new.staging c.in_ok-noted.noted c.move_part.new.self c.is_sound.ensures
    c.is_replay.ensures c.is_within_types.ensures c.in_ok-noted.ensures.moves refl c.in-Save.is
    (subst (λ (x : WorldData). OutputStands g.W.Naming.work x g.F.Files.state c.args.output.now)
    (sym c.self.view_is) c.requires.stand))

pub returns-clause-renames : goal.returns-clause-renames
returns-clause-renames g c =
    let w = world_data c.self.inside.desk c.self.inside.stores.items c.self.inside.held.items in
    subst (λ (x : WorldData). RenamesPart x c.args.exec c.in_ok-noted.noted.answer g.F.Files.state
    c.args.output.now (Save c.move_part.new.staging)) c.self.view_is
    (renames_part w c.args.exec c.attempt_among-attempt.result g.F.Files.state c.args.output.now
    c.in-Save.staging c.move_part.new.staging c.in_ok-noted.noted c.move_part.new.self
    (subst (λ (x : WorldData). phase_of (held_at x c.args.exec) ≡ phases.Moves)
    (sym c.self.view_is) c.requires.moves)
    (subst (λ (h : List (Option AttemptData)). IsAttemptOf (at_or h c.args.exec None)
    c.attempt_among-attempt.result) c.as_slice.ensures.value c.attempt_among-attempt.ensures)
    c.in_ok-noted.ensures.moves c.in-Save.is)
