use Rattle.std.proofs.Common.{List, ℕ, Option, None, refl, subst, sym}
use Rattle.sc_base.specs.Lists.{at_or}
use Rattle.sc_ids.specs.declared.attempts.Mark.TheVariants.{Driver}
use Rattle.sc_staging.specs.declared.outputs.Output.TheVariants.{Save}
use Rattle.sc_task.specs.Attempts.{AttemptData}
use Rattle.sc_desk.specs.Saving.{StagesPart}
use Rattle.sc_world.specs.Files.{OutputGoesOn, OutputStands, WritesPart}
use Rattle.sc_world.specs.Places.{HasPart}
use Rattle.sc_world.specs.Steps.{Stages}
use Rattle.sc_world.specs.WorldData.{WorldData, world_data}
use Rattle.sc_world.proofs.CodeParts.{stages_on, writes_part}
use Rattle.sc_world.proofs.CodeSaves.{stages_in, stages_keep}
use Rattle.sc_world.proofs.worlds.World.stage.Goals as goal

pub invariant_of-self-2 : goal.invariant_of-self-2
invariant_of-self-2 g c =
    let w = world_data c.self.inside.desk c.self.inside.stores.items c.self.inside.held.items in
    stages_keep g.W.Naming.work w c.args.exec c.in_ok-part.part.attempt
    c.in_ok-part.part.text.items c.in-Save.staging c.stage_part.new.staging c.in_ok-noted.noted
    c.stage_part.new.self c.settle_among.new.held.items c.self.invariant
    (subst (λ (h : List (Option AttemptData)). HasPart g.W.Naming.work
    (at_or h c.args.exec None) c.in_ok-part.part.attempt c.in_ok-part.part.text.items)
    c.as_slice.ensures.value c.in_ok-part.ensures)
    (subst (λ (text : List ℕ). StagesPart c.self.inside.desk Driver c.in_ok-part.part.attempt text
    c.in-Save.staging c.stage_part.new.staging c.in_ok-noted.noted c.stage_part.new.self)
    c.as_slice-text.ensures.value c.in_ok-noted.ensures.stages)
    c.settle_among.ensures c.is_sound.ensures

pub returns-clause-stages : goal.returns-clause-stages
returns-clause-stages g c =
    let w = world_data c.self.inside.desk c.self.inside.stores.items c.self.inside.held.items in
    subst (λ (x : WorldData). Stages x c.args.exec c.in_ok-noted.noted.answer
    (world_data c.stage_part.new.self c.self.inside.stores.items
    c.settle_among.new.held.items)) c.self.view_is
    (stages_in g.W.Naming.work w c.args.exec c.in_ok-part.part.attempt
    c.in_ok-part.part.text.items c.in-Save.staging c.stage_part.new.staging c.in_ok-noted.noted
    c.stage_part.new.self c.settle_among.new.held.items
    (subst (λ (h : List (Option AttemptData)). HasPart g.W.Naming.work
    (at_or h c.args.exec None) c.in_ok-part.part.attempt c.in_ok-part.part.text.items)
    c.as_slice.ensures.value c.in_ok-part.ensures)
    (subst (λ (text : List ℕ). StagesPart c.self.inside.desk Driver c.in_ok-part.part.attempt text
    c.in-Save.staging c.stage_part.new.staging c.in_ok-noted.noted c.stage_part.new.self)
    c.as_slice-text.ensures.value c.in_ok-noted.ensures.stages)
    c.settle_among.ensures)

pub returns-clause-files : goal.returns-clause-files
returns-clause-files g c =
    let w = world_data c.self.inside.desk c.self.inside.stores.items c.self.inside.held.items in
    subst (λ (x : WorldData). OutputGoesOn g.W.Naming.work x
    (world_data c.stage_part.new.self c.self.inside.stores.items c.settle_among.new.held.items)
    g.F.Files.state c.args.output.now (Save c.stage_part.new.staging)) c.self.view_is
    (stages_on g.W.Naming.work w
    (world_data c.stage_part.new.self c.self.inside.stores.items c.settle_among.new.held.items)
    c.args.exec c.in_ok-part.part.attempt c.in_ok-part.part.text.items g.F.Files.state
    c.args.output.now c.in-Save.staging c.stage_part.new.staging c.in_ok-noted.noted
    c.stage_part.new.self c.self.invariant c.is_within_types.ensures
    (subst (λ (h : List (Option AttemptData)). HasPart g.W.Naming.work
    (at_or h c.args.exec None) c.in_ok-part.part.attempt c.in_ok-part.part.text.items)
    c.as_slice.ensures.value c.in_ok-part.ensures)
    (subst (λ (text : List ℕ). StagesPart c.self.inside.desk Driver c.in_ok-part.part.attempt text
    c.in-Save.staging c.stage_part.new.staging c.in_ok-noted.noted c.stage_part.new.self)
    c.as_slice-text.ensures.value c.in_ok-noted.ensures.stages)
    refl c.in-Save.is
    (subst (λ (x : WorldData). OutputStands g.W.Naming.work x g.F.Files.state c.args.output.now)
    (sym c.self.view_is) c.requires.stand))

pub returns-clause-writes : goal.returns-clause-writes
returns-clause-writes g c =
    let w = world_data c.self.inside.desk c.self.inside.stores.items c.self.inside.held.items in
    subst (λ (x : WorldData). WritesPart g.W.Naming.work x c.args.exec c.in_ok-noted.noted.answer
    g.F.Files.state c.args.output.now (Save c.stage_part.new.staging)) c.self.view_is
    (writes_part g.W.Naming.work w c.args.exec c.in_ok-part.part.attempt
    c.in_ok-part.part.text.items g.F.Files.state c.args.output.now c.in-Save.staging
    c.stage_part.new.staging c.in_ok-noted.noted c.stage_part.new.self c.self.invariant
    (subst (λ (h : List (Option AttemptData)). HasPart g.W.Naming.work
    (at_or h c.args.exec None) c.in_ok-part.part.attempt c.in_ok-part.part.text.items)
    c.as_slice.ensures.value c.in_ok-part.ensures)
    (subst (λ (text : List ℕ). StagesPart c.self.inside.desk Driver c.in_ok-part.part.attempt text
    c.in-Save.staging c.stage_part.new.staging c.in_ok-noted.noted c.stage_part.new.self)
    c.as_slice-text.ensures.value c.in_ok-noted.ensures.stages)
    c.in-Save.is)
