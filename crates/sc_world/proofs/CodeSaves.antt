-- What an attempt of a save does beside the reports, as a step of its world.
use Rattle.std.proofs.Common.{◌≡◌, ◌∙◌, ℕ, List, Option, Some, refl, ap, subst, sym}
use Rattle.sc_ids.specs.Changes.{change_at}
use Rattle.sc_ids.specs.declared.attempts.AttemptId.{AttemptId}
use Rattle.sc_ids.specs.declared.attempts.Mark.TheVariants.{Driver}
use Rattle.sc_lineage.specs.ScriptData.{WorkData}
use Rattle.sc_core.specs.declared.events.SideEvent.{SideEvent}
use Rattle.sc_core.specs.declared.events.SideEvent.TheVariants.{Ask, Move, Stage}
use Rattle.sc_staging.specs.StagingData.{StagingData}
use Rattle.sc_net.specs.Tasks.{TaskData}
use Rattle.sc_task.specs.Attempts.{AttemptData, computed, granted, staged, task_of}
use Rattle.sc_desk.specs.Asides.{Notes}
use Rattle.sc_desk.specs.DeskData.{DeskData}
use Rattle.sc_desk.specs.Saving.{MovesPart, StagesPart}
use Rattle.sc_desk.specs.Sound.{IsSoundDesk}
use Rattle.sc_desk.specs.declared.receipts.Noted.{Noted}
use Rattle.sc_world.specs.Places.{HasPart, IsAttemptOf, settled}
use Rattle.sc_world.specs.Runs.{IsWorld}
use Rattle.sc_world.specs.Steps.{AsksOne, GoesAside, Moves, Stages, phase_of}
use Rattle.sc_world.specs.WorldData.{WorldData, held_at, world_data}
use Rattle.sc_world.specs.declared.places.AttemptState.TheVariants as phases
use Rattle.sc_world.specs.declared.steps.Applied.TheVariants as applied
use Rattle.sc_world.specs.declared.steps.Step.TheVariants as steps
use Rattle.sc_world.proofs.CodeRests.{asks_staged, moves_granted}
use Rattle.sc_world.proofs.KeepLemmas.{steps_keep_world}

-- ---- steps

aside_in : (w : WorldData) (exec : ℕ) (before : AttemptData) (event : SideEvent) (noted : Noted)
    (desk : DeskData) (held : List (Option AttemptData)) → held_at w exec ≡ Some before
    → Notes w.desk Driver event noted desk
    → held ≡ change_at w.held exec (λ _. settled (held_at w exec) noted.answer)
    → GoesAside w exec before event noted.answer (world_data desk w.stores held)
aside_in w exec before event noted desk held has notes is =
    record {
      held = has;
      desk = desk;
      noted = noted;
      notes = notes;
      told = refl;
      is = ap (world_data desk w.stores)
          (is ∙ ap (λ (o : Option AttemptData). change_at w.held exec
          (λ _. settled o noted.answer)) has);
    }

pub stages_in : (work : WorkData) (w : WorldData) (exec : ℕ) (a : AttemptId) (text : List ℕ)
    (before left : StagingData) (noted : Noted) (desk : DeskData)
    (held : List (Option AttemptData)) → HasPart work (held_at w exec) a text
    → StagesPart w.desk Driver a text before left noted desk
    → held ≡ change_at w.held exec (λ _. settled (held_at w exec) noted.answer)
    → Stages w exec noted.answer (world_data desk w.stores held)
stages_in work w exec a text before left noted desk held part stages is =
    record {
      task = part.task;
      part = part.is_text.1.part.0;
      wrote = stages.wrote;
      goes = aside_in w exec (computed part.task)
          (Stage part.task.hand_out.attempt stages.wrote) noted desk held part.held
          (subst (λ (x : AttemptId). Notes w.desk Driver (Stage x stages.wrote) noted desk)
          part.is_of stages.notes)
          is;
    }

-- an attempt that asks, or moves its part, with its numbers
pub staged_at : (o : Option AttemptData) (a : AttemptId) → phase_of o ≡ phases.Asks
    → IsAttemptOf o a → (t : TaskData) × (o ≡ Some (staged t)) × (a ≡ t.hand_out.attempt)
staged_at o a phase of =
    let t = asks_staged of.a (ap phase_of (sym of.is_held) ∙ phase) in (
      t.0,
      of.is_held ∙ ap Some t.1,
      of.is_of ∙ ap (λ (x : AttemptData).
          (task_of x).hand_out.attempt) t.1,
    )

pub granted_at : (o : Option AttemptData) (a : AttemptId) → phase_of o ≡ phases.Moves
    → IsAttemptOf o a → (t : TaskData) × (o ≡ Some (granted t)) × (a ≡ t.hand_out.attempt)
granted_at o a phase of =
    let t = moves_granted of.a (ap phase_of (sym of.is_held) ∙ phase) in (
      t.0,
      of.is_held ∙ ap Some t.1,
      of.is_of ∙ ap (λ (x : AttemptData).
          (task_of x).hand_out.attempt) t.1,
    )

pub asks_in : (w : WorldData) (exec : ℕ) (a : AttemptId) (noted : Noted) (desk : DeskData)
    (held : List (Option AttemptData)) → phase_of (held_at w exec) ≡ phases.Asks
    → IsAttemptOf (held_at w exec) a → Notes w.desk Driver (Ask a) noted desk
    → held ≡ change_at w.held exec (λ _. settled (held_at w exec) noted.answer)
    → AsksOne w exec noted.answer (world_data desk w.stores held)
asks_in w exec a noted desk held phase of notes is =
    let t = staged_at (held_at w exec) a phase of in
    record {
      task = t.0;
      goes = aside_in w exec (staged t.0) (Ask t.0.hand_out.attempt) noted desk held t.1
          (subst (λ (x : AttemptId). Notes w.desk Driver (Ask x) noted desk) t.2 notes) is;
    }

pub moves_in : (w : WorldData) (exec : ℕ) (a : AttemptId) (before left : StagingData)
    (noted : Noted) (desk : DeskData) (held : List (Option AttemptData))
    → phase_of (held_at w exec) ≡ phases.Moves → IsAttemptOf (held_at w exec) a
    → MovesPart w.desk Driver a before left noted desk
    → held ≡ change_at w.held exec (λ _. settled (held_at w exec) noted.answer)
    → Moves w exec noted.answer (world_data desk w.stores held)
moves_in w exec a before left noted desk held phase of moves is =
    let t = granted_at (held_at w exec) a phase of in
    record {
      task = t.0;
      renamed = moves.renamed;
      goes = aside_in w exec (granted t.0) (Move t.0.hand_out.attempt moves.renamed) noted desk
          held t.1
          (subst (λ (x : AttemptId). Notes w.desk Driver (Move x moves.renamed) noted desk) t.2
          moves.notes)
          is;
    }

-- ---- what every world keeps

pub stages_keep : (work : WorkData) (w : WorldData) (exec : ℕ) (a : AttemptId) (text : List ℕ)
    (before left : StagingData) (noted : Noted) (desk : DeskData)
    (held : List (Option AttemptData)) → IsWorld work w → HasPart work (held_at w exec) a text
    → StagesPart w.desk Driver a text before left noted desk
    → held ≡ change_at w.held exec (λ _. settled (held_at w exec) noted.answer)
    → IsSoundDesk work desk → IsWorld work (world_data desk w.stores held)
stages_keep work w exec a text before left noted desk held is part stages held_is sound =
    steps_keep_world work w (world_data desk w.stores held) (steps.Stage exec)
    (applied.Noted noted.answer) is
    (stages_in work w exec a text before left noted desk held part stages held_is) sound

pub asks_keep : (work : WorkData) (w : WorldData) (exec : ℕ) (a : AttemptId) (noted : Noted)
    (desk : DeskData) (held : List (Option AttemptData)) → IsWorld work w
    → phase_of (held_at w exec) ≡ phases.Asks → IsAttemptOf (held_at w exec) a
    → Notes w.desk Driver (Ask a) noted desk
    → held ≡ change_at w.held exec (λ _. settled (held_at w exec) noted.answer)
    → IsSoundDesk work desk → IsWorld work (world_data desk w.stores held)
asks_keep work w exec a noted desk held is phase of notes held_is sound =
    steps_keep_world work w (world_data desk w.stores held) (steps.Ask exec)
    (applied.Noted noted.answer) is
    (asks_in w exec a noted desk held phase of notes held_is) sound

pub moves_keep : (work : WorkData) (w : WorldData) (exec : ℕ) (a : AttemptId)
    (before left : StagingData) (noted : Noted) (desk : DeskData)
    (held : List (Option AttemptData)) → IsWorld work w
    → phase_of (held_at w exec) ≡ phases.Moves → IsAttemptOf (held_at w exec) a
    → MovesPart w.desk Driver a before left noted desk
    → held ≡ change_at w.held exec (λ _. settled (held_at w exec) noted.answer)
    → IsSoundDesk work desk → IsWorld work (world_data desk w.stores held)
moves_keep work w exec a before left noted desk held is phase of moves held_is sound =
    steps_keep_world work w (world_data desk w.stores held) (steps.Move exec)
    (applied.Noted noted.answer) is
    (moves_in w exec a before left noted desk held phase of moves held_is) sound
