-- The files of a save where an attempt writes its part, or moves it, in code.
use Rattle.std.proofs.Common.{◌≡◌, ◌∙◌, ℕ, true, List, Some, IfSome, refl, ap, subst, sym}
use Rattle.sc_base.specs.Outside.{FilesState, IsLaterFiles}
use Rattle.sc_ids.specs.declared.attempts.AttemptId.{AttemptId}
use Rattle.sc_ids.specs.declared.attempts.Mark.TheVariants.{Driver}
use Rattle.sc_lineage.specs.ScriptData.{WorkData}
use Rattle.sc_output.specs.Calls.{IsOpen}
use Rattle.sc_output.specs.Names.{IsWithinTypes}
use Rattle.sc_staging.specs.Done.{text_of}
use Rattle.sc_staging.specs.Outputs.{GoesOnIn}
use Rattle.sc_staging.specs.Parts.{part_rename, part_write}
use Rattle.sc_staging.specs.StagingData.{StagingData}
use Rattle.sc_staging.specs.declared.outputs.Output.{Output}
use Rattle.sc_staging.specs.declared.outputs.Output.TheVariants.{Save}
use Rattle.sc_core.specs.Saving.{is_granted, saver_phase}
use Rattle.sc_jobs.specs.JobData.{JobData}
use Rattle.sc_task.specs.Attempts.{AttemptData, computed, task_of}
use Rattle.sc_desk.specs.DeskData.{DeskData, core_of}
use Rattle.sc_desk.specs.Files.{CountsGoOn, FilesStand, HasReplay, part_texts}
use Rattle.sc_desk.specs.Saving.{CallsAs, MovesPart, StagesPart}
use Rattle.sc_desk.specs.Sound.{IsSoundDesk}
use Rattle.sc_desk.proofs.CountLemmas.{counts_moved, counts_staged, move_calls, stage_calls}
use Rattle.sc_desk.proofs.FilesLemmas.{files_go_on}
use Rattle.sc_desk.specs.declared.receipts.Noted.{Noted}
use Rattle.sc_world.specs.Files.{OutputGoesOn, OutputStands, RenamesPart, WritesPart}
use Rattle.sc_world.specs.Places.{HasPart, IsAttemptOf}
use Rattle.sc_world.specs.Runs.{IsWorld}
use Rattle.sc_world.specs.Steps.{phase_of}
use Rattle.sc_world.specs.WorldData.{WorldData, held_at}
use Rattle.sc_world.specs.declared.places.AttemptState.TheVariants as phases
use Rattle.sc_world.proofs.CodeSaves.{granted_at}
use Rattle.sc_world.proofs.PartLemmas.{part_text}

-- ---- a job that saves

-- what an executor has out is of the world's job
same_job : (work : WorkData) (w : WorldData) (exec : ℕ) (a : AttemptData) → IsWorld work w
    → held_at w exec ≡ Some a → (task_of a).job ≡ w.desk.job
same_job work w exec a is held =
    subst (λ o. IfSome o (λ x. (task_of x).job ≡ w.desk.job)) held (is.sound.of_job exec)

-- ---- files that go on

-- what is written is the text of its partition
text_is : (work : WorkData) (w : WorldData) (exec : ℕ) (a : AttemptId) (text : List ℕ)
    → IsWorld work w → HasPart work (held_at w exec) a text
    → text ≡ text_of (part_texts work w.desk.job.goal) a
text_is work w exec a text is part =
    part_text work part.task text part.is_text
    ∙ ap (λ (j : JobData). text_of (part_texts work j.goal) part.task.hand_out.attempt)
    (same_job work w exec (computed part.task) is part.held)
    ∙ ap (text_of (part_texts work w.desk.job.goal)) (sym part.is_of)

goes_on : {F : Type 0} (work : WorkData) (w after : WorldData) (desk : DeskData)
    (state : F → FilesState) (before left : StagingData) → left.dir ≡ before.dir
    → IsLaterFiles before.files left.files → after.desk ≡ desk
    → FilesStand work desk (Some left.dir) left.files
    × GoesOnIn (Some before.dir) before.files left.files
    → CountsGoOn w.desk desk before.files left.files
    → OutputGoesOn {F = F} work w after state (Save before) (Save left)
goes_on work w after desk state before left dir later is both counts =
    record {
      goes = record { dir = ap Some dir; later = later; goes = both.1 };
      stand = subst (λ (d : DeskData). FilesStand work d (Some left.dir) left.files) (sym is)
          both.0;
      counts = subst (λ (d : DeskData). CountsGoOn w.desk d before.files left.files) (sym is)
          counts;
    }

pub stages_on : {F : Type 0} (work : WorkData) (w after : WorldData) (exec : ℕ) (a : AttemptId)
    (text : List ℕ) (state : F → FilesState) (old : Output F) (before left : StagingData)
    (noted : Noted) (desk : DeskData) → IsWorld work w → IsWithinTypes a
    → HasPart work (held_at w exec) a text
    → StagesPart w.desk Driver a text before left noted desk → after.desk ≡ desk
    → old ≡ Save before → OutputStands work w state old
    → OutputGoesOn work w after state old (Save left)
stages_on work w after exec a text state old before left noted desk is within part stages same
    saved stands =
    subst (λ o. OutputGoesOn work w after state o (Save left)) (sym saved)
    (goes_on work w after desk state before left stages.dir stages.later same
    (files_go_on.staged work w.desk desk Driver a text before left noted within
    (λ given. text_is work w exec a text is part) stages
    (subst (λ o. OutputStands work w state o) saved stands))
    (counts_staged w.desk desk Driver a text before left noted stages))

-- an attempt that was granted may move its part
pub may_move : {F : Type 0} (work : WorkData) (w : WorldData) (a : AttemptId)
    (state : F → FilesState) (old : Output F) (before : StagingData) → IsSoundDesk work w.desk
    → HasReplay w.desk → IsWithinTypes a → old ≡ Save before → OutputStands work w state old
    → is_granted (saver_phase (core_of w.desk) a) ≡ true
    → IfSome before.files.shown (IsOpen (part_rename before.dir a))
may_move work w a state old before sound replay within saved stands may =
    files_go_on.may_move work w.desk a before.dir before.files within sound replay may
    (subst (λ o. OutputStands work w state o) saved stands)

pub moves_on : {F : Type 0} (work : WorkData) (w after : WorldData) (a : AttemptId)
    (state : F → FilesState) (old : Output F) (before left : StagingData) (noted : Noted)
    (desk : DeskData) → IsSoundDesk work w.desk → HasReplay w.desk → IsWithinTypes a
    → MovesPart w.desk Driver a before left noted desk → after.desk ≡ desk → old ≡ Save before
    → OutputStands work w state old → OutputGoesOn work w after state old (Save left)
moves_on work w after a state old before left noted desk sound replay within moves same saved
    stands =
    subst (λ o. OutputGoesOn work w after state o (Save left)) (sym saved)
    (goes_on work w after desk state before left moves.dir moves.later same
    (files_go_on.moved work w.desk desk Driver a before left noted within sound replay moves
    (subst (λ o. OutputStands work w state o) saved stands))
    (counts_moved w.desk desk Driver a before left noted moves))

-- ---- what one step leaves

pub writes_part : {F : Type 0} (work : WorkData) (w : WorldData) (exec : ℕ) (a : AttemptId)
    (text : List ℕ) (state : F → FilesState) (old : Output F) (before left : StagingData)
    (noted : Noted) (desk : DeskData) → IsWorld work w → HasPart work (held_at w exec) a text
    → StagesPart w.desk Driver a text before left noted desk → old ≡ Save before
    → WritesPart work w exec noted.answer state old (Save left)
writes_part work w exec a text state old before left noted desk is part stages saved =
    subst (λ o. WritesPart work w exec noted.answer state o (Save left)) (sym saved)
    (record {
      task = part.task;
      held = part.held;
      dir = before.dir;
      saves_to = refl;
      calls = subst (λ (x : AttemptId). Leaves x (text_of texts x)) part.is_of
          (subst (Leaves a) (text_is work w exec a text is part)
          (stage_calls w.desk desk Driver a text before left noted stages));
    })
  where
    texts : List (List ℕ)
    texts = part_texts work w.desk.job.goal

    Leaves : AttemptId → List ℕ → Type 0
    Leaves x t = CallsAs (part_write before.dir x t) before.files left.files noted.answer

pub renames_part : {F : Type 0} (w : WorldData) (exec : ℕ) (a : AttemptId)
    (state : F → FilesState) (old : Output F) (before left : StagingData) (noted : Noted)
    (desk : DeskData) → phase_of (held_at w exec) ≡ phases.Moves
    → IsAttemptOf (held_at w exec) a → MovesPart w.desk Driver a before left noted desk
    → old ≡ Save before → RenamesPart w exec noted.answer state old (Save left)
renames_part w exec a state old before left noted desk phase of moves saved =
    let t = granted_at (held_at w exec) a phase of in
    subst (λ o. RenamesPart w exec noted.answer state o (Save left)) (sym saved)
    (record {
      task = t.0;
      held = t.1;
      dir = before.dir;
      saves_to = refl;
      calls = subst (λ (x : AttemptId).
          CallsAs (part_rename before.dir x) before.files left.files noted.answer) t.2
          (move_calls w.desk desk Driver a before left noted moves);
    })
