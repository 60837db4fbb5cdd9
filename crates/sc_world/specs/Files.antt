-- The files of a world's job while it goes on.
use Rattle.std.specs.Prelude.{◌≡◌, ℕ, Some}
use Rattle.sc_base.specs.Outside.{FilesState}
use Rattle.sc_base.specs.Trees.{Path}
use Rattle.sc_lineage.specs.ScriptData.{WorkData}
use Rattle.sc_core.specs.declared.answers.SideAnswer.{SideAnswer}
use Rattle.sc_staging.specs.Done.{text_of}
use Rattle.sc_staging.specs.Outputs.{OutputGoes, output_dir, output_files}
use Rattle.sc_staging.specs.Parts.{part_rename, part_write}
use Rattle.sc_staging.specs.declared.outputs.Output.{Output}
use Rattle.sc_net.specs.Tasks.{TaskData}
use Rattle.sc_task.specs.Attempts.{computed, granted}
use Rattle.sc_desk.specs.Files.{CountsGoOn, FilesStand, part_texts}
use Rattle.sc_desk.specs.Saving.{CallsAs}
use Rattle.sc_world.specs.WorldData.{WorldData, held_at}
use Rattle.sc_world.specs.declared.steps.Applied.{Applied}
use Rattle.sc_world.specs.declared.steps.Applied.TheVariants as applied
use Rattle.sc_world.specs.declared.steps.Step.{Step}
use Rattle.sc_world.specs.declared.steps.Step.TheVariants as steps

-- ---- while a job goes on

-- the files of a world's job stand
abbrev pub OutputStands : {F : Type 0}
    → WorkData → WorldData → (F → FilesState) → Output F → Type 0
OutputStands work w state output =
    FilesStand work w.desk (output_dir output) (output_files state output)

-- The files of a job go on: a save that was under way is under way, they stand as its journal tells
-- then, and they have counted just the faults that it tells of since.
pub record OutputGoesOn {F : Type 0} (work : WorkData) (before after : WorldData)
    (state : F → FilesState) (old new : Output F) : Type 0 where
  pub goes : OutputGoes state old new
  pub stand : OutputStands work after state new
  pub counts : CountsGoOn before.desk after.desk (output_files state old)
      (output_files state new)

-- ---- what one step leaves of them

-- An executor's attempt that was to write its part is answered so: it wrote the part of its
-- partition, or failed to, or was over and wrote nothing.
pub record WritesPart {F : Type 0} (work : WorkData) (w : WorldData) (exec : ℕ)
    (answer : SideAnswer) (state : F → FilesState) (old new : Output F) : Type 0 where
  pub task : TaskData
  pub held : held_at w exec ≡ Some (computed task)
  pub dir : Path
  pub saves_to : output_dir old ≡ Some dir
  pub calls : CallsAs (part_write dir task.hand_out.attempt
      (text_of (part_texts work w.desk.job.goal) task.hand_out.attempt))
      (output_files state old) (output_files state new) answer

-- the same of one that was to move its part, which gives it its committed name
pub record RenamesPart {F : Type 0} (w : WorldData) (exec : ℕ) (answer : SideAnswer)
    (state : F → FilesState) (old new : Output F) : Type 0 where
  pub task : TaskData
  pub held : held_at w exec ≡ Some (granted task)
  pub dir : Path
  pub saves_to : output_dir old ≡ Some dir
  pub calls : CallsAs (part_rename dir task.hand_out.attempt) (output_files state old)
      (output_files state new) answer

-- no other step touches the files
abbrev pub LeavesOutput : {F : Type 0} → WorkData → WorldData → Step → Applied
    → (F → FilesState) → Output F → Output F → Type 0
LeavesOutput work w (steps.Stage exec) (applied.Noted answer) state old new =
    WritesPart work w exec answer state old new
LeavesOutput work w (steps.Move exec) (applied.Noted answer) state old new =
    RenamesPart w exec answer state old new
LeavesOutput work w step answer state old new = output_files state new ≡ output_files state old
