-- The files while a job runs, by whether it saves.
use Rattle.std.specs.Prelude.{◌≡◌, Option, Some, None}
use Rattle.sc_base.specs.Outside.{Changes, FilesState, IsLaterFiles}
use Rattle.sc_base.specs.Trees.{Path}
use Rattle.sc_staging.specs.Laws.{StaysUnderWay}
use Rattle.sc_staging.specs.declared.outputs.Output.{Output}
use Rattle.sc_staging.specs.declared.outputs.Output.TheVariants.{Nothing, Save}

-- the directory that is saved in, where one is
abbrev pub output_dir : {F : Type 0} → Output F → Option Path
output_dir (Nothing files) = None
output_dir (Save staging) = Some staging.dir

-- the files
abbrev pub output_files : {F : Type 0} → (F → FilesState) → Output F → FilesState
output_files state (Nothing files) = state files
output_files state (Save staging) = staging.files

-- files that are put aside stay as they are, and a save that was under way is under way
abbrev pub GoesOnIn : Option Path → FilesState → FilesState → Type 0
GoesOnIn None before after = after ≡ before
GoesOnIn (Some dir) before after = Changes (StaysUnderWay dir) before.shown after.shown

-- the files while a job goes on
pub record OutputGoes {F : Type 0} (state : F → FilesState) (before after : Output F)
    : Type 0 where
  pub dir : output_dir after ≡ output_dir before
  pub later : IsLaterFiles (output_files state before) (output_files state after)
  pub goes : GoesOnIn (output_dir before) (output_files state before) (output_files state after)
