-- How a staging area is made anew.
use Rattle.std.specs.Prelude.{◌≡◌, ◌⊎◌}
use Rattle.sc_base.specs.Outside.{FilesState, Changes, IsQuietFiles}
use Rattle.sc_base.specs.Trees.{Tree, Path, with_dir, without_tree}
use Rattle.sc_files.specs.Calls.{IsAllOrNothing, IsPartlyRemoved}
use Rattle.sc_output.specs.Calls.{IsNotDone}
use Rattle.sc_output.specs.Names.{staging_path}
use Rattle.sc_staging.specs.declared.renewal.Renewed.{Renewed}
use Rattle.sc_staging.specs.declared.renewal.Renewed.TheVariants as renews

-- the staging area was removed with all that was in it, and nothing else
abbrev pub cleared_tree : Path → Tree → Tree
cleared_tree dir t = without_tree t (staging_path dir)

-- and it was made anew
abbrev pub renewed_tree : Path → Tree → Tree
renewed_tree dir t = with_dir (cleared_tree dir t) (staging_path dir)

-- some of the staging area may be gone, or all of it is, and it was made anew or wasn't
abbrev pub IsHalfRenewed : Path → Tree → Tree → Type 0
IsHalfRenewed dir t u =
    IsPartlyRemoved (staging_path dir) t u
    ⊎ IsAllOrNothing (λ x. with_dir x (staging_path dir)) (cleared_tree dir t) u

-- the files of a renewal, by its answer
abbrev pub files_left : {F : Type 0} → (F → FilesState) → Renewed F → FilesState
files_left state (renews.Staging s) = s.files
files_left state (renews.Device path files) = state files
files_left state (renews.NoMemory files) = state files

-- Makes a staging area anew, by the answer: all was done, a call failed, or memory ran out.
abbrev pub Renews : {F : Type 0} → (F → FilesState) → Path → FilesState → Renewed F → Type 0
Renews state dir before (renews.Staging s) =
    (s.dir ≡ dir) × IsQuietFiles before s.files
    × Changes (λ t u. u ≡ renewed_tree dir t) before.shown s.files.shown
Renews state dir before (renews.Device path files) =
    (path ≡ staging_path dir) × IsNotDone before (state files)
    × Changes (IsHalfRenewed dir) before.shown (state files).shown
Renews state dir before (renews.NoMemory files) =
    IsQuietFiles before (state files)
    × Changes (IsAllOrNothing (cleared_tree dir)) before.shown (state files).shown
