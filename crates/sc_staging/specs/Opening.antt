-- How the files of a job that saves are opened.
use Rattle.std.specs.Prelude.{◌≡◌, ◌⊎◌, true, false}
use Rattle.sc_base.specs.Outside.{FilesState, Changes, IsQuietFiles}
use Rattle.sc_base.specs.Trees.{Tree, Path, has_dir, with_dir}
use Rattle.sc_files.specs.Calls.{CountsClash, CountsFault, IsAllOrNothing}
use Rattle.sc_output.specs.Names.{staging_path}
use Rattle.sc_staging.specs.declared.opening.Opened.{Opened}
use Rattle.sc_staging.specs.declared.opening.Opened.TheVariants as opens

-- the directory of a save and its staging area were made
abbrev pub opened_tree : Path → Tree → Tree
opened_tree dir t = with_dir (with_dir t dir) (staging_path dir)

-- a path is that of the directory of a save, or that of its staging area
abbrev pub IsOfSave : Path → Path → Type 0
IsOfSave dir path = (path ≡ dir) ⊎ (path ≡ staging_path dir)

-- neither of the two was there, and both were made
pub record IsOpened (dir : Path) (t u : Tree) : Type 0 where
  pub place : has_dir t dir ≡ false
  pub staging : has_dir t (staging_path dir) ≡ false
  pub made : u ≡ opened_tree dir t

-- the directory was there and nothing was made, or it wasn't and was made, and the staging area was
-- there
abbrev pub IsInTheWay : Path → Path → Tree → Tree → Type 0
IsInTheWay dir path t u =
    ((path ≡ dir) × (has_dir t dir ≡ true) × (u ≡ t))
    ⊎ ((path ≡ staging_path dir) × (has_dir t dir ≡ false)
    × (has_dir t (staging_path dir) ≡ true) × (u ≡ with_dir t dir))

-- the directory was made or wasn't, or it was, and the staging area was made or wasn't
abbrev pub IsHalfOpened : Path → Path → Tree → Tree → Type 0
IsHalfOpened dir path t u =
    ((path ≡ dir) × IsAllOrNothing (λ x. with_dir x dir) t u)
    ⊎ ((path ≡ staging_path dir) × (has_dir t dir ≡ false)
    × IsAllOrNothing (λ x. with_dir x (staging_path dir)) (with_dir t dir) u)

-- nothing was made, or the directory was, which wasn't there
abbrev pub IsOpenedNoFurther : Path → Tree → Tree → Type 0
IsOpenedNoFurther dir t u = (u ≡ t) ⊎ ((has_dir t dir ≡ false) × (u ≡ with_dir t dir))

-- the files of an opening, by its answer
abbrev pub files_in : {F : Type 0} → (F → FilesState) → Opened F → FilesState
files_in state (opens.Staging s) = s.files
files_in state (opens.Exists path files) = state files
files_in state (opens.Device path files) = state files
files_in state (opens.NoMemory files) = state files

-- Opens the files of a save, by the answer: both directories were made, one was there or its making
-- failed, which is told by its path and a count, or memory ran out.
abbrev pub Opens : {F : Type 0} → (F → FilesState) → Path → FilesState → Opened F → Type 0
Opens state dir before (opens.Staging s) =
    (s.dir ≡ dir) × IsQuietFiles before s.files
    × Changes (IsOpened dir) before.shown s.files.shown
Opens state dir before (opens.Exists path files) =
    IsOfSave dir path × CountsClash before (state files)
    × Changes (IsInTheWay dir path) before.shown (state files).shown
Opens state dir before (opens.Device path files) =
    IsOfSave dir path × CountsFault before (state files)
    × Changes (IsHalfOpened dir path) before.shown (state files).shown
Opens state dir before (opens.NoMemory files) =
    IsQuietFiles before (state files)
    × Changes (IsOpenedNoFurther dir) before.shown (state files).shown
