-- The files of a job that saves, as data.
use Rattle.std.specs.Prelude.{refl, ◌≡◌, IfSome, true}
use Rattle.std.specs.Coded.{Coded, code_by, coded×, coded_list, coded_ℕ}
use Rattle.sc_base.specs.Outside.{FilesState, files_state_code}
use Rattle.sc_base.specs.Trees.{Tree, Path, has_dir}
use Rattle.sc_output.specs.Names.{staging_path}

-- a staging at one moment
pub record StagingData : Type 0 where
  -- the directory of the save
  pub dir : Path
  -- the files, with what they show
  pub files : FilesState

abbrev pub staging_data : Path → FilesState → StagingData
staging_data dir files = record { dir = dir; files = files }

-- a staging told by its parts
abbrev pub staging_code : Coded StagingData
staging_code =
    code_by (Path × FilesState) (coded× (coded_list coded_ℕ) files_state_code)
    (λ s. (s.dir, s.files)) (λ p. staging_data p.0 p.1) (λ _. refl)

-- the directory of a save and its staging area are there
pub record AreThere (dir : Path) (t : Tree) : Type 0 where
  pub place : has_dir t dir ≡ true
  pub staging : has_dir t (staging_path dir) ≡ true

-- what every staging keeps: the name of its staging area, and both directories, where files show
pub record IsSoundStaging (area : Path) (s : StagingData) : Type 0 where
  pub named : area ≡ staging_path s.dir
  pub there : IfSome s.files.shown (AreThere s.dir)
