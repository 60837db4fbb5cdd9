-- Directories and files.
use Rattle.std.specs.Prelude.{ℕ, refl, Bool, true, false, not, ◌==◌, if◌then◌else◌, ◌&&◌, ◌||◌, List, [], ◌∷◌, Option, Some, None}
use Rattle.std.specs.Ordering.{nat_cmp}
use Rattle.std.specs.Cmp.Lexicographic.{slice_cmp}
use Rattle.std.specs.Coded.{Coded, code_by, coded×, coded_list, coded_ℕ}
use Rattle.std.specs.FinMap as maps
use Rattle.std.specs.FinSet as sets
use Rattle.std.specs.Option.{unwrap_or}
use Rattle.std.specs.Str.{bytes_eq}

-- the bytes of a path; its parts stand between slashes
abbrev pub Path : Type 0
Path = List ℕ

-- some directories
abbrev pub Dirs : Type 0
Dirs = sets.FinSet (slice_cmp nat_cmp)

-- the bytes of some files, by path
abbrev pub FileMap : Type 0
FileMap = maps.FinMap (slice_cmp nat_cmp) (List ℕ)

-- all directories and files that there are
pub record Tree : Type 0 where
  pub dirs : Dirs
  pub files : FileMap

abbrev pub tree : Dirs → FileMap → Tree
tree dirs files = record { dirs = dirs; files = files }

-- a tree told by its directories and its files
abbrev pub tree_code : Coded Tree
tree_code =
    code_by (Dirs × FileMap)
    (coded× (sets.code (coded_list coded_ℕ)) (maps.code (coded_list coded_ℕ) (coded_list coded_ℕ)))
    (λ t. (t.dirs, t.files)) (λ p. tree p.0 p.1) (λ _. refl)

-- no directory and no file
abbrev pub no_tree : Tree
no_tree = tree sets.empty maps.empty

-- whether a directory is there
abbrev pub has_dir : Tree → Path → Bool
has_dir t dir = sets.contains t.dirs dir

-- the bytes of the file at a path, if one is there
abbrev pub file_at : Tree → Path → Option (List ℕ)
file_at t path = maps.get t.files path

-- whether a path lies under a directory: the directory's path, a slash, and any rest
abbrev pub lies_under : Path → Path → Bool
lies_under [] [] = false
lies_under [] (c ∷ path) = c == 47
lies_under (d ∷ dir) [] = false
lies_under (d ∷ dir) (c ∷ path) = (c == d) && lies_under dir path

-- whether a path is a directory's own or lies under it
abbrev pub is_in : Path → Path → Bool
is_in dir path = bytes_eq dir path || lies_under dir path

-- the directory of a path with one byte more in front
abbrev pub dir_step : ℕ → Option Path → Option Path
dir_step c None = if c == 47 then Some [] else None
dir_step c (Some dir) = Some (c ∷ dir)

-- what stands before the last slash of a path, if it has one
abbrev pub dir_part : Path → Option Path
dir_part [] = None
dir_part (c ∷ path) = dir_step c (dir_part path)

-- whether a directory is there, if a path names one
abbrev pub dir_is_there : Dirs → Option Path → Bool
dir_is_there dirs None = true
dir_is_there dirs (Some dir) = sets.contains dirs dir

-- whether a file may be put at a path: the directory that the path names is there
abbrev pub has_place : Tree → Path → Bool
has_place t path = dir_is_there t.dirs (dir_part path)

-- after a directory was made
abbrev pub with_dir : Tree → Path → Tree
with_dir t dir = tree (sets.insert t.dirs dir) t.files

-- after a file was written
abbrev pub with_file : Tree → Path → List ℕ → Tree
with_file t path bytes = tree t.dirs (maps.insert t.files path bytes)

-- after a file was removed
abbrev pub without_file : Tree → Path → Tree
without_file t path = tree t.dirs (maps.remove t.files path)

-- after the file of one path was put at another one
abbrev pub moved : Tree → Path → Path → Tree
moved t from to =
    tree t.dirs (maps.insert (maps.remove t.files from) to (unwrap_or (file_at t from) []))

-- after a directory was removed with all that lay under it
abbrev pub without_tree : Tree → Path → Tree
without_tree t dir =
    tree (sets.retain t.dirs (λ path. not (is_in dir path)))
    (maps.retain_keys t.files (λ path. not (lies_under dir path)))
