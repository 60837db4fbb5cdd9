-- Directories and files that stand in lists.
use Rattle.std.specs.Prelude.{ℕ, List}
use Rattle.std.specs.FinMap as maps
use Rattle.std.specs.FinSet as sets
use Rattle.sc_base.specs.Trees.{Path, Dirs, FileMap}

-- the directories of a list
abbrev pub dirs_in : List Path → Dirs
dirs_in names = sets.from_list names

-- the files of a list, by their paths; of two of one path the first counts
abbrev pub files_in : List (Path × List ℕ) → FileMap
files_in entries = maps.from_entries entries
