-- What a save leaves, and which directories are kept apart.
use Rattle.std.specs.Prelude.{ℕ, suc, ◌≡◌, ◌≢◌, ◌/◌, ◌%◌, List, [], ◌∷◌, ◌++◌, None, true, false, codes, decimal}
use Rattle.std.specs.FinMap as maps
use Rattle.std.specs.FinSet as sets
use Rattle.sc_base.specs.Trees.{Tree, Path, FileMap, file_at, has_dir, lies_under, tree}

-- a number in decimal, with zeros in front where it has less than five digits
abbrev pub five_digits : ℕ → List ℕ
five_digits n =
    decimal (n / 10000) ++ (decimal (n / 1000 % 10) ++ (decimal (n / 100 % 10)
    ++ (decimal (n / 10 % 10) ++ decimal (n % 10))))

-- the file of a partition in the end
abbrev pub final_path : Path → ℕ → Path
final_path dir partition = dir ++ (codes "/part-" ++ five_digits partition)

-- the empty file that says that all parts are there
abbrev pub success_path : Path → Path
success_path dir = dir ++ codes "/_SUCCESS"

-- files and the parts of partitions from `first` on, with these texts
abbrev pub with_parts : Path → ℕ → List (List ℕ) → FileMap → FileMap
with_parts dir first [] files = files
with_parts dir first (text ∷ texts) files =
    with_parts dir (suc first) texts (maps.insert files (final_path dir first) text)

-- what a save leaves: its directory, in it a part for each text and the empty file that says that
-- all are there, and all else as it was
abbrev pub saved_tree : Path → List (List ℕ) → Tree → Tree
saved_tree dir texts opening =
    tree (sets.insert opening.dirs dir)
    (maps.insert (with_parts dir 0 texts opening.files) (success_path dir) [])

-- there is no such directory, and nothing under it
pub record IsApart (dir : Path) (t : Tree) : Type 0 where
  pub itself : has_dir t dir ≡ false
  pub dirs : (q : Path) → lies_under dir q ≡ true → has_dir t q ≡ false
  pub files : (q : Path) → lies_under dir q ≡ true → file_at t q ≡ None

-- of two directories that differ, and of which none lies under the other, no path lies under both
abbrev pub NoneUnderBoth : Type 0
NoneUnderBoth =
    (dir other path : Path) → dir ≢ other → lies_under dir other ≡ false
    → lies_under other dir ≡ false → lies_under dir path ≡ true → lies_under other path ≡ false

-- a save leaves each directory apart that differs from its own, and of which none lies under the
-- other
abbrev pub SavesKeepApart : Type 0
SavesKeepApart =
    (dir other : Path) (texts : List (List ℕ)) (t : Tree) → IsApart dir t → dir ≢ other
    → lies_under dir other ≡ false → lies_under other dir ≡ false
    → IsApart dir (saved_tree other texts t)
