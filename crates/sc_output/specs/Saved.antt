-- What commits and aborts leave.
use Rattle.std.specs.Prelude.{ℕ, ◌≡◌, ◌≢◌, List, [], ◌∷◌, Some, false}
use Rattle.std.specs.FinSet as sets
use Rattle.sc_base.specs.Saves.{IsApart, saved_tree, success_path}
use Rattle.sc_base.specs.Trees.{Tree, Path, file_at, has_dir, lies_under, with_dir}
use Rattle.sc_ids.specs.declared.attempts.AttemptId.{AttemptId}
use Rattle.sc_output.specs.Calls.{IsPartOfTheWay, IsStoppedAt, after_calls}
use Rattle.sc_output.specs.Commits.{AreWinnersFrom, abort_calls, commit_calls}
use Rattle.sc_output.specs.Names.{committed_path, staging_path}

-- a save under way: its directory and the staging area were made, and beside these only files in
-- the staging area have changed
pub record IsUnderWay (dir : Path) (opening t : Tree) : Type 0 where
  pub dirs : t.dirs ≡ sets.insert (sets.insert opening.dirs dir) (staging_path dir)
  pub files : (q : Path) → lies_under (staging_path dir) q ≡ false
      → file_at t q ≡ file_at opening q

-- the files that winners committed have these texts, one for each winner
abbrev pub HaveTexts : Path → List AttemptId → List (List ℕ) → Tree → Type 0
HaveTexts dir [] [] t = Unit {0}
HaveTexts dir (winner ∷ winners) (text ∷ texts) t =
    (file_at t (committed_path dir winner) ≡ Some text) × HaveTexts dir winners texts t
HaveTexts dir winners texts t = ⊥

-- a commit that was through leaves what a save leaves
abbrev pub CommittedIsSaved : Type 0
CommittedIsSaved =
    (dir : Path) (winners : List AttemptId) (texts : List (List ℕ)) (opening t : Tree)
    → IsApart dir opening → IsUnderWay dir opening t → AreWinnersFrom 0 winners
    → HaveTexts dir winners texts t
    → after_calls t (commit_calls dir winners) ≡ saved_tree dir texts opening

-- an abort that was through leaves the directory with nothing in it
abbrev pub AbortedIsEmpty : Type 0
AbortedIsEmpty =
    (dir : Path) (opening t : Tree) → IsApart dir opening → IsUnderWay dir opening t
    → after_calls t (abort_calls dir) ≡ with_dir opening dir

-- all that doesn't lie under a directory is as before, the directory itself too
pub record IsSameOutside (dir : Path) (t u : Tree) : Type 0 where
  pub dirs : (q : Path) → lies_under dir q ≡ false → has_dir u q ≡ has_dir t q
  pub files : (q : Path) → lies_under dir q ≡ false → file_at u q ≡ file_at t q

-- a commit changes nothing outside its directory, however it ends
pub record CommitsStayWithin : Type 0 where
  pub done : (dir : Path) (winners : List AttemptId) (t : Tree)
      → IsSameOutside dir t (after_calls t (commit_calls dir winners))
  pub stopped : (dir : Path) (winners : List AttemptId) (path : Path) (t u : Tree)
      → IsStoppedAt (commit_calls dir winners) path t u → IsSameOutside dir t u
  pub on_the_way : (dir : Path) (winners : List AttemptId) (t u : Tree)
      → IsPartOfTheWay (commit_calls dir winners) t u → IsSameOutside dir t u

-- a commit that stopped left no file that says that all is there, unless that file's own write
-- failed; and it left the staging area, unless that was to be removed or is
pub record StopsLeave : Type 0 where
  pub success : (dir : Path) (winners : List AttemptId) (path : Path) (t u : Tree)
      → IsStoppedAt (commit_calls dir winners) path t u → path ≢ success_path dir
      → file_at u (success_path dir) ≡ file_at t (success_path dir)
  pub staging : (dir : Path) (winners : List AttemptId) (path : Path) (t u : Tree)
      → IsStoppedAt (commit_calls dir winners) path t u → path ≢ staging_path dir
      → path ≢ success_path dir → has_dir u (staging_path dir) ≡ has_dir t (staging_path dir)
