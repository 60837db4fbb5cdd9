-- What holds of the files of a save, call by call.
use Rattle.std.specs.Prelude.{ℕ, ◌≡◌, List, [], ◌∷◌, ◌++◌, IfSome, Ok, length}
use Rattle.sc_base.specs.Outside.{FilesState, Changes}
use Rattle.sc_base.specs.Trees.{Tree, Path, with_dir}
use Rattle.sc_ids.specs.declared.attempts.AttemptId.{AttemptId}
use Rattle.sc_output.specs.Calls.{IsOpen, MakesCalls}
use Rattle.sc_output.specs.Commits.{AreCommitted, AreWinnersFrom, abort_calls, commit_calls}
use Rattle.sc_output.specs.Names.{IsWithinTypes}
use Rattle.sc_base.specs.Saves.{IsApart, saved_tree}
use Rattle.sc_output.specs.Saved.{IsUnderWay}
use Rattle.sc_staging.specs.Done.{DidLast, Done, HasFiles, HaveRenamed, done_by, rename_deed, text_of, write_deed, wrote}
use Rattle.sc_staging.specs.Opening.{opened_tree}
use Rattle.sc_staging.specs.Parts.{EndsPart, part_rename, part_write}
use Rattle.sc_staging.specs.Renewal.{renewed_tree}
use Rattle.sc_staging.specs.StagingData.{AreThere}
use Rattle.sc_staging.specs.declared.parts.Written.{Written}

-- the files of attempts stand where both directories were made, and behind each call for a part
pub record FilesStand : Type 0 where
  pub opened : (dir : Path) (texts : List (List ℕ)) (t : Tree)
      → HasFiles dir texts [] (opened_tree dir t)
  pub written : (dir : Path) (texts : List (List ℕ)) (done : List Done) (a : AttemptId)
      (old new : FilesState) (answer : Written) → IsWithinTypes a
      → EndsPart (part_write dir a (text_of texts a)) old new answer
      → IfSome old.shown (HasFiles dir texts done)
      → IfSome new.shown (HasFiles dir texts (done ++ done_by a (write_deed answer) ∷ []))
  pub renamed : (dir : Path) (texts : List (List ℕ)) (done : List Done) (a : AttemptId)
      (old new : FilesState) (answer : Written) → IsWithinTypes a → DidLast a wrote done
      → EndsPart (part_rename dir a) old new answer
      → IfSome old.shown (HasFiles dir texts done)
      → IfSome new.shown (HasFiles dir texts (done ++ done_by a (rename_deed answer) ∷ []))
  pub renewed : (dir : Path) (texts : List (List ℕ)) (t : Tree)
      → AreThere dir t → HasFiles dir texts [] (renewed_tree dir t)
  -- who wrote last may rename, and who renamed last may win
  pub may_rename : (dir : Path) (texts : List (List ℕ)) (done : List Done) (a : AttemptId)
      (t : Tree) → IsWithinTypes a → DidLast a wrote done → HasFiles dir texts done t
      → IsOpen (part_rename dir a) t
  pub may_win : (dir : Path) (texts : List (List ℕ)) (done : List Done)
      (winners : List AttemptId) (t : Tree) → AreWinnersFrom 0 winners
      → HaveRenamed done winners → HasFiles dir texts done t → AreCommitted dir winners t

-- a save that was under way is under way
abbrev pub StaysUnderWay : Path → Tree → Tree → Type 0
StaysUnderWay dir t u = (opening : Tree) → IsUnderWay dir opening t → IsUnderWay dir opening u

-- a save is under way once both directories were made, and stays so behind each call; with its
-- staging area made anew it is as at the beginning
pub record WaysGoOn : Type 0 where
  pub opened : (dir : Path) (opening : Tree) → IsUnderWay dir opening (opened_tree dir opening)
  pub written : (dir : Path) (a : AttemptId) (text : List ℕ) (old new : FilesState)
      (answer : Written) → EndsPart (part_write dir a text) old new answer
      → Changes (StaysUnderWay dir) old.shown new.shown
  pub renamed : (dir : Path) (a : AttemptId) (old new : FilesState) (answer : Written)
      → EndsPart (part_rename dir a) old new answer
      → Changes (StaysUnderWay dir) old.shown new.shown
  pub renewed : (dir : Path) (opening t : Tree) → IsApart dir opening
      → IsUnderWay dir opening t → renewed_tree dir t ≡ opened_tree dir opening

-- where each partition's winner renamed its part last, a commit that was through leaves what a save
-- leaves
abbrev pub CommitSaves : Type 0
CommitSaves =
    (dir : Path) (texts : List (List ℕ)) (done : List Done) (winners : List AttemptId)
    (opening : Tree) (old new : FilesState)
    → IsApart dir opening → AreWinnersFrom 0 winners → length winners ≡ length texts
    → HaveRenamed done winners
    → IfSome old.shown (IsUnderWay dir opening) → IfSome old.shown (HasFiles dir texts done)
    → MakesCalls (commit_calls dir winners) old new (Ok tt)
    → IfSome new.shown (λ u. u ≡ saved_tree dir texts opening)

-- an abort that was through leaves the directory with nothing in it
abbrev pub AbortLeaves : Type 0
AbortLeaves =
    (dir : Path) (opening : Tree) (old new : FilesState) → IsApart dir opening
    → IfSome old.shown (IsUnderWay dir opening)
    → MakesCalls (abort_calls dir) old new (Ok tt)
    → IfSome new.shown (λ u. u ≡ with_dir opening dir)
