-- The commit and the abort of a job that saves.
use Rattle.std.specs.Prelude.{ℕ, suc, ◌≡◌, List, [], ◌∷◌, ◌++◌, map, true, is_some}
use Rattle.sc_base.specs.Saves.{final_path, success_path}
use Rattle.sc_base.specs.Trees.{Tree, Path, file_at, has_dir}
use Rattle.sc_ids.specs.declared.attempts.AttemptId.{AttemptId}
use Rattle.sc_output.specs.Calls.{Call, remove_call, rename_call, write_call}
use Rattle.sc_output.specs.Names.{IsWithinTypes, committed_path, staging_path}

-- puts the file of a winner where its partition's is to be
abbrev pub final_rename : Path → AttemptId → Call
final_rename dir winner =
    rename_call (committed_path dir winner) (final_path dir winner.partition)

-- the calls of a job's commit: the winners' files are renamed in order, then the staging area is
-- removed, and at last the empty file says that all is there
abbrev pub commit_calls : Path → List AttemptId → List Call
commit_calls dir winners =
    map (final_rename dir) winners
    ++ remove_call (staging_path dir) ∷ write_call (success_path dir) [] ∷ []

-- the call of a job's abort
abbrev pub abort_calls : Path → List Call
abort_calls dir = remove_call (staging_path dir) ∷ []

-- winners of all partitions from `first` on, in order
abbrev pub AreWinnersFrom : ℕ → List AttemptId → Type 0
AreWinnersFrom first [] = Unit {0}
AreWinnersFrom first (winner ∷ winners) =
    (winner.partition ≡ first) × IsWithinTypes winner × AreWinnersFrom (suc first) winners

-- the files that winners committed are there
abbrev pub AreCommitted : Path → List AttemptId → Tree → Type 0
AreCommitted dir [] t = Unit {0}
AreCommitted dir (winner ∷ winners) t =
    (is_some (file_at t (committed_path dir winner)) ≡ true) × AreCommitted dir winners t

-- files as a job commit needs them: the directory and the winners' files are there
pub record IsReady (dir : Path) (winners : List AttemptId) (t : Tree) : Type 0 where
  pub place : has_dir t dir ≡ true
  pub committed : AreCommitted dir winners t
