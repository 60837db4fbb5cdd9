-- Laws of the names of saves.
use Rattle.std.specs.Prelude.{ℕ, ◌≡◌, ◌≢◌, ◌<◌, ◌^◌, true, false}
use Rattle.sc_base.specs.Saves.{final_path, success_path}
use Rattle.sc_base.specs.Trees.{Path, lies_under}
use Rattle.sc_ids.specs.declared.attempts.AttemptId.{AttemptId}
use Rattle.sc_output.specs.Names.{IsWithinTypes, committed_path, staged_path, staging_path}

-- in one directory, different attempts and partitions have different names, and so have the kinds
-- of files
pub record NamesDiffer : Type 0 where
  pub staged : (dir : Path) (a b : AttemptId) → IsWithinTypes a → IsWithinTypes b
      → staged_path dir a ≡ staged_path dir b → a ≡ b
  pub committed : (dir : Path) (a b : AttemptId) → IsWithinTypes a → IsWithinTypes b
      → committed_path dir a ≡ committed_path dir b → a ≡ b
  pub final : (dir : Path) (p q : ℕ) → p < 2 ^ 64 → q < 2 ^ 64
      → final_path dir p ≡ final_path dir q → p ≡ q
  pub stages : (dir : Path) (a b : AttemptId) → staged_path dir a ≢ committed_path dir b
  pub success : (dir : Path) (p : ℕ) → final_path dir p ≢ success_path dir

-- what attempts write lies in the staging area of their directory, and what a commit leaves in the
-- directory beside it
pub record NamesLieWithin : Type 0 where
  pub staging : (dir : Path) → lies_under dir (staging_path dir) ≡ true
  pub staged : (dir : Path) (a : AttemptId)
      → lies_under (staging_path dir) (staged_path dir a) ≡ true
  pub committed : (dir : Path) (a : AttemptId)
      → lies_under (staging_path dir) (committed_path dir a) ≡ true
  pub final : (dir : Path) (p : ℕ) → lies_under dir (final_path dir p) ≡ true
  pub success : (dir : Path) → lies_under dir (success_path dir) ≡ true
  pub final_beside : (dir : Path) (p : ℕ)
      → lies_under (staging_path dir) (final_path dir p) ≡ false
  pub success_beside : (dir : Path) → lies_under (staging_path dir) (success_path dir) ≡ false
