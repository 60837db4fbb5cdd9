-- What holds of every coordinator.
use Rattle.std.specs.Prelude.{ℕ, List, None, IfSome, true, ◌≡◌, ◌≢◌}
use Rattle.sc_commit.specs.declared.committers.Committer.{Committer}
use Rattle.sc_commit.specs.Committers.{committer_at, holder_in, winner_in}
use Rattle.sc_commit.specs.Committing.{denies}

-- what holds of the committer of each partition
pub record IsSoundCommitter (partition : ℕ) (committer : Committer) : Type 0 where
  -- who holds the grant is of the partition
  pub holder : IfSome (holder_in committer) (λ attempt. attempt.partition ≡ partition)
  -- and so is who has won
  pub winner : IfSome (winner_in committer) (λ attempt. attempt.partition ≡ partition)
  -- where one has won there is no grant
  pub apart : IfSome (winner_in committer) (λ attempt. holder_in committer ≡ None)
  -- only a live grant denies
  pub denied : denies committer ≡ true → holder_in committer ≢ None

-- every coordinator
abbrev pub IsSoundCommit : List Committer → Type 0
IsSoundCommit committers =
    (partition : ℕ) → IsSoundCommitter partition (committer_at committers partition)
