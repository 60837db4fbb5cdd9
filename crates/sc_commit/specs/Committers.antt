-- The committers of the partitions of a stage.
use Rattle.std.specs.Prelude.{ℕ, List, Option, Some, None}
use Rattle.sc_base.specs.Lists.{at_or}
use Rattle.sc_ids.specs.declared.attempts.AttemptId.{AttemptId}
use Rattle.sc_commit.specs.declared.committers.Committer.{Committer}
use Rattle.sc_commit.specs.declared.committers.Committer.TheVariants.{Nobody, Holder, Winner}

-- the committer of a partition: nobody where the partition isn't there
abbrev pub committer_at : List Committer → ℕ → Committer
committer_at committers partition = at_or committers partition Nobody

-- the attempt that holds the grant
abbrev pub holder_in : Committer → Option AttemptId
holder_in Nobody = None
holder_in (Holder attempt denies) = Some attempt
holder_in (Winner attempt) = None

-- the attempt that has won
abbrev pub winner_in : Committer → Option AttemptId
winner_in Nobody = None
winner_in (Holder attempt denies) = None
winner_in (Winner attempt) = Some attempt
