-- What attempts that ask are answered, and what becomes of the committers.
use Rattle.std.specs.Prelude.{List, Bool, true, false, Option, Some, None, if◌then◌else◌, ◌==◌, ◌&&◌, slice_get}
use Rattle.sc_ids.specs.declared.attempts.AttemptId.{AttemptId}
use Rattle.sc_ids.specs.Changes.{change_at}
use Rattle.sc_commit.specs.declared.committers.Committer.{Committer}
use Rattle.sc_commit.specs.declared.committers.Committer.TheVariants.{Nobody, Holder, Winner}
use Rattle.sc_commit.specs.declared.committers.Ending.{Ending}
use Rattle.sc_commit.specs.declared.committers.Ending.TheVariants.{Succeeded, Failed}
use Rattle.sc_commit.specs.declared.committers.Permission.{Permission}
use Rattle.sc_commit.specs.declared.committers.Permission.TheVariants.{Granted, Denied, Over}

-- two attempts are one
abbrev pub is_same : AttemptId → AttemptId → Bool
is_same a b =
    (a.stage == b.stage)
    && ((a.stage_attempt == b.stage_attempt)
    && ((a.partition == b.partition) && (a.nth == b.nth)))

-- the answer to an attempt where another one came first
abbrev pub permitted_beside : AttemptId → AttemptId → Permission
permitted_beside first asker = if is_same first asker then Granted else Denied first

-- the answer to a running attempt
abbrev pub permitted : AttemptId → Committer → Permission
permitted asker Nobody = Granted
permitted asker (Holder attempt denies) = permitted_beside attempt asker
permitted asker (Winner attempt) = permitted_beside attempt asker

-- the same where its partition may be missing
abbrev pub permitted_at : AttemptId → Option Committer → Permission
permitted_at asker None = Over
permitted_at asker (Some committer) = permitted asker committer

-- the answer to an attempt: Over where it doesn't run
abbrev pub answer_to : List Committer → AttemptId → Bool → Permission
answer_to committers asker runs =
    if runs then permitted_at asker (slice_get committers asker.partition) else Over

-- the committer once a running attempt has asked: the first one holds, a later one is denied
abbrev pub asked : AttemptId → Committer → Committer
asked asker Nobody = Holder asker false
asked asker (Holder attempt denies) =
    if is_same attempt asker then Holder attempt denies else Holder attempt true
asked asker (Winner attempt) = Winner attempt

-- the committers then: nothing changes where the attempt doesn't run
abbrev pub after_ask : List Committer → AttemptId → Bool → List Committer
after_ask committers asker runs =
    if runs then change_at committers asker.partition (asked asker) else committers

-- an attempt holds the grant
abbrev pub holds : AttemptId → Committer → Bool
holds attempt Nobody = false
holds attempt (Holder holder denies) = is_same holder attempt
holds attempt (Winner winner) = false

-- a live grant has denied another attempt
abbrev pub denies : Committer → Bool
denies Nobody = false
denies (Holder attempt denied) = denied
denies (Winner attempt) = false

-- what its end makes of a holder
abbrev pub after_holder : AttemptId → Ending → Committer
after_holder holder Succeeded = Winner holder
after_holder holder Failed = Nobody

-- the committer once an attempt has ended: only a holder's end changes it
abbrev pub ended : AttemptId → Ending → Committer → Committer
ended attempt how Nobody = Nobody
ended attempt how (Holder holder denies) =
    if is_same holder attempt then after_holder holder how else Holder holder denies
ended attempt how (Winner winner) = Winner winner

-- the committers then
abbrev pub after_end : List Committer → AttemptId → Ending → List Committer
after_end committers attempt how = change_at committers attempt.partition (ended attempt how)
