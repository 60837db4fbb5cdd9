-- Laws of coordinators: what the answers say, and how long grants and wins last.
use Rattle.std.specs.Prelude.{ℕ, List, [], ◌∷◌, Bool, true, false, Option, Some, ◌≡◌, ◌≢◌, ◌<◌, ◌⊎◌, ◌↔◌, length}
use Rattle.sc_ids.specs.declared.attempts.AttemptId.{AttemptId}
use Rattle.sc_commit.specs.declared.committers.Committer.{Committer}
use Rattle.sc_commit.specs.declared.committers.Ending.{Ending}
use Rattle.sc_commit.specs.declared.committers.Ending.TheVariants.{Succeeded}
use Rattle.sc_commit.specs.declared.committers.Permission.TheVariants.{Granted, Denied, Over}
use Rattle.sc_commit.specs.Committers.{committer_at, holder_in, winner_in}
use Rattle.sc_commit.specs.Committing.{after_ask, after_end, answer_to}

-- the attempt of a partition that holds the grant
abbrev pub holder_of : List Committer → ℕ → Option AttemptId
holder_of committers partition = holder_in (committer_at committers partition)

-- the attempt of a partition that has won
abbrev pub winner_of : List Committer → ℕ → Option AttemptId
winner_of committers partition = winner_in (committer_at committers partition)

-- an attempt holds the grant of a partition, or has won it
abbrev pub ComesFirst : List Committer → ℕ → AttemptId → Type 0
ComesFirst committers partition attempt =
    (holder_of committers partition ≡ Some attempt)
    ⊎ (winner_of committers partition ≡ Some attempt)

-- Over comes exactly where the asker doesn't run
abbrev pub OverExactly : Type 0
OverExactly =
    (committers : List Committer) (asker : AttemptId) (runs : Bool)
    → asker.partition < length committers
    → (answer_to committers asker runs ≡ Over) ↔ (runs ≡ false)

-- Denied comes exactly where the asker runs, and another attempt holds the grant or has won
abbrev pub DeniedExactly : Type 0
DeniedExactly =
    (committers : List Committer) (asker first : AttemptId) (runs : Bool)
    → asker.partition < length committers
    → (answer_to committers asker runs ≡ Denied first)
    ↔ ((runs ≡ true) × (first ≢ asker) × ComesFirst committers asker.partition first)

-- who is granted holds the grant from then on, or has won before
abbrev pub GrantedHolds : Type 0
GrantedHolds =
    (committers : List Committer) (asker : AttemptId) (runs : Bool)
    → answer_to committers asker runs ≡ Granted
    → ComesFirst (after_ask committers asker runs) asker.partition asker

-- a grant lasts until its holder ends, whoever asks or ends before
abbrev pub HoldersStay : Type 0
HoldersStay =
    (committers : List Committer) (partition : ℕ) (holder : AttemptId)
    → holder_of committers partition ≡ Some holder
    → ((asker : AttemptId) (runs : Bool)
    → holder_of (after_ask committers asker runs) partition ≡ Some holder)
    × ((other : AttemptId) (how : Ending) → other ≢ holder
    → holder_of (after_end committers other how) partition ≡ Some holder)

-- only a holder that succeeds wins
abbrev pub WinnersHeld : Type 0
WinnersHeld =
    (committers : List Committer) (partition : ℕ) (attempt winner : AttemptId) (how : Ending)
    → winner_of (after_end committers attempt how) partition ≡ Some winner
    → (winner_of committers partition ≡ Some winner)
    ⊎ ((holder_of committers partition ≡ Some winner) × (attempt ≡ winner)
    × (how ≡ Succeeded))

-- a call on a coordinator
pub data Call : Type 0 where
  ask_call : AttemptId → Bool → Call
  end_call : AttemptId → Ending → Call

-- the committers after some calls, in order
abbrev pub after_calls : List Committer → List Call → List Committer
after_calls committers [] = committers
after_calls committers (ask_call asker runs ∷ calls) =
    after_calls (after_ask committers asker runs) calls
after_calls committers (end_call attempt how ∷ calls) =
    after_calls (after_end committers attempt how) calls

-- who has won once has won for good, so a partition never has two winners
abbrev pub WinnersStay : Type 0
WinnersStay =
    (committers : List Committer) (calls : List Call) (partition : ℕ) (winner : AttemptId)
    → winner_of committers partition ≡ Some winner
    → winner_of (after_calls committers calls) partition ≡ Some winner
