-- Attempts that ask whether they may commit.
use Rattle.std.proofs.Common.{◌≡◌, ◌<◌, ◌≤◌, Bool, true, false, if◌then◌else◌, List, Some, None, length, get_or, slice_get, rules, ◌⊎◌, inl, inr}
use Rattle.std.proofs.lemmas.Option.{slice_get_cases}
use Rattle.sc_ids.specs.declared.attempts.AttemptId.{AttemptId}
use Rattle.sc_ids.proofs.ChangeLemmas.{change_at_past}
use Rattle.sc_commit.specs.declared.committers.Committer.{Committer}
use Rattle.sc_commit.specs.declared.committers.Committer.TheVariants.{Nobody, Holder, Winner}
use Rattle.sc_commit.specs.declared.committers.Permission.TheVariants.{Granted, Denied, Over}
use Rattle.sc_commit.specs.Committing.{after_ask, answer_to, asked, is_same, permitted}

-- where there is no place for an attempt, its asking changes nothing
pub asks_past : (committers : List Committer) (a : AttemptId)
    → answer_to committers a true ≡ Over → after_ask committers a true ≡ committers
asks_past committers a over = by (slice_get_cases committers a.partition).1
  where
    beside : (first : AttemptId) (b : Bool) → (if b then Granted else Denied first) ≡ Over → ⊥
    beside first true e = search (rules, e)
    beside first false e = search (rules, e)

    there : (k : Committer) → permitted a k ≡ Over → ⊥
    there Nobody e = search (rules, e)
    there (Holder first denies) e = beside first (is_same first a) e
    there (Winner first) e = beside first (is_same first a) e

    by : ((x : Committer) × (a.partition < length committers)
        × (slice_get committers a.partition ≡ Some x) × (get_or committers a.partition x ≡ x))
        ⊎ ((length committers ≤ a.partition) × (slice_get committers a.partition ≡ None))
        → after_ask committers a true ≡ committers
    by (inl (x, within, is, same)) = absurd (there x (rw is at over))
    by (inr (past, is)) = change_at_past committers a.partition (asked a) past
