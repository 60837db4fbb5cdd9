-- Lemmas on what every coordinator keeps.
use Rattle.std.proofs.Common.{◌≡◌, ℕ, ◌<◌, ◌≤◌, List, Bool, true, false, Some, None, length, get_or, slice_get, refl, ap, subst, sym, arith, rules, if◌then◌else◌, ◌==◌, ◌⊎◌, inl, inr}
use Rattle.std.proofs.lemmas.Bool.Decides.{nat_tests}
use Rattle.std.proofs.lemmas.Option.{slice_get_cases}
use Rattle.sc_ids.specs.declared.attempts.AttemptId.{AttemptId}
use Rattle.sc_ids.specs.Changes.{change_at}
use Rattle.sc_ids.proofs.ChangeLemmas.{at_or_change_other, at_or_change_same, change_at_past}
use Rattle.sc_commit.specs.declared.committers.Committer.{Committer}
use Rattle.sc_commit.specs.declared.committers.Committer.TheVariants.{Nobody, Holder, Winner}
use Rattle.sc_commit.specs.declared.committers.Ending.{Ending}
use Rattle.sc_commit.specs.declared.committers.Ending.TheVariants.{Succeeded, Failed}
use Rattle.sc_commit.specs.CommitFacts.{IsSoundCommit, IsSoundCommitter}
use Rattle.sc_commit.specs.Committers.{committer_at}
use Rattle.sc_commit.specs.Committing.{after_holder, asked, ended, is_same}

-- nobody is sound
nobody : (partition : ℕ) → IsSoundCommitter partition Nobody
nobody partition =
    record { holder = tt; winner = tt; apart = tt; denied = λ e. absurd (search rules) }

-- a holder of its partition is
held : (partition : ℕ) (attempt : AttemptId) (denies : Bool)
    → attempt.partition ≡ partition → IsSoundCommitter partition (Holder attempt denies)
held partition attempt denies e =
    record { holder = e; winner = tt; apart = tt; denied = λ d none. absurd (search rules) }

-- and a winner
won : (partition : ℕ) (attempt : AttemptId)
    → attempt.partition ≡ partition → IsSoundCommitter partition (Winner attempt)
won partition attempt e =
    record { holder = tt; winner = e; apart = refl; denied = λ d. absurd (search rules) }

-- an attempt of the partition that asks keeps it sound
pub asked_sound : (asker : AttemptId) (committer : Committer)
    → IsSoundCommitter asker.partition committer
    → IsSoundCommitter asker.partition (asked asker committer)
asked_sound asker Nobody s = held asker.partition asker false refl
asked_sound asker (Holder attempt denies) s = by (is_same attempt asker)
  where
    by : (b : Bool) → IsSoundCommitter asker.partition
        (if b then Holder attempt denies else Holder attempt true)
    by true = s
    by false = held asker.partition attempt true s.holder
asked_sound asker (Winner attempt) s = s

-- and one that ends
pub ended_sound : (attempt : AttemptId) (how : Ending) (committer : Committer)
    → IsSoundCommitter attempt.partition committer
    → IsSoundCommitter attempt.partition (ended attempt how committer)
ended_sound attempt how Nobody s = s
ended_sound attempt how (Holder holder denies) s = by (is_same holder attempt)
  where
    after : (e : Ending) → IsSoundCommitter attempt.partition (after_holder holder e)
    after Succeeded = won attempt.partition holder s.holder
    after Failed = nobody attempt.partition

    by : (b : Bool) → IsSoundCommitter attempt.partition
        (if b then after_holder holder how else Holder holder denies)
    by true = after how
    by false = s
ended_sound attempt how (Winner winner) s = s

-- a change of one committer leaves each one as it is, or changes it where it is that one
pub change_cases : (committers : List Committer) (i : ℕ) (f : Committer → Committer) (p : ℕ)
    → (committer_at (change_at committers i f) p ≡ committer_at committers p)
    ⊎ ((p ≡ i) × (committer_at (change_at committers i f) p
    ≡ f (committer_at committers p)))
change_cases committers i f p = at (slice_get_cases committers i).1
  where
    Goal : Type 0
    Goal = (committer_at (change_at committers i f) p ≡ committer_at committers p)
        ⊎ ((p ≡ i) × (committer_at (change_at committers i f) p
        ≡ f (committer_at committers p)))

    by : i < length committers → (b : Bool) → (p == i) ≡ b → Goal
    by within true e =
        let same : p ≡ i = grind (arith, nat_tests) in
        inr (same, rw same (at_or_change_same committers i Nobody f within))
    by within false e =
        let apart : p ≡ i → ⊥ = λ same. grind (arith, nat_tests) in
        inl (at_or_change_other committers i p Nobody f apart)

    at : ((x : Committer) × (i < length committers) × (slice_get committers i ≡ Some x)
        × (get_or committers i x ≡ x))
        ⊎ ((length committers ≤ i) × (slice_get committers i ≡ None)) → Goal
    at (inl (x, within, is, same)) = by within (p == i) refl
    at (inr (past, is)) =
        inl (ap (λ cs. committer_at cs p) (change_at_past committers i f past))

-- a change of one committer that keeps it sound keeps all sound
pub change_sound : (committers : List Committer) (i : ℕ) (f : Committer → Committer)
    → ((c : Committer) → IsSoundCommitter i c → IsSoundCommitter i (f c))
    → IsSoundCommit committers → IsSoundCommit (change_at committers i f)
change_sound committers i f keeps s = λ p. at p (change_cases committers i f p)
  where
    at : (p : ℕ) → (committer_at (change_at committers i f) p ≡ committer_at committers p)
        ⊎ ((p ≡ i) × (committer_at (change_at committers i f) p
        ≡ f (committer_at committers p)))
        → IsSoundCommitter p (committer_at (change_at committers i f) p)
    at p (inl same) = rw same (s p)
    at p (inr (here, is)) =
        rw is (subst (λ q. IsSoundCommitter q (f (committer_at committers p))) (sym here)
        (keeps (committer_at committers p)
        (subst (λ q. IsSoundCommitter q (committer_at committers p)) here (s p))))
