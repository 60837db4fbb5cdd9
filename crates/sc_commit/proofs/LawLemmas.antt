-- The laws of coordinators.
use Rattle.std.proofs.Common.{◌≡◌, ◌≢◌, ◌⊎◌, inl, inr, ℕ, ◌<◌, ◌≤◌, List, [], ◌∷◌, Bool, true, false, Some, None, length, get_or, slice_get, refl, ap, subst, sym, ◌∙◌, arith, rules, if◌then◌else◌}
use Rattle.std.proofs.lemmas.Bool.Decides.{nat_tests}
use Rattle.std.proofs.lemmas.Option.{slice_get_cases}
use Rattle.sc_ids.specs.declared.attempts.AttemptId.{AttemptId}
use Rattle.sc_ids.specs.Changes.{change_at}
use Rattle.sc_ids.proofs.ChangeLemmas.{at_or_change_same, at_or_slice_get}
use Rattle.sc_commit.specs.declared.committers.Committer.{Committer}
use Rattle.sc_commit.specs.declared.committers.Committer.TheVariants.{Nobody, Holder, Winner}
use Rattle.sc_commit.specs.declared.committers.Ending.{Ending}
use Rattle.sc_commit.specs.declared.committers.Ending.TheVariants.{Succeeded, Failed}
use Rattle.sc_commit.specs.declared.committers.Permission.TheVariants.{Granted, Denied, Over}
use Rattle.sc_commit.specs.CommitLaws.{DeniedExactly, GrantedHolds, HoldersStay, OverExactly, WinnersHeld, WinnersStay, holder_of, winner_of}
use Rattle.sc_commit.specs.CommitLaws.Call.{ask_call, end_call}
use Rattle.sc_commit.specs.Committers.{committer_at, holder_in, winner_in}
use Rattle.sc_commit.specs.Committing.{after_ask, after_end, after_holder, asked, ended, is_same, permitted, permitted_at, permitted_beside}
use Rattle.sc_commit.proofs.CommitLemmas.{change_cases}

-- an attempt is its four numbers
pub same_attempt : (a b : AttemptId) → is_same a b ≡ true → a ≡ b
same_attempt a b e =
    ap (λ n. attempt n a.stage_attempt a.partition a.nth) stage
    ∙ ap (λ n. attempt b.stage n a.partition a.nth) stage_attempt
    ∙ ap (λ n. attempt b.stage b.stage_attempt n a.nth) partition
    ∙ ap (λ n. attempt b.stage b.stage_attempt b.partition n) nth
  where
    attempt : ℕ → ℕ → ℕ → ℕ → AttemptId
    attempt s k p n = record { stage = s; stage_attempt = k; partition = p; nth = n }

    stage : a.stage ≡ b.stage
    stage = grind (arith, nat_tests)

    stage_attempt : a.stage_attempt ≡ b.stage_attempt
    stage_attempt = grind (arith, nat_tests)

    partition : a.partition ≡ b.partition
    partition = grind (arith, nat_tests)

    nth : a.nth ≡ b.nth
    nth = grind (arith, nat_tests)

-- an attempt is itself
pub is_same_itself : (a : AttemptId) → is_same a a ≡ true
is_same_itself a = grind (arith, nat_tests)

-- so what isn't the same is another one
pub other_attempt : (a b : AttemptId) → is_same a b ≡ false → a ≢ b
other_attempt a b e same =
    let yes' : is_same a b ≡ true = subst (λ c. is_same a c ≡ true) same (is_same_itself a) in
    absurd (search rules)

-- an attempt comes first at a committer
abbrev First : Committer → AttemptId → Type 0
First c attempt = (holder_in c ≡ Some attempt) ⊎ (winner_in c ≡ Some attempt)

-- the answer beside an attempt that came first
beside_over : (first asker : AttemptId) → permitted_beside first asker ≡ Over → ⊥
beside_over first asker e = by (is_same first asker) e
  where
    by : (b : Bool) → (if b then Granted else Denied first) ≡ Over → ⊥
    by true h = absurd (search rules)
    by false h = absurd (search rules)

beside_denied : (other asker first : AttemptId) → permitted_beside other asker ≡ Denied first
    → (other ≡ first) × (other ≢ asker)
beside_denied other asker first e = by (is_same other asker) refl e
  where
    by : (b : Bool) → is_same other asker ≡ b → (if b then Granted else Denied other) ≡ Denied first
        → (other ≡ first) × (other ≢ asker)
    by true is h = absurd (search rules)
    by false is h = (search rules, other_attempt other asker is)

beside_other : (first asker : AttemptId) → first ≢ asker
    → permitted_beside first asker ≡ Denied first
beside_other first asker apart = by (is_same first asker) refl
  where
    by : (b : Bool) → is_same first asker ≡ b
        → (if b then Granted else Denied first) ≡ Denied first
    by true is = absurd (apart (same_attempt first asker is))
    by false is = refl

beside_granted : (first asker : AttemptId) → permitted_beside first asker ≡ Granted
    → first ≡ asker
beside_granted first asker e = by (is_same first asker) refl e
  where
    by : (b : Bool) → is_same first asker ≡ b → (if b then Granted else Denied first) ≡ Granted
        → first ≡ asker
    by true is h = same_attempt first asker is
    by false is h = absurd (search rules)

-- the answer of a committer
never_over : (asker : AttemptId) (c : Committer) → permitted asker c ≡ Over → ⊥
never_over asker Nobody e = absurd (search rules)
never_over asker (Holder attempt denies) e = beside_over attempt asker e
never_over asker (Winner attempt) e = beside_over attempt asker e

denied_by : (asker first : AttemptId) (c : Committer) → permitted asker c ≡ Denied first
    → (first ≢ asker) × First c first
denied_by asker first Nobody e = absurd (search rules)
denied_by asker first (Holder attempt denies) e =
    let p = beside_denied attempt asker first e in
    (subst (λ a. a ≢ asker) p.0 p.1, inl (ap Some p.0))
denied_by asker first (Winner attempt) e =
    let p = beside_denied attempt asker first e in
    (subst (λ a. a ≢ asker) p.0 p.1, inr (ap Some p.0))

denied_beside : (asker first : AttemptId) (c : Committer) → first ≢ asker → First c first
    → permitted asker c ≡ Denied first
denied_beside asker first Nobody apart (inl e) = absurd (search rules)
denied_beside asker first Nobody apart (inr e) = absurd (search rules)
denied_beside asker first (Holder attempt denies) apart (inl e) =
    let same : attempt ≡ first = search rules in
    rw same (beside_other first asker apart)
denied_beside asker first (Holder attempt denies) apart (inr e) = absurd (search rules)
denied_beside asker first (Winner attempt) apart (inl e) = absurd (search rules)
denied_beside asker first (Winner attempt) apart (inr e) =
    let same : attempt ≡ first = search rules in
    rw same (beside_other first asker apart)

granted_first : (asker : AttemptId) (c : Committer) → permitted asker c ≡ Granted
    → First (asked asker c) asker
granted_first asker Nobody e = inl refl
granted_first asker (Holder attempt denies) e =
    inl (held (is_same attempt asker) ∙ ap Some (beside_granted attempt asker e))
  where
    held : (b : Bool)
        → holder_in (if b then Holder attempt denies else Holder attempt true) ≡ Some attempt
    held true = refl
    held false = refl
granted_first asker (Winner attempt) e = inr (ap Some (beside_granted attempt asker e))

-- the answer to a running attempt is that of the committer
answer_is : (committers : List Committer) (asker : AttemptId)
    → asker.partition < length committers
    → permitted_at asker (slice_get committers asker.partition)
    ≡ permitted asker (committer_at committers asker.partition)
answer_is committers asker within =
    ap (permitted_at asker) (at_or_slice_get committers asker.partition Nobody within)

pub over_exactly : OverExactly
over_exactly committers asker true within = (
  λ e. absurd (never_over asker (committer_at committers asker.partition)
      (sym (answer_is committers asker within) ∙ e)),
  λ e. absurd (search rules),
)
over_exactly committers asker false within = (λ e. refl, λ e. refl)

pub denied_exactly : DeniedExactly
denied_exactly committers asker first true within = (
  λ e. let p = denied_by asker first (committer_at committers asker.partition)
      (sym (answer_is committers asker within) ∙ e) in (refl, p.0, p.1),
  λ (runs, apart, h). answer_is committers asker within
      ∙ denied_beside asker first (committer_at committers asker.partition) apart h,
)
denied_exactly committers asker first false within =
    (λ e. absurd (search rules), λ (runs, apart, h). absurd (search rules))

pub granted_holds : GrantedHolds
granted_holds committers asker true e = at (slice_get_cases committers asker.partition).1
  where
    c : Committer
    c = committer_at committers asker.partition

    at : ((x : Committer) × (asker.partition < length committers)
        × (slice_get committers asker.partition ≡ Some x)
        × (get_or committers asker.partition x ≡ x))
        ⊎ ((length committers ≤ asker.partition)
        × (slice_get committers asker.partition ≡ None))
        → First (committer_at (change_at committers asker.partition (asked asker)) asker.partition)
        asker
    at (inl (x, within, is, same)) =
        rw (at_or_change_same committers asker.partition Nobody (asked asker) within)
        (granted_first asker c (sym (answer_is committers asker within) ∙ e))
    at (inr (past, is)) =
        let over : Over ≡ Granted = sym (ap (permitted_at asker) is) ∙ e in
        absurd (search rules)
granted_holds committers asker false e = absurd (search rules)

-- a grant outlives whoever asks
asked_holder : (asker holder : AttemptId) (c : Committer) → holder_in c ≡ Some holder
    → holder_in (asked asker c) ≡ Some holder
asked_holder asker holder Nobody e = absurd (search rules)
asked_holder asker holder (Holder attempt denies) e = by (is_same attempt asker)
  where
    by : (b : Bool)
        → holder_in (if b then Holder attempt denies else Holder attempt true) ≡ Some holder
    by true = e
    by false = e
asked_holder asker holder (Winner attempt) e = e

-- and the end of another one
ended_holder : (other holder : AttemptId) (how : Ending) (c : Committer) → other ≢ holder
    → holder_in c ≡ Some holder → holder_in (ended other how c) ≡ Some holder
ended_holder other holder how Nobody apart e = e
ended_holder other holder how (Holder attempt denies) apart e = by (is_same attempt other) refl
  where
    same : attempt ≡ holder
    same = search rules

    by : (b : Bool) → is_same attempt other ≡ b
        → holder_in (if b then after_holder attempt how else Holder attempt denies) ≡ Some holder
    by true is = absurd (apart (sym (same_attempt attempt other is) ∙ same))
    by false is = e
ended_holder other holder how (Winner attempt) apart e = e

-- a fact of a committer that a change keeps
kept : (P : Committer → Type 0) (committers : List Committer) (i p : ℕ)
    (f : Committer → Committer) → ((c : Committer) → P c → P (f c))
    → P (committer_at committers p) → P (committer_at (change_at committers i f) p)
kept P committers i p f keeps h = at (change_cases committers i f p)
  where
    at : (committer_at (change_at committers i f) p ≡ committer_at committers p)
        ⊎ ((p ≡ i) × (committer_at (change_at committers i f) p
        ≡ f (committer_at committers p)))
        → P (committer_at (change_at committers i f) p)
    at (inl same) = subst P (sym same) h
    at (inr (here, is)) = subst P (sym is) (keeps (committer_at committers p) h)

pub holders_stay : HoldersStay
holders_stay committers partition holder e = (asks, ends)
  where
    asks : (asker : AttemptId) (runs : Bool)
        → holder_of (after_ask committers asker runs) partition ≡ Some holder
    asks asker true =
        kept (λ c. holder_in c ≡ Some holder) committers asker.partition partition (asked asker)
        (asked_holder asker holder) e
    asks asker false = e

    ends : (other : AttemptId) (how : Ending) → other ≢ holder
        → holder_of (after_end committers other how) partition ≡ Some holder
    ends other how apart =
        kept (λ c. holder_in c ≡ Some holder) committers other.partition partition
        (ended other how) (λ c h. ended_holder other holder how c apart h) e

-- who wins by an end
won_by : (attempt winner : AttemptId) (how : Ending) (c : Committer)
    → winner_in (ended attempt how c) ≡ Some winner
    → (winner_in c ≡ Some winner)
    ⊎ ((holder_in c ≡ Some winner) × (attempt ≡ winner) × (how ≡ Succeeded))
won_by attempt winner how Nobody e = inl e
won_by attempt winner how (Holder holder denies) e = by (is_same holder attempt) refl how e
  where
    by : (b : Bool) → is_same holder attempt ≡ b → (h : Ending)
        → winner_in (if b then after_holder holder h else Holder holder denies) ≡ Some winner
        → (winner_in (Holder holder denies) ≡ Some winner)
        ⊎ ((Some holder ≡ Some winner) × (attempt ≡ winner) × (h ≡ Succeeded))
    by true is Succeeded w =
        let same : holder ≡ winner = search rules in
        inr (ap Some same, sym (same_attempt holder attempt is) ∙ same, refl)
    by true is Failed w = absurd (search rules)
    by false is h w = absurd (search rules)
won_by attempt winner how (Winner first) e = inl e

pub winners_held : WinnersHeld
winners_held committers partition attempt winner how e =
    at (change_cases committers attempt.partition (ended attempt how) partition)
  where
    after : Committer
    after = committer_at (change_at committers attempt.partition (ended attempt how)) partition

    at : (after ≡ committer_at committers partition)
        ⊎ ((partition ≡ attempt.partition)
        × (after ≡ ended attempt how (committer_at committers partition)))
        → (winner_of committers partition ≡ Some winner)
        ⊎ ((holder_of committers partition ≡ Some winner) × (attempt ≡ winner)
        × (how ≡ Succeeded))
    at (inl same) = inl (sym (ap winner_in same) ∙ e)
    at (inr (here, is)) =
        won_by attempt winner how (committer_at committers partition) (sym (ap winner_in is) ∙ e)

-- a winner outlives whoever asks and whoever ends
asked_winner : (asker winner : AttemptId) (c : Committer) → winner_in c ≡ Some winner
    → winner_in (asked asker c) ≡ Some winner
asked_winner asker winner Nobody e = absurd (search rules)
asked_winner asker winner (Holder attempt denies) e = absurd (search rules)
asked_winner asker winner (Winner attempt) e = e

ended_winner : (attempt winner : AttemptId) (how : Ending) (c : Committer)
    → winner_in c ≡ Some winner → winner_in (ended attempt how c) ≡ Some winner
ended_winner attempt winner how Nobody e = e
ended_winner attempt winner how (Holder holder denies) e = absurd (search rules)
ended_winner attempt winner how (Winner first) e = e

pub winners_stay : WinnersStay
winners_stay committers [] partition winner e = e
winners_stay committers (ask_call asker true ∷ calls) partition winner e =
    winners_stay (after_ask committers asker true) calls partition winner
    (kept (λ c. winner_in c ≡ Some winner) committers asker.partition partition
    (asked asker) (asked_winner asker winner) e)
winners_stay committers (ask_call asker false ∷ calls) partition winner e =
    winners_stay committers calls partition winner e
winners_stay committers (end_call attempt how ∷ calls) partition winner e =
    winners_stay (after_end committers attempt how) calls partition winner
    (kept (λ c. winner_in c ≡ Some winner) committers attempt.partition partition
    (ended attempt how) (ended_winner attempt winner how) e)
