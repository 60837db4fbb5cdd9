-- Grants, once an attempt has asked or ended.
use Rattle.std.proofs.Common.{◌≡◌, ◌≢◌, ℕ, zero, suc, ◌==◌, ◌&&◌, Bool, true, false, if◌then◌else◌, List, [], ◌∷◌, Some, None, IfSome, refl, ap, sym, subst, ◌∙◌, arith, rules, true≢false}
use Rattle.std.proofs.lemmas.Bool.Decides.{nat_tests}
use Rattle.sc_ids.specs.Changes.{change_at}
use Rattle.sc_ids.specs.declared.attempts.AttemptId.{AttemptId}
use Rattle.sc_ids.proofs.ChangeLemmas.{at_or_change_other}
use Rattle.sc_commit.specs.CommitFacts.{IsSoundCommit}
use Rattle.sc_commit.specs.CommitLaws.{holder_of, winner_of}
use Rattle.sc_commit.specs.Committers.{committer_at, holder_in, winner_in}
use Rattle.sc_commit.specs.Committing.{after_end, after_holder, denies, ended, holds, is_same}
use Rattle.sc_commit.specs.declared.committers.Committer.{Committer}
use Rattle.sc_commit.specs.declared.committers.Committer.TheVariants.{Holder, Nobody, Winner}
use Rattle.sc_commit.specs.declared.committers.Ending.{Ending}
use Rattle.sc_commit.specs.declared.committers.Ending.TheVariants.{Failed, Succeeded}
use Rattle.sc_core.proofs.LookupLemmas.{is_itself, same_is}
use Rattle.sc_core.proofs.RunningLemmas.{same_sym}

-- ---- numbers

pub equal : (m n : ℕ) → (m == n) ≡ true → m ≡ n
equal m n e = grind (arith, nat_tests, e)

pub apart : (m n : ℕ) → (m == n) ≡ false → m ≢ n
apart m n e is = grind (arith, nat_tests, e, is)

pub itself : (n : ℕ) → (n == n) ≡ true
itself n = grind (arith, nat_tests)

-- ---- one committer changed

-- a change that leaves a place without anybody as it is
pub committer_here :
    (ks : List Committer) (i : ℕ) (f : Committer → Committer) → f Nobody ≡ Nobody
    → committer_at (change_at ks i f) i ≡ f (committer_at ks i)
committer_here [] i f none = sym none
committer_here (k ∷ ks) zero f none = refl
committer_here (k ∷ ks) (suc i) f none = committer_here ks i f none

pub committer_other :
    (ks : List Committer) (i p : ℕ) (f : Committer → Committer) → (p == i) ≡ false
    → committer_at (change_at ks i f) p ≡ committer_at ks p
committer_other ks i p f e = at_or_change_other ks i p Nobody f (apart p i e)

-- ---- who holds

-- the holder of a partition, by its committer
pub holder_is : (ks : List Committer) (p : ℕ) (h : AttemptId) → IsSoundCommit ks
    → holder_of ks p ≡ Some h → h.partition ≡ p
holder_is ks p h sound e = subst (λ o. IfSome o (λ a. a.partition ≡ p)) e (sound p).holder

-- who holds is the holder
pub holds_is : (k : Committer) (a : AttemptId) → holds a k ≡ true → holder_in k ≡ Some a
holds_is Nobody a e = absurd (true≢false (sym e))
holds_is (Holder h d) a e = ap (λ x. Some x) (same_is h a e)
holds_is (Winner w) a e = absurd (true≢false (sym e))

pub is_holds : (k : Committer) (a : AttemptId) → holder_in k ≡ Some a → holds a k ≡ true
is_holds Nobody a e = absurd (search (rules, e))
is_holds (Holder h d) a e = one e
  where
    one : Some h ≡ Some a → is_same h a ≡ true
    one f = (let is : h ≡ a = search (rules, f) in rw is (is_itself a))
is_holds (Winner w) a e = absurd (search (rules, e))

-- ---- an attempt has ended

-- another one holds as before
ended_holds : (a x : AttemptId) (how : Ending) (k : Committer) → is_same a x ≡ false
    → holds x (ended a how k) ≡ holds x k
ended_holds a x how Nobody other = refl
ended_holds a x how (Winner w) other = refl
ended_holds a x how (Holder h d) other = by (is_same h a) refl
  where
    over : (how : Ending) → holds x (after_holder h how) ≡ false
    over Failed = refl
    over Succeeded = refl

    by : (b : Bool) → is_same h a ≡ b
        → holds x (if b then after_holder h how else Holder h d) ≡ is_same h x
    by true e =
        over how ∙ sym (ap (λ (y : AttemptId). is_same y x) (same_is h a e) ∙ other)
    by false e = refl

pub holds_beside :
    (ks : List Committer) (a x : AttemptId) (how : Ending) → is_same a x ≡ false
    → holds x (committer_at (after_end ks a how) x.partition)
    ≡ holds x (committer_at ks x.partition)
holds_beside ks a x how other = by (x.partition == a.partition) refl
  where
    by : (b : Bool) → (x.partition == a.partition) ≡ b
        → holds x (committer_at (after_end ks a how) x.partition)
        ≡ holds x (committer_at ks x.partition)
    by true e =
        let is : x.partition ≡ a.partition = equal x.partition a.partition e in
        ap (λ (q : ℕ). holds x (committer_at (after_end ks a how) q)) is
        ∙ ap (holds x) (committer_here ks a.partition (ended a how) refl)
        ∙ ended_holds a x how (committer_at ks a.partition) other
        ∙ ap (λ (q : ℕ). holds x (committer_at ks q)) (sym is)
    by false e =
        ap (holds x) (committer_other ks a.partition x.partition (ended a how) e)

-- who holds then is another one, and held before
pub holder_ended :
    (ks : List Committer) (a : AttemptId) (how : Ending) (p : ℕ) (h : AttemptId)
    → IsSoundCommit ks → holder_of (after_end ks a how) p ≡ Some h
    → (holder_of ks p ≡ Some h) × (is_same a h ≡ false)
holder_ended ks a how p h sound e = by (p == a.partition) refl
  where
    none : (g : AttemptId) (how : Ending) → holder_in (after_holder g how) ≡ Some h → ⊥
    none g Failed f = search (rules, f)
    none g Succeeded f = search (rules, f)

    one : (k : Committer) → holder_in (ended a how k) ≡ Some h
        → (holder_in k ≡ Some h) × (is_same a h ≡ false)
    one Nobody f = absurd (search (rules, f))
    one (Winner w) f = absurd (search (rules, f))
    one (Holder g d) f = test (is_same g a) refl f
      where
        test : (b : Bool) → is_same g a ≡ b
            → holder_in (if b then after_holder g how else Holder g d) ≡ Some h
            → (Some g ≡ Some h) × (is_same a h ≡ false)
        test true is f = absurd (none g how f)
        test false is f =
            let same : g ≡ h = search (rules, f) in
            (f, same_sym a h ∙ (subst (λ y. is_same y a ≡ false) same is))

    other : (b : Bool) → is_same a h ≡ b → (p == a.partition) ≡ false
        → holder_of ks p ≡ Some h → is_same a h ≡ false
    other false is f g = is
    other true is f g =
        let same : a ≡ h = same_is a h is in
        let here : h.partition ≡ p = holder_is ks p h sound g in
        absurd (apart p a.partition f
        (sym here ∙ ap (λ (x : AttemptId). x.partition) (sym same)))

    by : (b : Bool) → (p == a.partition) ≡ b
        → (holder_of ks p ≡ Some h) × (is_same a h ≡ false)
    by true f =
        let is : p ≡ a.partition = equal p a.partition f in
        let there = one (committer_at ks a.partition)
        (ap holder_in (sym (committer_here ks a.partition (ended a how) refl))
        ∙ ap (holder_of (after_end ks a how)) (sym is) ∙ e) in
        (ap (holder_of ks) is ∙ there.0, there.1)
    by false f =
        let there : holder_of ks p ≡ Some h =
        ap holder_in (sym (committer_other ks a.partition p (ended a how) f)) ∙ e in
        (there, other (is_same a h) refl f there)

-- a failure wins nothing
pub failed_winners : (ks : List Committer) (a : AttemptId) (p : ℕ)
    → winner_of (after_end ks a Failed) p ≡ winner_of ks p
failed_winners ks a p = by (p == a.partition) refl
  where
    one : (k : Committer) → winner_in (ended a Failed k) ≡ winner_in k
    one Nobody = refl
    one (Winner w) = refl
    one (Holder g d) = test (is_same g a)
      where
        test : (b : Bool) → winner_in (if b then after_holder g Failed else Holder g d) ≡ None
        test true = refl
        test false = refl

    by : (b : Bool) → (p == a.partition) ≡ b
        → winner_of (after_end ks a Failed) p ≡ winner_of ks p
    by true e =
        let is : p ≡ a.partition = equal p a.partition e in
        rw is (ap winner_in (committer_here ks a.partition (ended a Failed) refl)
        ∙ one (committer_at ks a.partition))
    by false e = ap winner_in (committer_other ks a.partition p (ended a Failed) e)

-- what a holder denied is free
ended_denies : (a : AttemptId) (how : Ending) (k : Committer)
    → denies (ended a how k) ≡ (if holds a k then false else denies k)
ended_denies a how Nobody = refl
ended_denies a how (Winner w) = refl
ended_denies a how (Holder h d) = by (is_same h a)
  where
    over : (how : Ending) → denies (after_holder h how) ≡ false
    over Failed = refl
    over Succeeded = refl

    by : (b : Bool)
        → denies (if b then after_holder h how else Holder h d) ≡ (if b then false else d)
    by true = over how
    by false = refl

pub denies_ended : (ks : List Committer) (a : AttemptId) (how : Ending) (p : ℕ)
    → denies (committer_at (after_end ks a how) p)
    ≡ (if (p == a.partition) && holds a (committer_at ks a.partition) then false
    else denies (committer_at ks p))
denies_ended ks a how p = by (p == a.partition) refl
  where
    by : (b : Bool) → (p == a.partition) ≡ b
        → denies (committer_at (after_end ks a how) p)
        ≡ (if b && holds a (committer_at ks a.partition) then false
        else denies (committer_at ks p))
    by true e =
        let is : p ≡ a.partition = equal p a.partition e in
        rw is (ap denies (committer_here ks a.partition (ended a how) refl)
        ∙ ended_denies a how (committer_at ks a.partition))
    by false e = ap denies (committer_other ks a.partition p (ended a how) e)
