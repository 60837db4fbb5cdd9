-- The winners of a save, found one after another.
use Rattle.std.proofs.Common.{◌≡◌, ◌∙◌, ◌⊎◌, inl, inr, ℕ, zero, suc, ◌+◌, ◌<◌, List, [], ◌∷◌, ◌++◌, Option, Some, length, slice_get, refl, ap, sym, subst, arith}
use Rattle.std.specs.Prelude.{IsSomeAnd}
use Rattle.std.proofs.lemmas.Bool.{cases_eq}
use Rattle.std.proofs.lemmas.List.{length-append}
use Rattle.sc_ids.specs.declared.attempts.AttemptId.{AttemptId}
use Rattle.sc_output.specs.Commits.{AreWinnersFrom}
use Rattle.sc_output.specs.Names.{IsWithinTypes}
use Rattle.sc_commit.specs.CommitLaws.{winner_of}
use Rattle.sc_commit.specs.declared.committers.Committer.{Committer}
use Rattle.sc_core.specs.CoreData.{CoreData}
use Rattle.sc_context.specs.Outputs.{HaveWinners}

-- the winners of the first partitions, in order
pub record AreFirst (committers : List Committer) (count : ℕ) (winners : List AttemptId) : Type 0
  where
    pub many : length winners ≡ count
    pub each : (p : ℕ) → p < count → winner_of committers p ≡ slice_get winners p
    pub in_order : AreWinnersFrom 0 winners

-- ---- one more

order_more : (first : ℕ) (ws : List AttemptId) (w : AttemptId) → AreWinnersFrom first ws
    → w.partition ≡ first + length ws → IsWithinTypes w → AreWinnersFrom first (ws ++ w ∷ [])
order_more first [] w are at within = (omega (arith, at), within, tt)
order_more first (x ∷ ws) w are at within =
    let next : w.partition ≡ suc first + length ws = omega (arith, at) in
    (are.0, are.1, order_more (suc first) ws w are.2 next within)

get_before : {A : Type 0} (xs : List A) (x : A) (p : ℕ) → p < length xs
    → slice_get (xs ++ x ∷ []) p ≡ slice_get xs p
get_before [] x p within = absurd (omega (arith, within))
get_before (y ∷ xs) x zero within = refl
get_before (y ∷ xs) x (suc p) within = get_before xs x p (omega (arith, within))

get_last : {A : Type 0} (xs : List A) (x : A) → slice_get (xs ++ x ∷ []) (length xs) ≡ Some x
get_last [] x = refl
get_last (y ∷ xs) x = get_last xs x

-- where there is a winner it is of its partition
own_partition : (o : Option AttemptId) (p : ℕ) (w : AttemptId)
    → IsSomeAnd o (λ winner. winner.partition ≡ p) → o ≡ Some w → w.partition ≡ p
own_partition o p w some is = subst (λ x. IsSomeAnd x (λ winner. winner.partition ≡ p)) is some

pub first_more : (end : CoreData) (count : ℕ) (ws all : List AttemptId) (w : AttemptId)
    → HaveWinners end → AreFirst end.committers count ws → count < length end.committers
    → winner_of end.committers count ≡ Some w → IsWithinTypes w → all ≡ ws ++ w ∷ []
    → AreFirst end.committers (count + 1) all
first_more end count ws all w have first within is types pushed =
    subst (AreFirst end.committers (count + 1)) (sym pushed)
    (record {
      many = length-append ws (w ∷ []) ∙ ap (λ n. n + 1) first.many;
      each = λ p lt. by p lt (cases_eq p count);
      in_order = order_more 0 ws w first.in_order next types;
    })
  where
    own : w.partition ≡ count
    own = own_partition (winner_of end.committers count) count w (have.each count within) is

    next : w.partition ≡ 0 + length ws
    next = let many = first.many in omega (arith, own, many)

    by : (p : ℕ) → p < count + 1 → (p ≡ count) ⊎ (p ≡ count → ⊥)
        → winner_of end.committers p ≡ slice_get (ws ++ w ∷ []) p
    by p lt (inl same) =
        ap (winner_of end.committers) same ∙ is
        ∙ sym (ap (slice_get (ws ++ w ∷ [])) (same ∙ sym first.many) ∙ get_last ws w)
    by p lt (inr other) =
        let many = first.many in
        let before : p < count = grind (arith, other, lt) in
        first.each p before ∙ sym (get_before ws w p (omega (arith, before, many)))
