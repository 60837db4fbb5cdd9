-- The attempts that a core knows to run.
use Rattle.std.proofs.Common.{◌≡◌, ◌≢◌, suc, ◌<◌, ◌≤◌, not, All, Bool, true, false, cond, List, [], ◌∷◌, length, Some, None, find, refl, arith, rules}
use Rattle.std.specs.List.{filter}
use Rattle.std.proofs.lemmas.List.Elements.{All-cons}
use Rattle.sc_ids.specs.declared.attempts.AttemptId.{AttemptId}
use Rattle.sc_commit.specs.Committing.{is_same}
use Rattle.sc_core.specs.CoreData.{is_of}
use Rattle.sc_core.specs.declared.running.Running.{Running}
use Rattle.sc_core.proofs.LookupLemmas.{is_itself, same_is}
use Rattle.sc_dag.proofs.Tests.{clash}

pub same_sym : (a b : AttemptId) → is_same a b ≡ is_same b a
same_sym a b = by (is_same a b) (is_same b a) refl refl
  where
    by : (x y : Bool) → is_same a b ≡ x → is_same b a ≡ y → x ≡ y
    by true true e f = refl
    by true false e f = absurd (clash (rw (same_is a b e) (is_itself b)) f)
    by false true e f = absurd (clash (rw (same_is b a f) (is_itself a)) e)
    by false false e f = refl

-- where nothing is found, nothing passes
pub none_passes :
    {A : Type 0} (q : A → Bool) (xs : List A) → find q xs ≡ None → All (λ x. q x ≡ false) xs
none_passes q [] e = λ i d l. absurd (omega (arith, l))
none_passes {A = A} q (x ∷ xs) e = by (q x) refl e (λ k. none_passes q xs k)
  where
    by : (b : Bool) → q x ≡ b → cond b (Some x) (find q xs) ≡ None
        → (find q xs ≡ None → All (λ y. q y ≡ false) xs) → All (λ y. q y ≡ false) (x ∷ xs)
    by true h n f = absurd (search (rules, n))
    by false h n f = All-cons (λ y. q y ≡ false) x xs h (f n)

-- what isn't taken away is found as before
pub find_filter :
    {A : Type 0} (q w : A → Bool) → ((x : A) → q x ≡ true → w x ≡ true) → (xs : List A)
    → find q (filter w xs) ≡ find q xs
find_filter q w keeps [] = refl
find_filter q w keeps (x ∷ xs) = by (q x) (w x) refl refl (find_filter q w keeps xs)
  where
    by : (a b : Bool) → q x ≡ a → w x ≡ b → find q (filter w xs) ≡ find q xs
        → find q (cond b (x ∷ filter w xs) (filter w xs)) ≡ cond a (Some x) (find q xs)
    by true true e f h = rw e refl
    by true false e f h = absurd (clash (keeps x e) f)
    by false true e f h = rw e h
    by false false e f h = h

-- a list from which something is taken away is shorter
pub shorter :
    {A : Type 0} (q : A → Bool) (xs : List A) → find q xs ≢ None
    → length (filter (λ x. not (q x)) xs) < length xs
shorter q [] some = absurd (some refl)
shorter {A = A} q (x ∷ xs) some = by (q x) some (λ k. shorter q xs k) (fewer xs)
  where
    fewer : (ys : List A) → length (filter (λ y. not (q y)) ys) ≤ length ys
    fewer [] = omega arith
    fewer (y ∷ ys) = one (q y) (fewer ys)
      where
        one : (b : Bool) → length (filter (λ z. not (q z)) ys) ≤ length ys
            → length (cond (not b) (y ∷ filter (λ z. not (q z)) ys) (filter (λ z. not (q z)) ys))
            ≤ suc (length ys)
        one true h = omega (arith, h)
        one false h = omega (arith, h)

    by : (b : Bool) → cond b (Some x) (find q xs) ≢ None
        → (find q xs ≢ None → length (filter (λ y. not (q y)) xs) < length xs)
        → length (filter (λ y. not (q y)) xs) ≤ length xs
        → length (cond (not b) (x ∷ filter (λ y. not (q y)) xs) (filter (λ y. not (q y)) xs))
        < suc (length xs)
    by true s f le = omega (arith, le)
    by false s f le = omega (arith, f s)

-- another attempt is found after one was taken away
pub found_beside :
    (a b : AttemptId) (running : List Running) → is_same a b ≡ false
    → find (is_of b) (filter (λ r. not (is_of a r)) running) ≡ find (is_of b) running
found_beside a b running other =
    find_filter (is_of b) (λ r. not (is_of a r)) keeps running
  where
    keeps : (r : Running) → is_of b r ≡ true → not (is_of a r) ≡ true
    keeps r e =
        let is : r.hand_out.attempt ≡ b = same_is r.hand_out.attempt b e in
        rw (is, same_sym b a, other) refl
