-- How many attempts of a partition run.
use Rattle.std.proofs.Common.{◌≡◌, ◌≢◌, ℕ, ◌+◌, ◌≤◌, ◌==◌, not, All, Bool, true, false, cond, find, List, [], ◌∷◌, get_or, length, map, None, Some, refl, ap, sym, ◌∙◌, arith, rules, count_by}
use Rattle.std.specs.List.{AllPairs, filter}
use Rattle.std.proofs.lemmas.Bool.Decides.{nat_tests}
use Rattle.std.proofs.lemmas.List.Elements.{All-head, All-tail}
use Rattle.std.proofs.lemmas.List.Sums.{sum_by-cons}
use Rattle.sc_taskset.specs.Lookups.{copy_at, is_nth, without_copy}
use Rattle.sc_taskset.specs.declared.tasks.RunningCopy.{RunningCopy}
use Rattle.sc_taskset.proofs.FindLemmas.{pairs_head, pairs_tail}
use Rattle.sc_core.specs.declared.running.Running.{Running}
use Rattle.sc_core.proofs.RunningLemmas.{find_filter, shorter}

-- ---- counts over lists

-- what is taken away didn't count
pub count_filter : {A : Type 0} (p w : A → Bool) (xs : List A)
    → All (λ x. w x ≡ false → p x ≡ false) xs → count_by p (filter w xs) ≡ count_by p xs
count_filter p w [] all = refl
count_filter {A = A} p w (x ∷ xs) all =
    by (w x) refl (count_filter p w xs (All-tail (λ y. w y ≡ false → p y ≡ false) x xs all))
  where
    f : A → ℕ
    f y = cond (p y) 1 0

    by : (b : Bool) → w x ≡ b → count_by p (filter w xs) ≡ count_by p xs
        → count_by p (cond b (x ∷ filter w xs) (filter w xs)) ≡ count_by p (x ∷ xs)
    by true e h =
        let a = sum_by-cons f x (filter w xs) in
        let b = sum_by-cons f x xs in
        omega (arith, a, b, h)
    by false e h =
        let none = All-head (λ y. w y ≡ false → p y ≡ false) x xs all e in
        let zero : f x ≡ 0 = ap (λ b. cond b 1 0) none in
        let b = sum_by-cons f x xs in
        omega (arith, b, zero, h)

-- what is changed counts as before
pub count_map : {A : Type 0} (p : A → Bool) (g : A → A) (xs : List A)
    → ((x : A) → p (g x) ≡ p x) → count_by p (map g xs) ≡ count_by p xs
count_map p g [] same = refl
count_map {A = A} p g (x ∷ xs) same =
    let a = sum_by-cons f (g x) (map g xs) in
    let b = sum_by-cons f x xs in
    let one : f (g x) ≡ f x = ap (λ b. cond b 1 0) (same x) in
    let rest = count_map p g xs same in
    omega (arith, a, b, one, rest)
  where
    f : A → ℕ
    f y = cond (p y) 1 0

-- no more are left of those that are filtered
pub count_fewer : {A : Type 0} (p w : A → Bool) (xs : List A)
    → count_by p (filter w xs) ≤ count_by p xs
count_fewer p w [] = omega arith
count_fewer {A = A} p w (x ∷ xs) = by (w x) (count_fewer p w xs)
  where
    f : A → ℕ
    f y = cond (p y) 1 0

    by : (b : Bool) → count_by p (filter w xs) ≤ count_by p xs
        → count_by p (cond b (x ∷ filter w xs) (filter w xs)) ≤ count_by p (x ∷ xs)
    by true h =
        let a = sum_by-cons f x (filter w xs) in
        let b = sum_by-cons f x xs in
        omega (arith, a, b, h)
    by false h =
        let b = sum_by-cons f x xs in
        omega (arith, b, h)

-- and one less without one that counts
pub count_without : {A : Type 0} (p q : A → Bool) (xs : List A) (x : A) → find q xs ≡ Some x
    → p x ≡ true → count_by p (filter (λ y. not (q y)) xs) + 1 ≤ count_by p xs
count_without p q [] x found e = absurd (search (rules, found))
count_without {A = A} p q (y ∷ ys) x found e =
    by (q y) found (λ g. count_without p q ys x g e)
  where
    f : A → ℕ
    f z = cond (p z) 1 0

    left : List A
    left = filter (λ z. not (q z)) ys

    by : (b : Bool) → cond b (Some y) (find q ys) ≡ Some x
        → (find q ys ≡ Some x → count_by p (filter (λ z. not (q z)) ys) + 1 ≤ count_by p ys)
        → count_by p
        (cond (not b) (y ∷ filter (λ z. not (q z)) ys) (filter (λ z. not (q z)) ys)) + 1
        ≤ count_by p (y ∷ ys)
    by true g rest =
        let is : y ≡ x = search (rules, g) in
        let one : f y ≡ 1 = ap f is ∙ ap (λ b. cond b 1 0) e in
        let le = count_fewer p (λ z. not (q z)) ys in
        let b = sum_by-cons f y ys in
        omega (arith, one, le, b)
    by false g rest =
        let h = rest g in
        let a = sum_by-cons f y left in
        let b = sum_by-cons f y ys in
        omega (arith, a, b, h)

-- two counts beside one
pub count_sum : {A : Type 0} (p q r : A → Bool) (xs : List A)
    → ((x : A) → cond (p x) 1 0 ≤ cond (q x) 1 0 + cond (r x) 1 0)
    → count_by p xs ≤ count_by q xs + count_by r xs
count_sum p q r [] le = omega arith
count_sum {A = A} p q r (x ∷ xs) le =
    let a = sum_by-cons (λ (y : A). cond (p y) 1 0) x xs in
    let b = sum_by-cons (λ (y : A). cond (q y) 1 0) x xs in
    let c = sum_by-cons (λ (y : A). cond (r y) 1 0) x xs in
    let one = le x in
    let rest = count_sum p q r xs le in
    omega (arith, a, b, c, one, rest)

-- nothing that counts
pub count_none : {A : Type 0} (p : A → Bool) (xs : List A) → All (λ x. p x ≡ false) xs
    → count_by p xs ≡ 0
count_none p [] all = refl
count_none {A = A} p (x ∷ xs) all =
    let a = sum_by-cons f x xs in
    let none = All-head (λ y. p y ≡ false) x xs all in
    let zero : f x ≡ 0 = ap (λ b. cond b 1 0) none in
    let rest = count_none p xs (All-tail (λ y. p y ≡ false) x xs all) in
    omega (arith, a, zero, rest)
  where
    f : A → ℕ
    f y = cond (p y) 1 0

-- ---- running attempts are copies of their tasks

abbrev nth_of : Running → ℕ
nth_of r = r.hand_out.attempt.nth

-- no more of them run than are known in the task
pub count_copies : (p : Running → Bool) (rs : List Running) (copies : List RunningCopy)
    → All (λ r. p r ≡ true → copy_at (nth_of r) copies ≢ None) rs
    → AllPairs (λ q r. p q ≡ true → p r ≡ true → nth_of q ≢ nth_of r) rs
    → count_by p rs ≤ length copies
count_copies p [] copies all pairs = omega arith
count_copies p (r ∷ rs) copies all pairs =
    by (p r) refl
    (λ cs h. count_copies p rs cs h
    (pairs_tail (λ q s. p q ≡ true → p s ≡ true → nth_of q ≢ nth_of s) r rs pairs))
  where
    f : Running → ℕ
    f q = cond (p q) 1 0

    more : All (λ q. p q ≡ true → copy_at (nth_of q) copies ≢ None) rs
    more = All-tail (λ q. p q ≡ true → copy_at (nth_of q) copies ≢ None) r rs all

    -- another one is found beside this one
    beside : (m : ℕ) → nth_of r ≢ m → copy_at m copies ≢ None
        → copy_at m (without_copy (nth_of r) copies) ≢ None
    beside m ne some none =
        some (sym (find_filter (is_nth m) (λ c. not (is_nth (nth_of r) c)) keeps copies) ∙ none)
      where
        keeps : (c : RunningCopy) → is_nth m c ≡ true → not (is_nth (nth_of r) c) ≡ true
        keeps c e =
            let is : c.nth ≡ m = grind (arith, nat_tests, e) in
            let other : (c.nth == nth_of r) ≡ false = grind (arith, nat_tests, is, ne) in
            ap not other

    by : (b : Bool) → p r ≡ b
        → ((cs : List RunningCopy) → All (λ q. p q ≡ true → copy_at (nth_of q) cs ≢ None) rs
        → count_by p rs ≤ length cs)
        → count_by p (r ∷ rs) ≤ length copies
    by false e again =
        let a = sum_by-cons f r rs in
        let zero : f r ≡ 0 = ap (λ b. cond b 1 0) e in
        let le = again copies more in
        omega (arith, a, zero, le)
    by true e again =
        let a = sum_by-cons f r rs in
        let one : f r ≡ 1 = ap (λ b. cond b 1 0) e in
        let others = pairs_head (λ q s. p q ≡ true → p s ≡ true → nth_of q ≢ nth_of s) r rs pairs in
        let le =
        again (without_copy (nth_of r) copies)
        (λ i d l h. beside (nth_of (get_or rs i d)) (others i d l e h) (more i d l h)) in
        let short = shorter (is_nth (nth_of r)) copies
        (All-head (λ q. p q ≡ true → copy_at (nth_of q) copies ≢ None) r rs all e) in
        omega (arith, a, one, le, short)
