-- Lemmas on counts of the items that pass a test.
use Rattle.std.proofs.Common.{◌≡◌, ℕ, ◌+◌, ◌-◌, ◌<◌, ◌≤◌, zero, suc, Bool, true, false, cond, ◌&&◌, List, [], ◌∷◌, length, refl, ap, sym, ◌∙◌, arith, true≢false}
use Rattle.std.proofs.lemmas.List.Sums.{count_by-le-length, sum_by-cons}
use Rattle.std.specs.List.{count_by, list_all, range_with_len}
use Rattle.sc_base.specs.Lists.{at_or, numbers_below, numbers_from}
use Rattle.sc_ids.specs.declared.blocks.Loc.{Loc}
use Rattle.sc_ids.specs.Changes.{change_at}
use Rattle.sc_tracker.specs.declared.outputs.Output.{Output}
use Rattle.sc_tracker.specs.Outputs.{forgotten, is_here, never, output_in, placed}

-- one more item
pub count_cons : {A : Type 0} (test : A → Bool) (x : A) (xs : List A)
    → count_by test (x ∷ xs) ≡ cond (test x) 1 0 + count_by test xs
count_cons test x xs = sum_by-cons (λ y. cond (test y) 1 0) x xs

-- the numbers of a range
pub range_numbers : (a n : ℕ) → range_with_len a n ≡ numbers_from a n
range_numbers a zero = refl
range_numbers a (suc n) =
    let one : a + 1 ≡ suc a = omega arith in
    ap (λ b. a ∷ range_with_len b n) one ∙ ap (λ ks. a ∷ ks) (range_numbers (suc a) n)

-- a test of numbers, each one higher
numbers_shift : (test : ℕ → Bool) (a n : ℕ)
    → list_all test (numbers_from (suc a) n) ≡ list_all (λ i. test (suc i)) (numbers_from a n)
numbers_shift test a zero = refl
numbers_shift test a (suc n) =
    ap (λ b. test (suc a) && b) (numbers_shift test (suc a) n)

-- where fewer pass than there are numbers, some number has no item that does
pub few_pass : {A : Type 0} (test : A → Bool) (d : A) → test d ≡ false → (xs : List A) (n : ℕ)
    → count_by test xs < n → list_all (λ i. test (at_or xs i d)) (numbers_below n) ≡ false
few_pass test d none xs zero less = absurd (omega (arith, less))
few_pass test d none [] (suc n) less = rw none refl
few_pass test d none (x ∷ xs) (suc n) less =
    rw (numbers_shift (λ i. test (at_or (x ∷ xs) i d)) 0 n)
    (by (test x) (rw (count_cons test x xs) at less) (λ l. few_pass test d none xs n l))
  where
    rest : Bool
    rest = list_all (λ i. test (at_or xs i d)) (numbers_below n)

    by : (b : Bool) → cond b 1 0 + count_by test xs < suc n
        → (count_by test xs < n → rest ≡ false) → (b && rest) ≡ false
    by true l more = more (omega (arith, l))
    by false l more = refl

-- where all pass, each number of an item has one that does
pub all_pass : {A : Type 0} (test : A → Bool) (d : A) (xs : List A)
    → length xs ≤ count_by test xs
    → list_all (λ i. test (at_or xs i d)) (numbers_below (length xs)) ≡ true
all_pass test d [] full = refl
all_pass test d (x ∷ xs) full =
    rw (numbers_shift (λ i. test (at_or (x ∷ xs) i d)) 0 (length xs))
    (by (test x) (rw (count_cons test x xs) at full) (λ l. all_pass test d xs l))
  where
    rest : Bool
    rest = list_all (λ i. test (at_or xs i d)) (numbers_below (length xs))

    by : (b : Bool) → suc (length xs) ≤ cond b 1 0 + count_by test xs
        → (length xs ≤ count_by test xs → rest ≡ true) → (b && rest) ≡ true
    by true l more = more (omega (arith, l))
    by false l more = absurd (omega (arith, l, count_by-le-length test xs))

-- a change of one item counts it anew
pub count_change : {A : Type 0} (test : A → Bool) (f : A → A) (xs : List A) (i : ℕ) (d : A)
    → i < length xs → (b : Bool) → ((x : A) → test (f x) ≡ b)
    → count_by test (change_at xs i f) + cond (test (at_or xs i d)) 1 0
    ≡ count_by test xs + cond b 1 0
count_change test f [] i d l b so = absurd (omega (arith, l))
count_change test f (x ∷ xs) zero d l b so =
    rw (count_cons test (f x) xs, count_cons test x xs, so x) (omega arith)
count_change test f (x ∷ xs) (suc i) d l b so =
    rw (count_cons test x (change_at xs i f), count_cons test x xs)
    (let more = count_change test f xs i d (omega (arith, l)) b so in omega (arith, more))

-- a registration of what wasn't registered is one more
pub placed_anew : (xs : List Output) (i : ℕ) (loc : Loc) (epoch : ℕ) → i < length xs
    → is_here (output_in xs i) ≡ false
    → count_by is_here (change_at xs i (placed loc epoch)) ≡ count_by is_here xs + 1
placed_anew xs i loc epoch l e =
    let more = count_change is_here (placed loc epoch) xs i never l true (λ x. refl) in
    omega (arith, rw e at more)

-- of what was, it isn't
pub placed_again : (xs : List Output) (i : ℕ) (loc : Loc) (epoch : ℕ)
    → is_here (output_in xs i) ≡ true
    → count_by is_here (change_at xs i (placed loc epoch)) ≡ count_by is_here xs
placed_again [] i loc epoch e = refl
placed_again (x ∷ xs) zero loc epoch e =
    count_cons is_here (placed loc epoch x) xs ∙ sym (count_cons is_here x xs ∙ rw e refl)
placed_again (x ∷ xs) (suc i) loc epoch e =
    count_cons is_here x (change_at xs i (placed loc epoch))
    ∙ ap (λ n. cond (is_here x) 1 0 + n) (placed_again xs i loc epoch e)
    ∙ sym (count_cons is_here x xs)

-- ---- one output less

-- an item that passes is there
pub passes_within : {A : Type 0} (test : A → Bool) (xs : List A) (i : ℕ) (d : A) → test d ≡ false
    → test (at_or xs i d) ≡ true → i < length xs
passes_within test [] i d none e = absurd (true≢false (sym e ∙ none))
passes_within test (x ∷ xs) zero d none e = omega arith
passes_within test (x ∷ xs) (suc i) d none e =
    let more = passes_within test xs i d none e in omega (arith, more)

-- so some pass
pub some_here : (xs : List Output) (i : ℕ) → is_here (output_in xs i) ≡ true
    → 0 < count_by is_here xs
some_here xs i e =
    let within = passes_within is_here xs i never refl e in
    let less = count_change is_here forgotten xs i never within false (λ x. refl) in
    omega (arith, rw e at less)

-- an output that is registered and is forgotten is one less
pub forgotten_anew : (xs : List Output) (i : ℕ) → is_here (output_in xs i) ≡ true
    → count_by is_here (change_at xs i forgotten) ≡ count_by is_here xs - 1
forgotten_anew xs i e =
    let within = passes_within is_here xs i never refl e in
    let less = count_change is_here forgotten xs i never within false (λ x. refl) in
    omega (arith, rw e at less)

-- one that isn't registered isn't
pub forgotten_again : (xs : List Output) (i : ℕ) → is_here (output_in xs i) ≡ false
    → count_by is_here (change_at xs i forgotten) ≡ count_by is_here xs
forgotten_again [] i e = refl
forgotten_again (x ∷ xs) zero e =
    count_cons is_here (forgotten x) xs ∙ sym (count_cons is_here x xs ∙ rw e refl)
forgotten_again (x ∷ xs) (suc i) e =
    count_cons is_here x (change_at xs i forgotten)
    ∙ ap (λ n. cond (is_here x) 1 0 + n) (forgotten_again xs i e)
    ∙ sym (count_cons is_here x xs)
