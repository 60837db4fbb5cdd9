-- Lemmas on items by their places, and on how many pass a test.
use Rattle.std.proofs.Common.{◌≡◌, ℕ, zero, suc, ◌+◌, ◌-◌, ◌<◌, ◌≤◌, Bool, true, false, cond, List, [], ◌∷◌, ◌++◌, All, AllPairs, find, length, map, take, Some, is_some, option_map, slice_get, refl, ap, sym, subst, ◌∙◌, arith, rules, add-zero, zero-add, length-append}
use Rattle.std.proofs.lemmas.List.Elements.{All-cons, All-head, All-tail}
use Rattle.std.proofs.lemmas.Option.{get_or_from_slice_get, slice_get_within}
use Rattle.sc_base.specs.Lists.{at_or}
use Rattle.sc_ids.specs.Changes.{change_at}
use Rattle.sc_dag.specs.Submission.{by_number}
use Rattle.std.proofs.Common.{◌≡◌, ℕ, zero, suc, ◌+◌, ◌-◌, ◌<◌, Bool, true, false, cond, List, [], ◌∷◌, count_by, length, map, Some, option_map, slice_get, refl, ap, sym, subst, ◌∙◌, arith, rules}
use Rattle.std.proofs.lemmas.List.Sums.{sum_by-cons}
use Rattle.std.proofs.Common.{◌≡◌, ℕ, ◌+◌, ◌-◌, ◌<◌, Bool, true, false, cond, List, [], ◌∷◌, count_by, find, length, map, Some, option_map, slice_get, refl, ap, sym, subst, ◌∙◌, arith, rules, zero-add}

-- ---- items by their places

pub at_or_past : {A : Type 0} (xs : List A) (i : ℕ) (d : A) → length xs ≤ i → at_or xs i d ≡ d
at_or_past [] i d h = refl
at_or_past (x ∷ xs) zero d h = absurd (omega (arith, h))
at_or_past (x ∷ xs) (suc i) d h = at_or_past xs i d (omega (arith, h))

pub is_there :
    {A : Type 0} (xs : List A) (i : ℕ) → i < length xs → is_some (slice_get xs i) ≡ true
is_there [] i h = absurd (omega (arith, h))
is_there (x ∷ xs) zero h = refl
is_there (x ∷ xs) (suc i) h = is_there xs i (omega (arith, h))

-- the last item
pub last_is :
    {A : Type 0} (xs : List A) (y : A)
    → slice_get (xs ++ y ∷ []) (length (xs ++ y ∷ []) - 1) ≡ Some y
last_is [] y = refl
last_is (x ∷ []) y = refl
last_is {A = A} (x ∷ z ∷ zs) y =
    let one : suc (length ((z ∷ zs) ++ y ∷ [])) - 1 ≡ suc (length (zs ++ y ∷ [])) = omega arith in
    let two : length ((z ∷ zs) ++ y ∷ []) - 1 ≡ length (zs ++ y ∷ []) = omega arith in
    let P : ℕ → Type 0 = λ n. slice_get (x ∷ ((z ∷ zs) ++ y ∷ [])) n ≡ Some y in
    let Q : ℕ → Type 0 = λ n. slice_get ((z ∷ zs) ++ y ∷ []) n ≡ Some y in
    subst P (sym one) (subst Q two (last_is (z ∷ zs) y))

-- items changed by their numbers
by_number_from :
    {A : Type 0} (f : ℕ → A → A) (n : ℕ) (xs : List A) (i : ℕ)
    → slice_get (by_number f n xs) i ≡ option_map (f (n + i)) (slice_get xs i)
by_number_from f n [] i = refl
by_number_from {A = A} f n (x ∷ xs) zero =
    ap (λ (m : ℕ). Some (f m x)) (sym (add-zero n))
by_number_from {A = A} f n (x ∷ xs) (suc i) =
    by_number_from f (suc n) xs i
    ∙ ap (λ (m : ℕ). option_map (f m) (slice_get xs i)) same
  where
    same : suc n + i ≡ n + suc i
    same = omega arith

pub by_number_at :
    {A : Type 0} (f : ℕ → A → A) (xs : List A) (i : ℕ)
    → slice_get (by_number f 0 xs) i ≡ option_map (f i) (slice_get xs i)
by_number_at f xs i =
    by_number_from f 0 xs i
    ∙ ap (λ (m : ℕ). option_map (f m) (slice_get xs i)) (zero-add i)

pub by_number_length :
    {A : Type 0} (f : ℕ → A → A) (n : ℕ) (xs : List A) → length (by_number f n xs) ≡ length xs
by_number_length f n [] = refl
by_number_length f n (x ∷ xs) = ap suc (by_number_length f (suc n) xs)

-- a change that leaves each item as it is
pub by_number_same :
    {A : Type 0} (f : ℕ → A → A) (n : ℕ) (xs : List A)
    → ((i : ℕ) (x : A) → slice_get xs i ≡ Some x → f (n + i) x ≡ x) → by_number f n xs ≡ xs
by_number_same f n [] h = refl
by_number_same {A = A} f n (x ∷ xs) h =
    ap (λ y. y ∷ by_number f (suc n) xs) here
    ∙ ap (λ ys. x ∷ ys) (by_number_same f (suc n) xs
    (λ i y e. ap (λ (m : ℕ). f m y) (moved i) ∙ h (suc i) y e))
  where
    here : f n x ≡ x
    here = ap (λ (m : ℕ). f m x) (sym (add-zero n)) ∙ h zero x refl

    moved : (i : ℕ) → suc n + i ≡ n + suc i
    moved i = omega arith

-- what holds of all items holds of one
pub all_at :
    {A : Type 0} (P : A → Type 0) (xs : List A) (i : ℕ) (x : A) → All P xs
    → slice_get xs i ≡ Some x → P x
all_at P xs i x a e =
    subst P (get_or_from_slice_get xs i x x e) (a i x (slice_get_within xs i x e))

-- the first of some pairs is apart from the others
pub pairs_head :
    {A : Type 0} (R : A → A → Type 0) (x : A) (xs : List A) → AllPairs R (x ∷ xs) → All (R x) xs
pairs_head R x xs h = λ j d l. h zero (suc j) d (omega arith) (omega (arith, l))

pub pairs_tail :
    {A : Type 0} (R : A → A → Type 0) (x : A) (xs : List A) → AllPairs R (x ∷ xs)
    → AllPairs R xs
pairs_tail R x xs h = λ i j d lt l. h (suc i) (suc j) d (omega (arith, lt)) (omega (arith, l))

-- what is found is one of them
pub find_all :
    {A : Type 0} (P : A → Type 0) (q : A → Bool) (xs : List A) (x : A) → All P xs
    → find q xs ≡ Some x → P x
find_all P q [] x a e = absurd (search (rules, e))
find_all {A = A} P q (y ∷ ys) x a e =
    by (q y) e (λ k. find_all P q ys x (All-tail P y ys a) k)
  where
    by : (b : Bool) → cond b (Some y) (find q ys) ≡ Some x → (find q ys ≡ Some x → P x) → P x
    by true is f =
        let same : y ≡ x = search (rules, is) in subst P same (All-head P y ys a)
    by false is f = f is

-- and passes the test
pub find_passes :
    {A : Type 0} (q : A → Bool) (xs : List A) (x : A) → find q xs ≡ Some x → q x ≡ true
find_passes q [] x e = absurd (search (rules, e))
find_passes {A = A} q (y ∷ ys) x e = by (q y) refl e (λ k. find_passes q ys x k)
  where
    by : (b : Bool) → q y ≡ b → cond b (Some y) (find q ys) ≡ Some x
        → (find q ys ≡ Some x → q x ≡ true) → q x ≡ true
    by true h is f =
        let same : y ≡ x = search (rules, is) in subst (λ z. q z ≡ true) same h
    by false h is f = f is

-- what holds of the views of all holds of their items
pub all_unmapped :
    {A B : Type 0} (P : B → Type 0) (f : A → B) (xs : List A) → All P (map f xs)
    → All (λ x. P (f x)) xs
all_unmapped P f [] a = λ i d l. absurd (omega (arith, l))
all_unmapped P f (x ∷ xs) a =
    All-cons (λ y. P (f y)) x xs (All-head P (f x) (map f xs) a)
    (all_unmapped P f xs (All-tail P (f x) (map f xs) a))

-- the first items, where one was changed
pub take_change :
    {A : Type 0} (n : ℕ) (xs : List A) (i : ℕ) (f : A → A)
    → take n (change_at xs i f) ≡ change_at (take n xs) i f
take_change zero xs i f = refl
take_change (suc n) [] i f = refl
take_change (suc n) (x ∷ xs) zero f = refl
take_change (suc n) (x ∷ xs) (suc i) f = ap (λ ys. x ∷ ys) (take_change n xs i f)

-- the first items, where all were changed
pub take_map :
    {A B : Type 0} (n : ℕ) (xs : List A) (f : A → B) → take n (map f xs) ≡ map f (take n xs)
take_map zero xs f = refl
take_map (suc n) [] f = refl
take_map (suc n) (x ∷ xs) f = ap (λ ys. f x ∷ ys) (take_map n xs f)

-- the first items of a list that is one longer
pub take_push :
    {A : Type 0} (xs : List A) (y : A) → take (length (xs ++ y ∷ []) - 1) (xs ++ y ∷ []) ≡ xs
take_push [] y = refl
take_push {A = A} (x ∷ xs) y =
    let one : length (xs ++ y ∷ []) ≡ suc (length (xs ++ y ∷ []) - 1) =
    omega (arith, length-append xs (y ∷ [])) in
    let P : ℕ → Type 0 = λ n. take n (x ∷ (xs ++ y ∷ [])) ≡ x ∷ xs in
    subst P (sym one ∙ sym (sub-one (length (xs ++ y ∷ [])))) (ap (λ ys. x ∷ ys) (take_push xs y))
  where
    sub-one : (n : ℕ) → suc n - 1 ≡ n
    sub-one n = omega arith

-- what holds of each item holds after a change that keeps it where it changes
pub all_changed :
    {A : Type 0} (P : A → Type 0) (xs : List A) (i : ℕ) (f : A → A)
    → ((x : A) → slice_get xs i ≡ Some x → P x → P (f x)) → All P xs
    → All P (change_at xs i f)
all_changed P [] i f h a = a
all_changed P (x ∷ xs) zero f h a =
    All-cons P (f x) xs (h x refl (All-head P x xs a)) (All-tail P x xs a)
all_changed P (x ∷ xs) (suc i) f h a =
    All-cons P x (change_at xs i f) (All-head P x xs a)
    (all_changed P xs i f h (All-tail P x xs a))

-- two changes of one item are one
pub change_twice :
    {A : Type 0} (xs : List A) (i : ℕ) (f g : A → A)
    → change_at (change_at xs i f) i g ≡ change_at xs i (λ x. g (f x))
change_twice [] i f g = refl
change_twice (x ∷ xs) zero f g = refl
change_twice (x ∷ xs) (suc i) f g = ap (λ ys. x ∷ ys) (change_twice xs i f g)

-- ---- counts

pub count_changed :
    {A : Type 0} (p : A → Bool) (xs : List A) (i : ℕ) (f : A → A)
    → ((x : A) → p (f x) ≡ p x) → count_by p (change_at xs i f) ≡ count_by p xs
count_changed p [] i f h = refl
count_changed p (x ∷ xs) zero f h =
    sum_by-cons (λ y. cond (p y) 1 0) (f x) xs
    ∙ ap (λ b. cond b 1 0 + count_by p xs) (h x)
    ∙ sym (sum_by-cons (λ y. cond (p y) 1 0) x xs)
count_changed p (x ∷ xs) (suc i) f h =
    sum_by-cons (λ y. cond (p y) 1 0) x (change_at xs i f)
    ∙ ap (λ n. cond (p x) 1 0 + n) (count_changed p xs i f h)
    ∙ sym (sum_by-cons (λ y. cond (p y) 1 0) x xs)

pub count_mapped :
    {A : Type 0} (p : A → Bool) (xs : List A) (f : A → A)
    → ((x : A) → p (f x) ≡ p x) → count_by p (map f xs) ≡ count_by p xs
count_mapped p [] f h = refl
count_mapped p (x ∷ xs) f h =
    sum_by-cons (λ y. cond (p y) 1 0) (f x) (map f xs)
    ∙ ap (λ b. cond b 1 0 + count_by p (map f xs)) (h x)
    ∙ ap (λ n. cond (p x) 1 0 + n) (count_mapped p xs f h)
    ∙ sym (sum_by-cons (λ y. cond (p y) 1 0) x xs)

-- nothing is counted where the test fails on all
pub count_none :
    {A B : Type 0} (p : B → Bool) (f : A → B) (xs : List A) → ((x : A) → p (f x) ≡ false)
    → count_by p (map f xs) ≡ 0
count_none p f [] h = refl
count_none p f (x ∷ xs) h =
    sum_by-cons (λ y. cond (p y) 1 0) (f x) (map f xs)
    ∙ ap (λ b. cond b 1 0 + count_by p (map f xs)) (h x)
    ∙ (zero-add (count_by p (map f xs)) ∙ count_none p f xs h)
