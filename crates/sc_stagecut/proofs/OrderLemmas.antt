-- Items of lists, and what holds of each two of them.
use Rattle.std.proofs.Common.{◌≡◌, ◌∙◌, ℕ, zero, suc, ◌<◌, Bool, true, false, cond, List, [], ◌∷◌, ◌++◌, length, map, filter, get_or, All, inl, inr, ◌⊎◌, refl, ap, sym, subst, arith}
use Rattle.std.proofs.lemmas.Bool.{cases_order}
use Rattle.std.proofs.lemmas.List.{get_or_default}
use Rattle.std.proofs.lemmas.List.Elements.{All-append, All-contains, All-contains_itself, All-filter, All-head, All-tail, filter_passes}
use Rattle.std.proofs.lemmas.List.Kept.{AllPairs-cons}
use Rattle.std.specs.List.{AllPairs, AllZip, Contains}

-- The first of items, and the others.
pub Contains-first : {A : Type 0} (x : A) (xs : List A) → Contains (x ∷ xs) x
Contains-first x xs = (0, omega arith, refl)

pub Contains-later : {A : Type 0} (y x : A) (xs : List A) → Contains xs x → Contains (y ∷ xs) x
Contains-later y x xs c = (suc c.0, omega (arith, c.1), c.2)

-- an item is the first or one of the others
pub Contains-cases : {A : Type 0} (y x : A) (xs : List A) → Contains (y ∷ xs) x
    → (y ≡ x) ⊎ Contains xs x
Contains-cases y x xs c = at c.0 c.1 c.2
  where
    at : (k : ℕ) → k < length (y ∷ xs) → get_or (y ∷ xs) k x ≡ x → (y ≡ x) ⊎ Contains xs x
    at zero within is = inl is
    at (suc k) within is = inr (k, omega arith, is)

-- an item that passes is kept
pub Contains-filter : {A : Type 0} (test : A → Bool) (xs : List A) (x : A) → Contains xs x
    → test x ≡ true → Contains (filter test xs) x
Contains-filter test [] x c passes = absurd (omega (arith, c.1))
Contains-filter {A} test (y ∷ xs) x c passes =
    by (λ rest. Contains-filter test xs x rest passes) (Contains-cases y x xs c)
  where
    decided : (b : Bool) → Contains (filter test xs) x
        → Contains (cond b (y ∷ filter test xs) (filter test xs)) x
    decided true rest = Contains-later y x (filter test xs) rest
    decided false rest = rest

    by : (Contains xs x → Contains (filter test xs) x) → (y ≡ x) ⊎ Contains xs x
        → Contains (cond (test y) (y ∷ filter test xs) (filter test xs)) x
    by kept (inr rest) = decided (test y) (kept rest)
    by kept (inl same) =
        let P : Bool → Type 0 = λ b. Contains (cond b (y ∷ filter test xs) (filter test xs)) x in
        let Q : A → Type 0 = λ z. Contains (y ∷ filter test xs) z in
        subst P (sym (ap test same ∙ passes)) (subst Q same (Contains-first y (filter test xs)))

-- one that is kept passes, and was there
pub Contains-from_filter : {A : Type 0} (test : A → Bool) (xs : List A) (x : A)
    → Contains (filter test xs) x → Contains xs x × (test x ≡ true)
Contains-from_filter test xs x c = (
  All-contains (Contains xs) (filter test xs) x
      (All-filter test (Contains xs) xs (All-contains_itself xs)) c,
  All-contains (λ y. test y ≡ true) (filter test xs) x (filter_passes test xs) c,
)

-- what a function gives of an item
pub Contains-map : {A B : Type 0} (f : A → B) (xs : List A) (x : A) → Contains xs x
    → Contains (map f xs) (f x)
Contains-map f [] x c = absurd (omega (arith, c.1))
Contains-map {A} {B} f (y ∷ xs) x c = by (Contains-map f xs x) (Contains-cases y x xs c)
  where
    by : (Contains xs x → Contains (map f xs) (f x)) → (y ≡ x) ⊎ Contains xs x
        → Contains (f y ∷ map f xs) (f x)
    by given (inr rest) = Contains-later (f y) (f x) (map f xs) (given rest)
    by given (inl same) =
        let P : A → Type 0 = λ z. Contains (f y ∷ map f xs) (f z) in
        subst P same (Contains-first (f y) (map f xs))

pub Contains-from_map : {A B : Type 0} (f : A → B) (xs : List A) (y : B) → Contains (map f xs) y
    → (x : A) × Contains xs x × (f x ≡ y)
Contains-from_map f [] y c = absurd (omega (arith, c.1))
Contains-from_map {A} {B} f (z ∷ xs) y c =
    by (Contains-from_map f xs y) (Contains-cases (f z) y (map f xs) c)
  where
    by : (Contains (map f xs) y → (x : A) × Contains xs x × (f x ≡ y))
        → (f z ≡ y) ⊎ Contains (map f xs) y → (x : A) × Contains (z ∷ xs) x × (f x ≡ y)
    by others (inl same) = (z, Contains-first z xs, same)
    by others (inr rest) =
        let one = others rest in (one.0, Contains-later z one.0 xs one.1, one.2)

-- What holds of each two items, the first one and another, and two of the others.
pub AllPairs-head : {A : Type 0} (R : A → A → Type 0) (x : A) (xs : List A) → AllPairs R (x ∷ xs)
    → All (R x) xs
AllPairs-head R x xs pairs = λ i d at. pairs 0 (suc i) d (omega arith) (omega arith)

pub AllPairs-tail : {A : Type 0} (R : A → A → Type 0) (x : A) (xs : List A) → AllPairs R (x ∷ xs)
    → AllPairs R xs
AllPairs-tail R x xs pairs = λ i j d before at. pairs (suc i) (suc j) d (omega arith) (omega arith)

pub AllPairs-append : {A : Type 0} (R : A → A → Type 0) (xs ys : List A) → AllPairs R xs
    → AllPairs R ys → All (λ x. All (R x) ys) xs → AllPairs R (xs ++ ys)
AllPairs-append R [] ys first second across = second
AllPairs-append {A} R (x ∷ xs) ys first second across =
    let P : A → Type 0 = λ z. All (R z) ys in
    AllPairs-cons R x (xs ++ ys)
    (All-append (R x) xs ys (AllPairs-head R x xs first) (All-head P x xs across))
    (AllPairs-append R xs ys (AllPairs-tail R x xs first) second (All-tail P x xs across))

pub AllPairs-weaker : {A : Type 0} (R S : A → A → Type 0) → ((x y : A) → R x y → S x y)
    → (xs : List A) → AllPairs R xs → AllPairs S xs
AllPairs-weaker R S weaker xs pairs =
    λ i j d before at. weaker (get_or xs i d) (get_or xs j d) (pairs i j d before at)

-- two items are one, or one of them comes first
pub pair_cases : {A : Type 0} (R : A → A → Type 0) (xs : List A) (x y : A) → AllPairs R xs
    → Contains xs x → Contains xs y → (x ≡ y) ⊎ (R x y ⊎ R y x)
pair_cases {A} R xs x y pairs a b = by (cases_order a.0 b.0)
  where
    at_second : get_or xs b.0 x ≡ y
    at_second = get_or_default xs b.0 x y b.1 ∙ b.2

    at_first : get_or xs a.0 y ≡ x
    at_first = get_or_default xs a.0 y x a.1 ∙ a.2

    by : (a.0 ≡ b.0) ⊎ ((a.0 < b.0) ⊎ (b.0 < a.0)) → (x ≡ y) ⊎ (R x y ⊎ R y x)
    by (inl same) = inl (sym a.2 ∙ ap (λ i. get_or xs i x) same ∙ at_second)
    by (inr (inl before)) =
        let P : A → Type 0 = λ z. R z (get_or xs b.0 x) in
        inr (inl (subst (R x) at_second (subst P a.2 (pairs a.0 b.0 x before b.1))))
    by (inr (inr before)) =
        let P : A → Type 0 = λ z. R z (get_or xs a.0 y) in
        inr (inr (subst (R y) at_first (subst P b.2 (pairs b.0 a.0 y before a.1))))

-- Lists in step: an item of one has one of the other beside it.
pub zip_beside : {A B : Type 0} (R : A → B → Type 0) (xs : List A) (ys : List B) (x : A)
    → AllZip R xs ys → Contains xs x → (y : B) × Contains ys y × R x y
zip_beside R [] ys x zip c = absurd (omega (arith, c.1))
zip_beside R (z ∷ xs) [] x zip c = absurd zip
zip_beside {A} {B} R (z ∷ xs) (w ∷ ys) x zip c =
    by (zip_beside R xs ys x zip.1) (Contains-cases z x xs c)
  where
    by : (Contains xs x → (y : B) × Contains ys y × R x y) → (z ≡ x) ⊎ Contains xs x
        → (y : B) × Contains (w ∷ ys) y × R x y
    by others (inl same) =
        let P : A → Type 0 = λ v. R v w in (w, Contains-first w ys, subst P same zip.0)
    by others (inr rest) =
        let one = others rest in (one.0, Contains-later w one.0 ys one.1, one.2)

pub zip_from : {A B : Type 0} (R : A → B → Type 0) (xs : List A) (ys : List B) (y : B)
    → AllZip R xs ys → Contains ys y → (x : A) × Contains xs x × R x y
zip_from R xs [] y zip c = absurd (omega (arith, c.1))
zip_from R [] (w ∷ ys) y zip c = absurd zip
zip_from {A} {B} R (z ∷ xs) (w ∷ ys) y zip c =
    by (zip_from R xs ys y zip.1) (Contains-cases w y ys c)
  where
    by : (Contains ys y → (x : A) × Contains xs x × R x y) → (w ≡ y) ⊎ Contains ys y
        → (x : A) × Contains (z ∷ xs) x × R x y
    by others (inl same) =
        let P : B → Type 0 = λ v. R z v in (z, Contains-first z xs, subst P same zip.0)
    by others (inr rest) =
        let one = others rest in (one.0, Contains-later z one.0 xs one.1, one.2)
