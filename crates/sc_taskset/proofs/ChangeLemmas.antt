-- Lists of which the first element that passes a test is changed.
use Rattle.std.proofs.Common.{◌≡◌, Bool, true, false, cond, ◌&&◌, List, [], ◌∷◌, length, map, Some, refl, ap, ◌∙◌, suc}
use Rattle.std.specs.List.{All, find, list_all}
use Rattle.std.specs.Option.{option_map}
use Rattle.std.proofs.lemmas.List.Elements.{All-cons, All-head, All-tail}
use Rattle.sc_taskset.specs.Lookups.{change_first}

-- what a change keeps of each element, it keeps of the list
pub map_kept :
    {A B : Type 0} (v : A → B) (q : A → Bool) (f : A → A) → ((x : A) → v (f x) ≡ v x)
    → (xs : List A) → map v (change_first q f xs) ≡ map v xs
map_kept v q f same [] = refl
map_kept v q f same (x ∷ xs) = by (q x) (map_kept v q f same xs)
  where
    by : (b : Bool) → map v (change_first q f xs) ≡ map v xs
        → map v (cond b (f x ∷ xs) (x ∷ change_first q f xs)) ≡ v x ∷ map v xs
    by true rest = ap (λ y. y ∷ map v xs) (same x)
    by false rest = ap (λ ys. v x ∷ ys) rest

-- the length stays
pub length_kept :
    {A : Type 0} (q : A → Bool) (f : A → A) (xs : List A)
    → length (change_first q f xs) ≡ length xs
length_kept q f [] = refl
length_kept q f (x ∷ xs) = by (q x) (length_kept q f xs)
  where
    by : (b : Bool) → length (change_first q f xs) ≡ length xs
        → length (cond b (f x ∷ xs) (x ∷ change_first q f xs)) ≡ length (x ∷ xs)
    by true rest = refl
    by false rest = ap suc rest

-- a test that no change touches
pub tests_kept :
    {A : Type 0} (test q : A → Bool) (f : A → A) → ((x : A) → test (f x) ≡ test x)
    → (xs : List A) → list_all test (change_first q f xs) ≡ list_all test xs
tests_kept test q f same [] = refl
tests_kept test q f same (x ∷ xs) = by (q x) (tests_kept test q f same xs)
  where
    by : (b : Bool) → list_all test (change_first q f xs) ≡ list_all test xs
        → list_all test (cond b (f x ∷ xs) (x ∷ change_first q f xs)) ≡ (test x && list_all test xs)
    by true rest = ap (λ b. b && list_all test xs) (same x)
    by false rest = ap (λ b. test x && b) rest

-- what holds of all holds after a change, if that keeps it of the element that it changes
pub all_kept :
    {A : Type 0} (P : A → Type 0) (q : A → Bool) (f : A → A) (xs : List A)
    → All P xs → ((x : A) → find q xs ≡ Some x → P x → P (f x)) → All P (change_first q f xs)
all_kept P q f [] all keeps = all
all_kept {A = A} P q f (x ∷ xs) all keeps =
    by (q x) keeps (λ k. all_kept P q f xs (All-tail P x xs all) k)
  where
    by : (b : Bool)
        → ((y : A) → cond b (Some x) (find q xs) ≡ Some y → P y → P (f y))
        → (((y : A) → find q xs ≡ Some y → P y → P (f y)) → All P (change_first q f xs))
        → All P (cond b (f x ∷ xs) (x ∷ change_first q f xs))
    by true k rest = All-cons P (f x) xs (k x refl (All-head P x xs all)) (All-tail P x xs all)
    by false k rest = All-cons P x (change_first q f xs) (All-head P x xs all) (rest k)

-- the changed element is found in its place, if it still passes
pub find_changed :
    {A : Type 0} (q : A → Bool) (f : A → A) → ((x : A) → q (f x) ≡ q x) → (xs : List A)
    → find q (change_first q f xs) ≡ option_map f (find q xs)
find_changed q f same [] = refl
find_changed q f same (x ∷ xs) = by (q x) refl (find_changed q f same xs)
  where
    by : (b : Bool) → q x ≡ b → find q (change_first q f xs) ≡ option_map f (find q xs)
        → find q (cond b (f x ∷ xs) (x ∷ change_first q f xs))
        ≡ option_map f (cond b (Some x) (find q xs))
    by true is rest = rw (same x ∙ is)
    by false is rest = rw is rest

-- another test finds what it found, if no changed element passes it before or after
pub find_other :
    {A : Type 0} (q w : A → Bool) (f : A → A) → ((x : A) → q x ≡ true → w x ≡ false)
    → ((x : A) → q x ≡ true → w (f x) ≡ false) → (xs : List A)
    → find w (change_first q f xs) ≡ find w xs
find_other q w f before after [] = refl
find_other q w f before after (x ∷ xs) = by (q x) refl (find_other q w f before after xs)
  where
    by : (b : Bool) → q x ≡ b → find w (change_first q f xs) ≡ find w xs
        → find w (cond b (f x ∷ xs) (x ∷ change_first q f xs)) ≡ cond (w x) (Some x) (find w xs)
    by true is rest = rw (before x is, after x is)
    by false is rest = rw rest

-- two changes of one element are one
pub changed_twice :
    {A : Type 0} (q : A → Bool) (f g : A → A) → ((x : A) → q (f x) ≡ q x) → (xs : List A)
    → change_first q g (change_first q f xs) ≡ change_first q (λ x. g (f x)) xs
changed_twice q f g same [] = refl
changed_twice q f g same (x ∷ xs) = by (q x) refl (changed_twice q f g same xs)
  where
    by : (b : Bool) → q x ≡ b
        → change_first q g (change_first q f xs) ≡ change_first q (λ y. g (f y)) xs
        → change_first q g (cond b (f x ∷ xs) (x ∷ change_first q f xs))
        ≡ cond b (g (f x) ∷ xs) (x ∷ change_first q (λ y. g (f y)) xs)
    by true is rest = rw (same x ∙ is)
    by false is rest = rw is (ap (λ ys. x ∷ ys) rest)

-- changes that agree at the element that they change
pub changed_alike :
    {A : Type 0} (q : A → Bool) (f g : A → A) (xs : List A)
    → ((x : A) → find q xs ≡ Some x → f x ≡ g x) → change_first q f xs ≡ change_first q g xs
changed_alike q f g [] same = refl
changed_alike {A = A} q f g (x ∷ xs) same = by (q x) same (λ s. changed_alike q f g xs s)
  where
    by : (b : Bool) → ((y : A) → cond b (Some x) (find q xs) ≡ Some y → f y ≡ g y)
        → (((y : A) → find q xs ≡ Some y → f y ≡ g y)
        → change_first q f xs ≡ change_first q g xs)
        → cond b (f x ∷ xs) (x ∷ change_first q f xs)
        ≡ cond b (g x ∷ xs) (x ∷ change_first q g xs)
    by true s rest = ap (λ y. y ∷ xs) (s x refl)
    by false s rest = ap (λ ys. x ∷ ys) (rest s)
