-- Lemmas on a list with one item changed, and on loops that change items in place.
use Rattle.std.proofs.Common.{◌≡◌, ℕ, ◌+◌, ◌<◌, ◌≤◌, slice_get, zero, suc, Some, List, [], ◌∷◌, ◌++◌, length, get_or, take, drop, map, refl, ap, ◌∙◌, arith, add-one}
use Rattle.std.proofs.Math.ListN.{set}
use Rattle.std.proofs.lemmas.List.Elements.{All-cons, All-head, All-tail}
use Rattle.std.specs.List.{All}
use Rattle.std.specs.Option.{option_map}
use Rattle.sc_base.specs.Lists.{at_or}
use Rattle.sc_ids.specs.Changes.{change_at}

-- a write of a changed item is that change
pub set_change_at : {A : Type 0} (xs : List A) (i : ℕ) (d : A) (f : A → A)
    → i < length xs → set xs i (f (get_or xs i d)) ≡ change_at xs i f
set_change_at [] i d f h = refl
set_change_at (x ∷ xs) zero d f h = refl
set_change_at (x ∷ xs) (suc i) d f h = ap (λ ys. x ∷ ys) (set_change_at xs i d f (omega arith))

-- the same for an item that was read
pub set_change_read : {A : Type 0} (xs : List A) (i : ℕ) (x : A) (f : A → A)
    → i < length xs → x ≡ get_or xs i x → set xs i (f x) ≡ change_at xs i f
set_change_read xs i x f h e = ap (λ y. set xs i (f y)) e ∙ set_change_at xs i x f h

-- the same where the new item came from a call
pub set_changed : {A : Type 0} (xs : List A) (i : ℕ) (x y : A) (f : A → A)
    → i < length xs → x ≡ get_or xs i x → y ≡ f x → set xs i y ≡ change_at xs i f
set_changed xs i x y f h e g = ap (λ z. set xs i z) g ∙ set_change_read xs i x f h e

-- a change keeps the length
pub length_change_at : {A : Type 0} (xs : List A) (i : ℕ) (f : A → A)
    → length (change_at xs i f) ≡ length xs
length_change_at [] i f = refl
length_change_at (x ∷ xs) zero f = refl
length_change_at (x ∷ xs) (suc i) f = ap suc (length_change_at xs i f)

-- nothing is changed past the end
pub change_at_past : {A : Type 0} (xs : List A) (i : ℕ) (f : A → A)
    → length xs ≤ i → change_at xs i f ≡ xs
change_at_past [] i f h = refl
change_at_past (x ∷ xs) zero f h = absurd (omega arith)
change_at_past (x ∷ xs) (suc i) f h = ap (λ ys. x ∷ ys) (change_at_past xs i f (omega arith))

-- the changed item
pub slice_get_change_same : {A : Type 0} (xs : List A) (i : ℕ) (f : A → A)
    → slice_get (change_at xs i f) i ≡ option_map f (slice_get xs i)
slice_get_change_same [] i f = refl
slice_get_change_same (x ∷ xs) zero f = refl
slice_get_change_same (x ∷ xs) (suc i) f = slice_get_change_same xs i f

-- an item after a change of another
pub slice_get_change_other : {A : Type 0} (xs : List A) (i j : ℕ) (f : A → A)
    → (j ≡ i → ⊥) → slice_get (change_at xs i f) j ≡ slice_get xs j
slice_get_change_other [] i j f h = refl
slice_get_change_other (x ∷ xs) zero zero f h = absurd (h refl)
slice_get_change_other (x ∷ xs) zero (suc j) f h = refl
slice_get_change_other (x ∷ xs) (suc i) zero f h = refl
slice_get_change_other (x ∷ xs) (suc i) (suc j) f h =
    slice_get_change_other xs i j f (λ e. h (ap suc e))

-- a view of each item, where one item was changed
pub view_changed : {A B : Type 0} (v : A → B) (xs : List A) (i : ℕ) (x y : A) (f : B → B)
    → i < length xs → x ≡ get_or xs i x → v y ≡ f (v x)
    → map v (set xs i y) ≡ change_at (map v xs) i f
view_changed v [] i x y f h e g = absurd (omega arith)
view_changed v (z ∷ zs) zero x y f h e g = ap (λ w. w ∷ map v zs) (g ∙ ap (λ w. f (v w)) e)
view_changed v (z ∷ zs) (suc i) x y f h e g =
    ap (λ ws. v z ∷ ws) (view_changed v zs i x y f (omega arith) e g)

-- a view of each item, where one item was changed in what the view leaves out
pub view_kept : {A B : Type 0} (v : A → B) (xs : List A) (i : ℕ) (x y : A)
    → i < length xs → x ≡ get_or xs i x → v y ≡ v x → map v (set xs i y) ≡ map v xs
view_kept v [] i x y h e g = refl
view_kept v (z ∷ zs) zero x y h e g = ap (λ w. w ∷ map v zs) (g ∙ ap v e)
view_kept v (z ∷ zs) (suc i) x y h e g =
    ap (λ ws. v z ∷ ws) (view_kept v zs i x y (omega arith) e g)

-- a change of a view past the end
pub view_past : {A B : Type 0} (v : A → B) (xs : List A) (i : ℕ) (f : B → B)
    → length xs ≤ i → map v xs ≡ change_at (map v xs) i f
view_past v [] i f h = refl
view_past v (z ∷ zs) zero f h = absurd (omega arith)
view_past v (z ∷ zs) (suc i) f h = ap (λ ws. v z ∷ ws) (view_past v zs i f (omega arith))

-- a change of each item that commutes with a view
pub map_change_at : {A B : Type 0} (v : A → B) (f : A → A) (g : B → B) (xs : List A) (i : ℕ)
    → ((x : A) → v (f x) ≡ g (v x)) → map v (change_at xs i f) ≡ change_at (map v xs) i g
map_change_at v f g [] i h = refl
map_change_at v f g (x ∷ xs) zero h = ap (λ y. y ∷ map v xs) (h x)
map_change_at v f g (x ∷ xs) (suc i) h = ap (λ ys. v x ∷ ys) (map_change_at v f g xs i h)

map_step_suc : {A : Type 0} (f : A → A) (xs : List A) (i : ℕ) (d : A) → i < length xs
    → set (map f (take i xs) ++ drop i xs) i (f (get_or xs i d))
    ≡ map f (take (suc i) xs) ++ drop (suc i) xs
map_step_suc f [] i d h = absurd (omega arith)
map_step_suc f (x ∷ xs) zero d h = refl
map_step_suc f (x ∷ xs) (suc i) d h =
    ap (λ ys. f x ∷ ys) (map_step_suc f xs i d (omega arith))

map_step : {A : Type 0} (f : A → A) (xs : List A) (i : ℕ) (d : A) → i < length xs
    → set (map f (take i xs) ++ drop i xs) i (f (get_or xs i d))
    ≡ map f (take (i + 1) xs) ++ drop (i + 1) xs
map_step f xs i d h = rw add-one (map_step_suc f xs i d h)

-- the item that comes next in such a loop is as it was
pub map_next : {A : Type 0} (f : A → A) (xs : List A) (i : ℕ) (d : A) → i < length xs
    → get_or (map f (take i xs) ++ drop i xs) i d ≡ get_or xs i d
map_next f [] i d h = absurd (omega arith)
map_next f (x ∷ xs) zero d h = refl
map_next f (x ∷ xs) (suc i) d h = map_next f xs i d (omega arith)

-- one step of a loop that changes each item in place
pub map_loop : {A : Type 0} (f : A → A) (xs ys : List A) (i : ℕ) (y d : A) → i < length xs
    → ys ≡ map f (take i xs) ++ drop i xs → y ≡ f (get_or ys i d)
    → set ys i y ≡ map f (take (i + 1) xs) ++ drop (i + 1) xs
map_loop f xs ys i y d h e g =
    ap (λ w. set ys i w) g
    ∙ ap (λ zs. set zs i (f (get_or zs i d))) e
    ∙ ap (λ w. set (map f (take i xs) ++ drop i xs) i (f w)) (map_next f xs i d h)
    ∙ map_step f xs i d h

-- an item, or another one past the end, after a change of another
pub at_or_change_other : {A : Type 0} (xs : List A) (i j : ℕ) (d : A) (f : A → A)
    → (j ≡ i → ⊥) → at_or (change_at xs i f) j d ≡ at_or xs j d
at_or_change_other [] i j d f h = refl
at_or_change_other (x ∷ xs) zero zero d f h = absurd (h refl)
at_or_change_other (x ∷ xs) zero (suc j) d f h = refl
at_or_change_other (x ∷ xs) (suc i) zero d f h = refl
at_or_change_other (x ∷ xs) (suc i) (suc j) d f h =
    at_or_change_other xs i j d f (λ e. h (ap suc e))

-- the changed item, or another one past the end
pub at_or_change_same : {A : Type 0} (xs : List A) (i : ℕ) (d : A) (f : A → A)
    → i < length xs → at_or (change_at xs i f) i d ≡ f (at_or xs i d)
at_or_change_same [] i d f h = absurd (omega arith)
at_or_change_same (x ∷ xs) zero d f h = refl
at_or_change_same (x ∷ xs) (suc i) d f h = at_or_change_same xs i d f (omega arith)

-- what holds of each item, where a change keeps it
pub All_change_at : {A : Type 0} (P : A → Type 0) (xs : List A) (i : ℕ) (f : A → A)
    → ((x : A) → P x → P (f x)) → All P xs → All P (change_at xs i f)
All_change_at P [] i f h a = a
All_change_at P (x ∷ xs) zero f h a =
    All-cons P (f x) xs (h x (All-head P x xs a)) (All-tail P x xs a)
All_change_at P (x ∷ xs) (suc i) f h a =
    All-cons P x _ (All-head P x xs a) (All_change_at P xs i f h (All-tail P x xs a))

-- what holds of each item holds of the one at a place, where it holds of another one too
pub All_at_or : {A : Type 0} (P : A → Type 0) (xs : List A) (i : ℕ) (d : A)
    → P d → All P xs → P (at_or xs i d)
All_at_or P [] i d p a = p
All_at_or P (x ∷ xs) zero d p a = All-head P x xs a
All_at_or P (x ∷ xs) (suc i) d p a = All_at_or P xs i d p (All-tail P x xs a)

-- an item that is there, read in two ways
pub at_or_slice_get : {A : Type 0} (xs : List A) (i : ℕ) (d : A)
    → i < length xs → slice_get xs i ≡ Some (at_or xs i d)
at_or_slice_get [] i d h = absurd (omega arith)
at_or_slice_get (x ∷ xs) zero d h = refl
at_or_slice_get (x ∷ xs) (suc i) d h = at_or_slice_get xs i d (omega arith)
