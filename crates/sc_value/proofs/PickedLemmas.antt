-- Items at places.
use Rattle.std.proofs.Common.{◌≡◌, ◌∙◌, ℕ, zero, suc, ◌+◌, ◌<◌, List, [], ◌∷◌, ◌++◌, length, map, drop, get_or, refl, ap, ap₂, sym, subst, Option, Some, None, slice_get, option_map, append_assoc}
use Rattle.std.specs.List.{All, cons_option}
use Rattle.std.proofs.lemmas.List.{drop_more}
use Rattle.std.proofs.lemmas.List.Elements.{All-head, All-tail, All-cons, All-nil}
use Rattle.std.proofs.lemmas.Option.{slice_get-map}
use Rattle.sc_value.specs.Picked.{picked}

cons-map : {X Y : Type 0} (f : X → Y) (o : Option X) (r : List X)
    → map f (cons_option o r) ≡ cons_option (option_map f o) (map f r)
cons-map f None r = refl
cons-map f (Some x) r = refl

-- what a function gives of the items at places, and what holds of them
pub picked-map : {X Y : Type 0} (f : X → Y) (ps : List ℕ) (xs : List X)
    → map f (picked xs ps) ≡ picked (map f xs) ps
picked-map f [] xs = refl
picked-map f (p ∷ ps) xs =
    cons-map f (slice_get xs p) (picked xs ps)
    ∙ ap₂ cons_option (sym (slice_get-map f xs p)) (picked-map f ps xs)

All-at : {X : Type 0} (P : X → Type 0) (xs : List X) (i : ℕ) (x : X) → All P xs
    → slice_get xs i ≡ Some x → P x
All-at P [] i x all is = absurd (cc)
All-at P (y ∷ xs) zero x all is = let e : y ≡ x = cc in subst P e (All-head P y xs all)
All-at P (y ∷ xs) (suc i) x all is = All-at P xs i x (All-tail P y xs all) is

all_cons : {X : Type 0} (P : X → Type 0) (xs rest : List X) (p : ℕ) (o : Option X) → All P xs
    → slice_get xs p ≡ o → All P rest → All P (cons_option o rest)
all_cons P xs rest p None all is more = more
all_cons P xs rest p (Some x) all is more = All-cons P x rest (All-at P xs p x all is) more

pub All-picked : {X : Type 0} (P : X → Type 0) (xs : List X) (ps : List ℕ) → All P xs
    → All P (picked xs ps)
All-picked P xs [] all = All-nil P
All-picked P xs (p ∷ ps) all =
    all_cons P xs (picked xs ps) p (slice_get xs p) all refl (All-picked P xs ps all)

-- one place more
pub picked_more : {X : Type 0} (xs out after all : List X) (ps : List ℕ) (i p : ℕ) (x : X)
    → i < length ps → p ≡ get_or ps i p
    → slice_get xs p ≡ Some x → after ≡ out ++ x ∷ []
    → out ++ picked xs (drop i ps) ≡ all → after ++ picked xs (drop (i + 1) ps) ≡ all
picked_more xs out after all ps i p x within at there is before =
    let rest = picked xs (drop (i + 1) ps) in
    let one : picked xs (drop i ps) ≡ x ∷ rest =
    ap (picked xs) (drop_more ps i p within ∙ ap (λ q. q ∷ drop (i + 1) ps) (sym at))
    ∙ ap (λ o. cons_option o rest) there in
    ap (λ a. a ++ rest) is ∙ append_assoc out (x ∷ []) rest
    ∙ ap (λ ys. out ++ ys) (sym one) ∙ before
