-- What holds of each item of a list, item by item.
use Rattle.std.proofs.Common.{◌≡◌, refl, Bool, true, false, List, [], ◌∷◌, ◌++◌, map, filter, flat_map, if◌then◌else◌}
use Rattle.std.specs.List.{AllByRecursion}

pub each_any : {X : Type 0} (P : X → Type 0) (xs : List X) → ((x : X) → P x) → AllByRecursion P xs
each_any P [] all = tt
each_any P (x ∷ xs) all = (all x, each_any P xs all)

-- what two facts give, item by item
pub each_both : {X : Type 0} (P Q R : X → Type 0) (xs : List X) → ((x : X) → P x → Q x → R x)
    → AllByRecursion P xs → AllByRecursion Q xs → AllByRecursion R xs
each_both P Q R [] gives first second = tt
each_both P Q R (x ∷ xs) gives first second =
    (gives x first.0 second.0, each_both P Q R xs gives first.1 second.1)

pub each_append : {X : Type 0} (P : X → Type 0) (xs ys : List X) → AllByRecursion P xs
    → AllByRecursion P ys → AllByRecursion P (xs ++ ys)
each_append P [] ys first second = second
each_append P (x ∷ xs) ys first second = (first.0, each_append P xs ys first.1 second)

pub each_if : {X : Type 0} (P : X → Type 0) (b : Bool) (x : X) (xs : List X) → (b ≡ true → P x)
    → AllByRecursion P xs → AllByRecursion P (if b then x ∷ xs else xs)
each_if P true x xs first rest = (first refl, rest)
each_if P false x xs first rest = rest

pub each_filter : {X : Type 0} (P : X → Type 0) (test : X → Bool) (xs : List X)
    → AllByRecursion P xs → AllByRecursion P (filter test xs)
each_filter P test [] each = tt
each_filter P test (x ∷ xs) each =
    each_if P (test x) x (filter test xs) (λ e. each.0) (each_filter P test xs each.1)

pub each_map : {X Y : Type 0} (P : X → Type 0) (Q : Y → Type 0) (f : X → Y) (xs : List X)
    → ((x : X) → P x → Q (f x)) → AllByRecursion P xs → AllByRecursion Q (map f xs)
each_map P Q f [] gives each = tt
each_map P Q f (x ∷ xs) gives each = (gives x each.0, each_map P Q f xs gives each.1)

pub each_flat_map : {X Y : Type 0} (P : X → Type 0) (Q : Y → Type 0) (f : X → List Y)
    (xs : List X) → ((x : X) → P x → AllByRecursion Q (f x)) → AllByRecursion P xs
    → AllByRecursion Q (flat_map f xs)
each_flat_map P Q f [] gives each = tt
each_flat_map P Q f (x ∷ xs) gives each =
    each_append Q (f x) (flat_map f xs) (gives x each.0) (each_flat_map P Q f xs gives each.1)
