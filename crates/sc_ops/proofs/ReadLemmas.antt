-- What is read of rows one after another.
use Rattle.std.proofs.Common.{◌≡◌, ◌∙◌, ℕ, ◌+◌, ◌≤◌, List, [], ◌∷◌, ◌++◌, Some, length, map, take, ap, sym}
use Rattle.std.proofs.lemmas.List.{map_more, take_all}
use Rattle.std.proofs.lemmas.Option.{slice_get_within, get_or_from_slice_get}
use Rattle.std.specs.List.{slice_get}

-- one more was read
pub read-more : {X Y : Type 0} (f : X → Y) (xs : List X) (ys after : List Y) (x : X) (y : Y) (i : ℕ)
    → slice_get xs i ≡ Some x → y ≡ f x → after ≡ ys ++ y ∷ [] → ys ≡ map f (take i xs)
    → after ≡ map f (take (i + 1) xs)
read-more f xs ys after x y i at is added so_far =
    added ∙ ap (λ zs. zs ++ y ∷ []) so_far
    ∙ ap (λ z. map f (take i xs) ++ z ∷ []) (is ∙ ap f (sym (get_or_from_slice_get xs i x x at)))
    ∙ sym (map_more f xs i x (slice_get_within xs i x at))

-- all were read
pub read-all : {X Y : Type 0} (f : X → Y) (xs : List X) (ys : List Y) (i : ℕ) → length xs ≤ i
    → ys ≡ map f (take i xs) → ys ≡ map f xs
read-all f xs ys i past so_far = so_far ∙ ap (map f) (take_all i xs past)
