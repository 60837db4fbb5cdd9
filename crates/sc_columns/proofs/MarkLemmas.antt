-- The marked rows of a column of each form.
use Rattle.std.proofs.Common.{◌≡◌, ◌∙◌, ℕ, zero, suc, ◌<◌, Bool, true, false, List, [], ◌∷◌, ◌++◌, length, map, min, take, drop, get_or, refl, ap, arith}
use Rattle.sc_value.specs.Kept.{kept}
use Rattle.sc_columns.specs.Columns.{zip_with}
use Rattle.sc_columns.proofs.ListLemmas.{zip_with-nil}

pub kept-zip_with : {X Y Z : Type 0} (f : X → Y → Z) (bs : List Bool) (xs : List X) (ys : List Y)
    → zip_with f (kept bs xs) (kept bs ys) ≡ kept bs (zip_with f xs ys)
kept-zip_with f [] xs ys = refl
kept-zip_with f (b ∷ bs) [] ys = refl
kept-zip_with f (b ∷ bs) (x ∷ xs) [] = zip_with-nil f (kept (b ∷ bs) (x ∷ xs))
kept-zip_with f (true ∷ bs) (x ∷ xs) (y ∷ ys) =
    ap (λ zs. f x y ∷ zs) (kept-zip_with f bs xs ys)
kept-zip_with f (false ∷ bs) (x ∷ xs) (y ∷ ys) = kept-zip_with f bs xs ys

pub kept-append : {X : Type 0} (k : ℕ) (bs : List Bool) (xs ys : List X)
    → k ≡ min (length xs) (length bs)
    → kept (take k bs) xs ++ kept (drop k bs) ys ≡ kept bs (xs ++ ys)
kept-append k [] [] ys is =
    ap (λ n. kept (take n []) [] ++ kept (drop n []) ys) (let e : k ≡ 0 = omega (arith, is) in e)
kept-append k [] (x ∷ xs) ys is =
    ap (λ n. kept (take n []) (x ∷ xs) ++ kept (drop n []) ys)
    (let e : k ≡ 0 = omega (arith, is) in e)
kept-append zero (b ∷ bs) [] ys is = refl
kept-append (suc k) (b ∷ bs) [] ys is = absurd (omega arith)
kept-append zero (b ∷ bs) (x ∷ xs) ys is = absurd (omega arith)
kept-append (suc k) (true ∷ bs) (x ∷ xs) ys is =
    ap (λ zs. x ∷ zs) (kept-append k bs xs ys (omega arith))
kept-append (suc k) (false ∷ bs) (x ∷ xs) ys is = kept-append k bs xs ys (omega arith)

pub get_or-mapped : {X Y : Type 0} (f : X → Y) (xs : List X) (i : ℕ) (x : X) (y : Y)
    → i < length xs → x ≡ get_or xs i x → y ≡ f x → y ≡ get_or (map f xs) i y
get_or-mapped f [] i x y within at is = absurd (omega arith)
get_or-mapped f (z ∷ xs) zero x y within at is = is ∙ ap f at
get_or-mapped f (z ∷ xs) (suc i) x y within at is =
    get_or-mapped f xs i x y (omega arith) at is
