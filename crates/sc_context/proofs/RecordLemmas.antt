-- Records of one job more.
use Rattle.std.proofs.Common.{◌≡◌, List, [], ◌∷◌, ◌++◌, sym, subst}
use Rattle.std.specs.List.{AllZip}

-- what holds of each pair of two lists holds with one pair more
pub all_zip_push : {A B : Type 0} (R : A → B → Type 0) (xs : List A) (ys : List B) (x : A) (y : B)
    → AllZip R xs ys → R x y → AllZip R (xs ++ x ∷ []) (ys ++ y ∷ [])
all_zip_push R [] [] x y all one = (one, tt)
all_zip_push R [] (z ∷ ys) x y all one = absurd all
all_zip_push R (w ∷ xs) [] x y all one = absurd all
all_zip_push R (w ∷ xs) (z ∷ ys) x y all one = (all.0, all_zip_push R xs ys x y all.1 one)

-- the same of lists that are known by equations
pub all_zip_more : {A B : Type 0} (R : A → B → Type 0) (xs more : List A) (ys others : List B)
    (x : A) (y : B) → more ≡ xs ++ x ∷ [] → others ≡ ys ++ y ∷ [] → AllZip R xs ys → R x y
    → AllZip R more others
all_zip_more R xs more ys others x y is are all one =
    subst (λ ms. AllZip R ms others) (sym is)
    (subst (AllZip R (xs ++ x ∷ [])) (sym are) (all_zip_push R xs ys x y all one))
