-- Lists of which each element is seen as something else.
use Rattle.std.proofs.Common.{◌≡◌, Bool, true, false, cond, List, [], ◌∷◌, map, Some, refl}
use Rattle.std.specs.Option.{option_map}
use Rattle.std.specs.List.{find, list_all}

-- the first one that passes, seen, is the first of those seen that passes
pub find_viewed :
    {A B : Type 0} (v : A → B) (q : A → Bool) (w : B → Bool)
    → ((x : A) → q x ≡ w (v x)) → (xs : List A)
    → option_map v (find q xs) ≡ find w (map v xs)
find_viewed v q w same [] = refl
find_viewed v q w same (x ∷ xs) = rw (← same x) (by (q x) (find_viewed v q w same xs))
  where
    by : (b : Bool) → option_map v (find q xs) ≡ find w (map v xs)
        → option_map v (cond b (Some x) (find q xs))
        ≡ cond b (Some (v x)) (find w (map v xs))
    by true rest = refl
    by false rest = rest

-- a test of all of them, seen
pub all_viewed :
    {A B : Type 0} (v : A → B) (q : A → Bool) (w : B → Bool)
    → ((x : A) → q x ≡ w (v x)) → (xs : List A) → list_all q xs ≡ list_all w (map v xs)
all_viewed v q w same [] = refl
all_viewed v q w same (x ∷ xs) = rw (same x, all_viewed v q w same xs)
