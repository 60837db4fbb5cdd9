-- Paths: what lies under what, and the directories that they name.
use Rattle.std.proofs.Common.{◌≡◌, ◌∙◌, ℕ, ◌&&◌, ◌||◌, Bool, true, false, [], ◌∷◌, ◌++◌, refl, ap}
use Rattle.std.specs.Prelude.{◌==◌, Some}
use Rattle.std.proofs.lemmas.Bool.{eq-eqb}
use Rattle.std.proofs.lemmas.Slice.Eq.{bytes_eq-Decides}
use Rattle.sc_base.specs.Trees.{Path, dir_part, dir_step, is_in, lies_under}

same_byte : (c : ℕ) → (c == c) ≡ true
same_byte c = eq-eqb c c refl

-- a front that two paths share
pub lies_under-append : (d x y : Path) → lies_under (d ++ x) (d ++ y) ≡ lies_under x y
lies_under-append [] x y = refl
lies_under-append (c ∷ d) x y =
    ap (λ b. b && lies_under (d ++ x) (d ++ y)) (same_byte c) ∙ lies_under-append d x y

-- what has a slash behind the directory lies under it
pub lies_under-child : (d x : Path) → lies_under d (d ++ 47 ∷ x) ≡ true
lies_under-child [] x = refl
lies_under-child (c ∷ d) x =
    ap (λ b. b && lies_under d (d ++ 47 ∷ x)) (same_byte c) ∙ lies_under-child d x

-- nothing lies under itself
pub lies_under-itself : (d : Path) → lies_under d d ≡ false
lies_under-itself [] = refl
lies_under-itself (c ∷ d) = ap (λ b. b && lies_under d d) (same_byte c) ∙ lies_under-itself d

both : (a b c : Bool) → (b ≡ true → c ≡ true) → (a && b) ≡ true → (a && c) ≡ true
both true b c f e = f e
both false b c f e = e

first_of : (a b : Bool) → (a && b) ≡ true → a ≡ true
first_of true b e = refl
first_of false b e = e

-- what lies under a directory of a directory lies under that one
pub lies_under-deeper : (d x q : Path) → lies_under (d ++ 47 ∷ x) q ≡ true → lies_under d q ≡ true
lies_under-deeper [] x [] e = e
lies_under-deeper [] x (c ∷ q) e = first_of (c == 47) _ e
lies_under-deeper (b ∷ d) x [] e = e
lies_under-deeper (b ∷ d) x (c ∷ q) e =
    both (c == b) (lies_under (d ++ 47 ∷ x) q) (lies_under d q) (lies_under-deeper d x q) e

-- a directory is in itself
pub is_in-itself : (d : Path) → is_in d d ≡ true
is_in-itself d = ap (λ b. b || lies_under d d) ((bytes_eq-Decides d d).1 refl)

-- the directory of a path whose end names one
pub dir_part-append : (xs ys d : Path) → dir_part ys ≡ Some d → dir_part (xs ++ ys) ≡ Some (xs ++ d)
dir_part-append [] ys d is = is
dir_part-append (x ∷ xs) ys d is = ap (dir_step x) (dir_part-append xs ys d is)
