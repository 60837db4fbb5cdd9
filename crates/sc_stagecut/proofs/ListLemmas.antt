-- Loops that keep some of the items of a list, and lists in step.
use Rattle.std.proofs.Common.{◌≡◌, ◌∙◌, ℕ, ◌+◌, ◌<◌, Bool, true, false, cond, Option, Some, None, List, [], ◌∷◌, ◌++◌, length, take, get_or, ap, sym, subst}
use Rattle.std.specs.List.{AllZip, cons_option, filter, filter_map}
use Rattle.std.proofs.lemmas.List.{append-nil, take_more}
use Rattle.std.proofs.lemmas.List.Elements.{filter_map-append, filter_more}

module _ {A : Type 0} (test : A → Bool) where
  -- one item more, which passes
  pub filter-more_kept : (xs : List A) (i : ℕ) (x : A) (those more : List A) → i < length xs
      → x ≡ get_or xs i x → those ≡ filter test (take i xs) → test x ≡ true
      → more ≡ those ++ x ∷ [] → more ≡ filter test (take (i + 1) xs)
  filter-more_kept xs i x those more within at so_far passes pushed =
      pushed
      ∙ ap (λ ys. ys ++ x ∷ []) so_far
      ∙ sym (ap (λ (b : Bool). filter test (take i xs) ++ cond b (x ∷ []) []) passes)
      ∙ ap (λ (y : A). filter test (take i xs) ++ cond (test y) (y ∷ []) []) at
      ∙ sym (filter_more test xs i x within)

  -- one item more, which doesn't
  pub filter-more_left : (xs : List A) (i : ℕ) (x : A) (those : List A) → i < length xs
      → x ≡ get_or xs i x → those ≡ filter test (take i xs) → test x ≡ false
      → those ≡ filter test (take (i + 1) xs)
  filter-more_left xs i x those within at so_far fails =
      so_far
      ∙ sym (append-nil (filter test (take i xs)))
      ∙ sym (ap (λ (b : Bool). filter test (take i xs) ++ cond b (x ∷ []) []) fails)
      ∙ ap (λ (y : A). filter test (take i xs) ++ cond (test y) (y ∷ []) []) at
      ∙ sym (filter_more test xs i x within)

-- What a function gives of items, where it gives something.
module _ {A B : Type 0} (give : A → Option B) where
  filter_map-push : (xs : List A) (x : A) → filter_map give (xs ++ x ∷ [])
      ≡ filter_map give xs ++ filter_map give (x ∷ [])
  filter_map-push xs x = filter_map-append give xs (x ∷ [])

  at_more : (xs : List A) (i : ℕ) (x : A) → i < length xs → x ≡ get_or xs i x
      → filter_map give (take (i + 1) xs)
      ≡ filter_map give (take i xs) ++ cons_option (give x) []
  at_more xs i x within at =
      ap (filter_map give)
      (take_more xs i x within ∙ ap (λ (y : A). take i xs ++ y ∷ []) (sym at))
      ∙ filter_map-push (take i xs) x

  -- one item more, of which it gives something
  pub filter_map-more_given : (xs : List A) (i : ℕ) (x : A) (y : B) (those more : List B)
      → i < length xs → x ≡ get_or xs i x → those ≡ filter_map give (take i xs)
      → give x ≡ Some y → more ≡ those ++ y ∷ [] → more ≡ filter_map give (take (i + 1) xs)
  filter_map-more_given xs i x y those more within at so_far gives pushed =
      pushed
      ∙ ap (λ ys. ys ++ y ∷ []) so_far
      ∙ sym (ap (λ (o : Option B). filter_map give (take i xs) ++ cons_option o []) gives)
      ∙ sym (at_more xs i x within at)

  -- one item more, of which it gives nothing
  pub filter_map-more_none : (xs : List A) (i : ℕ) (x : A) (those : List B)
      → i < length xs → x ≡ get_or xs i x → those ≡ filter_map give (take i xs)
      → give x ≡ None → those ≡ filter_map give (take (i + 1) xs)
  filter_map-more_none xs i x those within at so_far gives =
      so_far
      ∙ sym (append-nil (filter_map give (take i xs)))
      ∙ sym (ap (λ (o : Option B). filter_map give (take i xs) ++ cons_option o []) gives)
      ∙ sym (at_more xs i x within at)

-- two lists in step, one item longer
pub AllZip-longer : {A B : Type 0} (R : A → B → Type 0) (xs : List A) (ys : List B) (x : A) (y : B)
    → AllZip R xs ys → R x y → AllZip R (xs ++ x ∷ []) (ys ++ y ∷ [])
AllZip-longer R [] [] x y all one = (one, tt)
AllZip-longer R [] (z ∷ ys) x y all one = absurd all
AllZip-longer R (z ∷ xs) [] x y all one = absurd all
AllZip-longer R (w ∷ xs) (z ∷ ys) x y all one = (all.0, AllZip-longer R xs ys x y all.1 one)

-- the next item of a list in step with another
pub AllZip-more : {A B : Type 0} (R : A → B → Type 0) (xs : List A) (ys more : List B) (i : ℕ)
    (d : A) (y : B) → i < length xs → AllZip R (take i xs) ys → R (get_or xs i d) y
    → more ≡ ys ++ y ∷ [] → AllZip R (take (i + 1) xs) more
AllZip-more {A} {B} R xs ys more i d y within all one pushed =
    let x = get_or xs i d in
    let P : List A → Type 0 = λ zs. AllZip R zs more in
    let Q : List B → Type 0 = λ zs. AllZip R (take i xs ++ x ∷ []) zs in
    subst P (sym (take_more xs i d within))
    (subst Q (sym pushed) (AllZip-longer R (take i xs) ys x y all one))
