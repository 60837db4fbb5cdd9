-- Ranges of picked rows.
use Rattle.std.proofs.Common.{◌≡◌, ◌∙◌, ℕ, zero, suc, ◌-◌, ◌<◌, List, [], ◌∷◌, Some, length, take, drop, refl, ap, sym, arith, slice_get, slice_range}
use Rattle.std.proofs.lemmas.List.Elements.{All-head, All-tail}
use Rattle.std.specs.List.{cons_option}
use Rattle.sc_value.specs.Picked.{ArePlaces, picked}

some_at : {X : Type 0} (xs : List X) (i : ℕ) → i < length xs → (x : X) × (slice_get xs i ≡ Some x)
some_at [] i within = absurd (omega arith)
some_at (x ∷ xs) zero within = (x, refl)
some_at (x ∷ xs) (suc i) within = some_at xs i (omega arith)

picked-drop : {X : Type 0} (rows : List X) (n : ℕ) (ps : List ℕ) → ArePlaces rows ps
    → drop n (picked rows ps) ≡ picked rows (drop n ps)
picked-drop rows zero ps all = refl
picked-drop rows (suc n) [] all = refl
picked-drop rows (suc n) (p ∷ ps) all =
    let here = some_at rows p (All-head (λ i. i < length rows) p ps all) in
    ap (λ o. drop (suc n) (cons_option o (picked rows ps))) here.1
    ∙ picked-drop rows n ps (All-tail (λ i. i < length rows) p ps all)

picked-take : {X : Type 0} (rows : List X) (n : ℕ) (ps : List ℕ) → ArePlaces rows ps
    → take n (picked rows ps) ≡ picked rows (take n ps)
picked-take rows zero ps all = refl
picked-take rows (suc n) [] all = refl
picked-take rows (suc n) (p ∷ ps) all =
    let here = some_at rows p (All-head (λ i. i < length rows) p ps all) in
    ap (λ o. take (suc n) (cons_option o (picked rows ps))) here.1
    ∙ ap (λ r. here.0 ∷ r) (picked-take rows n ps (All-tail (λ i. i < length rows) p ps all))
    ∙ ap (λ o. cons_option o (picked rows (take n ps))) (sym here.1)

places-drop : {X : Type 0} (rows : List X) (n : ℕ) (ps : List ℕ) → ArePlaces rows ps
    → ArePlaces rows (drop n ps)
places-drop rows zero ps all = all
places-drop rows (suc n) [] all = all
places-drop rows (suc n) (p ∷ ps) all =
    places-drop rows n ps (All-tail (λ i. i < length rows) p ps all)

pub picked-range : {X : Type 0} (rows : List X) (ps : List ℕ) (from to : ℕ) → ArePlaces rows ps
    → slice_range (picked rows ps) from to ≡ picked rows (slice_range ps from to)
picked-range rows ps from to all =
    ap (take (to - from)) (picked-drop rows from ps all)
    ∙ picked-take rows (to - from) (drop from ps) (places-drop rows from ps all)

pub length-picked : {X : Type 0} (rows : List X) (ps : List ℕ) → ArePlaces rows ps
    → length (picked rows ps) ≡ length ps
length-picked rows [] all = refl
length-picked rows (p ∷ ps) all =
    let here = some_at rows p (All-head (λ i. i < length rows) p ps all) in
    ap (λ o. length (cons_option o (picked rows ps))) here.1
    ∙ ap suc (length-picked rows ps (All-tail (λ i. i < length rows) p ps all))
