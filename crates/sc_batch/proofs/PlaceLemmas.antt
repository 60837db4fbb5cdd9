-- Lists that are changed item by item where they stand.
use Rattle.std.proofs.Common.{◌≡◌, ◌∙◌, ℕ, ℤ, zero, suc, pos, ◌+◌, ◌<◌, ◌≤◌, List, [], ◌∷◌, ◌++◌, length, map, take, drop, get_or, set, min, refl, ap, sym, add-one, arith, length-append}
use Rattle.std.specs.Prelude.{replicate}
use Rattle.std.proofs.lemmas.Int.{to_z-of_z}
use Rattle.std.proofs.lemmas.List.{get_or_default, length-drop, length-map, length-take-le, take_all}
use Rattle.std.proofs.lemmas.List.Edits.{map_over_more}
use mir.Val.{SFits, of_z, to_z}
use mir.Syntax.{w64}
use Rattle.sc_columns.specs.Columns.{zip_with}
use Rattle.sc_batch.proofs.ZipLemmas.{zip_with-replicate}

-- one number more was changed
pub number_changed : (f : ℤ → ℤ) (n : ℕ) (xs left : List ℤ) (r : ℤ)
    → left ≡ map f (take n xs) ++ drop n xs → n < length xs → SFits w64 (get_or left n (pos 0))
    → SFits w64 r → r ≡ f (to_z w64 (of_z w64 (get_or left n (pos 0))))
    → set left n (to_z w64 (of_z w64 r)) ≡ map f (take (n + 1) xs) ++ drop (n + 1) xs
number_changed f n xs left r so_far within fits also is =
    let d = get_or left n (pos 0) in
    let len : length left ≡ length xs = ap length so_far
    ∙ length-append (map f (take n xs)) (drop n xs)
    ∙ omega (arith, length-map (take n xs) f, length-take-le n xs (omega arith), length-drop n xs)
    in
    ap (set left n) (to_z-of_z w64 r also ∙ is ∙ ap f (to_z-of_z w64 d fits))
    ∙ map_over_more f xs left n d within so_far (get_or_default left n (pos 0) d (omega arith))

-- the first so many items with those of another list, the others as they were
abbrev pub zipped_to : {X Y : Type 0} → (X → Y → X) → ℕ → List X → List Y → List X
zipped_to f zero xs ys = xs
zipped_to f (suc n) [] ys = []
zipped_to f (suc n) (x ∷ xs) [] = x ∷ xs
zipped_to f (suc n) (x ∷ xs) (y ∷ ys) = f x y ∷ zipped_to f n xs ys

zipped_next : {X Y : Type 0} (f : X → Y → X) (n : ℕ) (xs : List X) (ys : List Y) (d : X) (e : Y)
    → n < length xs → n < length ys
    → set (zipped_to f n xs ys) n (f (get_or (zipped_to f n xs ys) n d) (get_or ys n e))
    ≡ zipped_to f (suc n) xs ys
zipped_next f zero [] ys d e p q = absurd (omega arith)
zipped_next f (suc n) [] ys d e p q = absurd (omega arith)
zipped_next f zero (x ∷ xs) [] d e p q = absurd (omega arith)
zipped_next f (suc n) (x ∷ xs) [] d e p q = absurd (omega arith)
zipped_next f zero (x ∷ xs) (y ∷ ys) d e p q = refl
zipped_next f (suc n) (x ∷ xs) (y ∷ ys) d e p q =
    ap (λ zs. f x y ∷ zs) (zipped_next f n xs ys d e (omega arith) (omega arith))

-- one item more was put together with the one beside it
pub zipped_more_to : {X Y : Type 0} (f : X → Y → X) (n : ℕ) (xs zs : List X) (ys : List Y)
    (d r : X) (e : Y) → n < length xs → n < length ys → zs ≡ zipped_to f n xs ys
    → r ≡ f (get_or zs n d) (get_or ys n e) → set zs n r ≡ zipped_to f (n + 1) xs ys
zipped_more_to f n xs zs ys d r e p q so_far is =
    ap (set zs n) is
    ∙ ap (λ ws. set ws n (f (get_or ws n d) (get_or ys n e))) so_far
    ∙ zipped_next f n xs ys d e p q
    ∙ ap (λ k. zipped_to f k xs ys) (sym (add-one n))

pub zipped_whole : {X Y : Type 0} (f : X → Y → X) (n : ℕ) (xs : List X) (ys : List Y)
    → length xs ≤ length ys → length xs ≤ n → zipped_to f n xs ys ≡ zip_with f xs ys
zipped_whole f zero [] ys p q = refl
zipped_whole f zero (x ∷ xs) ys p q = absurd (omega arith)
zipped_whole f (suc n) [] ys p q = refl
zipped_whole f (suc n) (x ∷ xs) [] p q = absurd (omega arith)
zipped_whole f (suc n) (x ∷ xs) (y ∷ ys) p q =
    ap (λ zs. f x y ∷ zs) (zipped_whole f n xs ys (omega arith) (omega arith))

-- one item beside each of a list that is no longer
pub zipped_with_one : {X Y Z : Type 0} (f : X → Y → Z) (xs : List X) (n : ℕ) (y : Y)
    → length xs ≤ n → map (λ x. f x y) xs ≡ zip_with f xs (replicate n y)
zipped_with_one f xs n y within =
    ap (map (λ x. f x y)) (sym (take_all n xs within)) ∙ sym (zip_with-replicate f xs n y)

zip_with-nil : {X Y Z : Type 0} (f : X → Y → Z) (xs : List X) → zip_with f xs [] ≡ []
zip_with-nil f [] = refl
zip_with-nil f (x ∷ xs) = refl

-- the items of the first list behind the end of the second don't count
pub zip_with-front : {X Y Z : Type 0} (f : X → Y → Z) (xs : List X) (ys : List Y) (n : ℕ)
    → n ≡ min (length xs) (length ys) → zip_with f (take n xs) ys ≡ zip_with f xs ys
zip_with-front f [] ys n is = ap (λ zs. zip_with f zs ys) (take_all n [] (omega arith))
zip_with-front f (x ∷ xs) [] n is = zip_with-nil f (take n (x ∷ xs))
zip_with-front f (x ∷ xs) (y ∷ ys) zero is = absurd (omega arith)
zip_with-front f (x ∷ xs) (y ∷ ys) (suc n) is =
    ap (λ zs. f x y ∷ zs) (zip_with-front f xs ys n (omega arith))
