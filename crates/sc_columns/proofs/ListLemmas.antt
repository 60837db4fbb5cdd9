-- Two lists item by item, one item many times, and one list behind another.
use Rattle.std.proofs.Common.{◌≡◌, ◌∙◌, ℕ, zero, suc, ◌+◌, ◌-◌, ◌<◌, ◌≤◌, List, [], ◌∷◌, ◌++◌, Some, None, length, map, min, replicate, take, ap, refl, sym, arith}
use Rattle.std.proofs.lemmas.List.{map-append, take_more}
use Rattle.std.proofs.lemmas.Option.{get_or_from_slice_get, slice_get_within}
use Rattle.std.specs.List.{slice_get}
use Rattle.sc_columns.specs.Columns.{zip_with}

pub length-zip_with : {X Y Z : Type 0} (f : X → Y → Z) (xs : List X) (ys : List Y)
    → length (zip_with f xs ys) ≡ min (length xs) (length ys)
length-zip_with f [] ys = omega arith
length-zip_with f (x ∷ xs) [] = omega arith
length-zip_with f (x ∷ xs) (y ∷ ys) = omega (arith, length-zip_with f xs ys)

pub zip_with-nil : {X Y Z : Type 0} (f : X → Y → Z) (xs : List X) → zip_with f xs [] ≡ []
zip_with-nil f [] = refl
zip_with-nil f (x ∷ xs) = refl

pub slice_get-zip_with : {X Y Z : Type 0} (f : X → Y → Z) (xs : List X) (ys : List Y) (i : ℕ)
    (x : X) (y : Y) → slice_get xs i ≡ Some x → slice_get ys i ≡ Some y
    → slice_get (zip_with f xs ys) i ≡ Some (f x y)
slice_get-zip_with f [] ys i x y first second = absurd (cc)
slice_get-zip_with f (a ∷ xs) [] i x y first second = absurd (cc)
slice_get-zip_with f (a ∷ xs) (b ∷ ys) zero x y first second =
    let a_is : a ≡ x = cc in
    let b_is : b ≡ y = cc in
    ap (λ c. Some (f c b)) a_is ∙ ap (λ c. Some (f x c)) b_is
slice_get-zip_with f (a ∷ xs) (b ∷ ys) (suc i) x y first second =
    slice_get-zip_with f xs ys i x y first second

pub slice_get-replicate : {X : Type 0} (n i : ℕ) (x : X) → i < n
    → slice_get (replicate n x) i ≡ Some x
slice_get-replicate zero i x within = absurd (omega arith)
slice_get-replicate (suc n) zero x within = refl
slice_get-replicate (suc n) (suc i) x within = slice_get-replicate n i x (omega arith)

pub slice_get-append_first : {X : Type 0} (xs ys : List X) (i : ℕ) (x : X)
    → slice_get xs i ≡ Some x → slice_get (xs ++ ys) i ≡ Some x
slice_get-append_first [] ys i x is = absurd (cc)
slice_get-append_first (y ∷ xs) ys zero x is = is
slice_get-append_first (y ∷ xs) ys (suc i) x is = slice_get-append_first xs ys i x is

pub slice_get-append_second : {X : Type 0} (xs ys : List X) (i : ℕ) → length xs ≤ i
    → slice_get (xs ++ ys) i ≡ slice_get ys (i - length xs)
slice_get-append_second [] ys i past =
    ap (slice_get ys) (let e : i ≡ i - 0 = omega arith in e)
slice_get-append_second (x ∷ xs) ys zero past = absurd (omega arith)
slice_get-append_second (x ∷ xs) ys (suc i) past =
    slice_get-append_second xs ys i (omega arith)
    ∙ ap (slice_get ys) (let e : i - length xs ≡ suc i - suc (length xs) = omega arith in e)

-- a place without an item lies behind the list
pub past_end : {X : Type 0} (xs : List X) (i : ℕ) → None ≡ slice_get xs i → length xs ≤ i
past_end [] i past = omega arith
past_end (x ∷ xs) zero past = absurd (cc)
past_end (x ∷ xs) (suc i) past = omega (arith, past_end xs i past)

pub take_next : {X : Type 0} (xs : List X) (i : ℕ) (x : X) → slice_get xs i ≡ Some x
    → take (i + 1) xs ≡ take i xs ++ x ∷ []
take_next xs i x is =
    take_more xs i x (slice_get_within xs i x is)
    ∙ ap (λ y. take i xs ++ y ∷ []) (get_or_from_slice_get xs i x x is)

-- one item many times, each of which is mapped
pub map-replicate : {X Y : Type 0} (f : X → Y) (n : ℕ) (x : X)
    → map f (replicate n x) ≡ replicate n (f x)
map-replicate f zero x = refl
map-replicate f (suc n) x = ap (λ ys. f x ∷ ys) (map-replicate f n x)

-- copies of an item behind others, as rows
pub copies_behind : {X Y : Type 0} (f : X → Y) (out after : List X) (x : X) (y : Y) (n : ℕ)
    (rows : List Y) → after ≡ out ++ replicate n x → rows ≡ replicate n y → y ≡ f x
    → map f after ≡ map f out ++ rows
copies_behind f out after x y n rows after_is rows_are same =
    ap (map f) after_is ∙ map-append f out (replicate n x)
    ∙ ap (λ r. map f out ++ r)
    (map-replicate f n x ∙ ap (replicate n) (sym same) ∙ sym rows_are)

pub zip_with-replicate : {X Y Z : Type 0} (f : X → Y → Z) (n : ℕ) (x : X) (y : Y)
    → zip_with f (replicate n x) (replicate n y) ≡ replicate n (f x y)
zip_with-replicate f zero x y = refl
zip_with-replicate f (suc n) x y = ap (λ zs. f x y ∷ zs) (zip_with-replicate f n x y)

-- items behind the first of two lists of one length change no pair
pub zip_with-append_first : {X Y Z : Type 0} (f : X → Y → Z) (xs zs : List X) (ys : List Y)
    → length xs ≡ length ys → zip_with f (xs ++ zs) ys ≡ zip_with f xs ys
zip_with-append_first f [] [] [] level = refl
zip_with-append_first f [] (z ∷ zs) [] level = refl
zip_with-append_first f [] zs (y ∷ ys) level = absurd (omega arith)
zip_with-append_first f (x ∷ xs) zs [] level = absurd (omega arith)
zip_with-append_first f (x ∷ xs) zs (y ∷ ys) level =
    ap (λ ps. f x y ∷ ps) (zip_with-append_first f xs zs ys (omega arith))

pub zip_with-append : {X Y Z : Type 0} (f : X → Y → Z) (xs zs : List X) (ys ws : List Y)
    → length xs ≡ length ys
    → zip_with f (xs ++ zs) (ys ++ ws) ≡ zip_with f xs ys ++ zip_with f zs ws
zip_with-append f [] zs [] ws level = refl
zip_with-append f [] zs (y ∷ ys) ws level = absurd (omega arith)
zip_with-append f (x ∷ xs) zs [] ws level = absurd (omega arith)
zip_with-append f (x ∷ xs) zs (y ∷ ys) ws level =
    ap (λ ps. f x y ∷ ps) (zip_with-append f xs zs ys ws (omega arith))

-- the item at a place within a list
pub there : {X : Type 0} (xs : List X) (i : ℕ) → i < length xs → (x : X) × (slice_get xs i ≡ Some x)
there [] i within = absurd (omega arith)
there (x ∷ xs) zero within = (x, refl)
there (x ∷ xs) (suc i) within = there xs i (omega arith)
