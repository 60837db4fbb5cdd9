-- Ranges of lists.
use Rattle.std.proofs.Common.{◌≡◌, ◌∙◌, ◌⊎◌, inl, inr, ℕ, zero, suc, ◌+◌, ◌-◌, ◌<◌, ◌≤◌, ◌^◌, List, [], ◌∷◌, ◌++◌, Some, length, map, min, take, drop, replicate, ap, refl, sym, arith}
use Rattle.std.proofs.Math.Nat.{eq-or-lt_of_le}
use Rattle.std.proofs.lemmas.List.{append-nil, drop-map, drop-replicate, length-drop, map-append, map_push, take-map, take_more}
use Rattle.std.proofs.lemmas.Option.{get_or_from_slice_get, slice_get_within}
use Rattle.std.specs.List.{slice_get, slice_range}
use Rattle.sc_columns.specs.Columns.{zip_with}
use Rattle.sc_columns.proofs.ListLemmas.{zip_with-nil}

take-min : {X : Type 0} (k : ℕ) (xs : List X) → take k xs ≡ take (min k (length xs)) xs
take-min zero [] = ap (λ m. take m []) (let e : 0 ≡ min 0 0 = omega arith in e)
take-min (suc k) [] = ap (λ m. take m []) (let e : 0 ≡ min (suc k) 0 = omega arith in e)
take-min zero (x ∷ xs) =
    ap (λ m. take m (x ∷ xs)) (let e : 0 ≡ min 0 (suc (length xs)) = omega arith in e)
take-min (suc k) (x ∷ xs) =
    let e : suc (min k (length xs)) ≡ min (suc k) (suc (length xs)) = omega arith in
    ap (λ zs. x ∷ zs) (take-min k xs) ∙ ap (λ m. take m (x ∷ xs)) e

pub take_same : {X : Type 0} (k m : ℕ) (xs : List X)
    → min k (length xs) ≡ min m (length xs) → take k xs ≡ take m xs
take_same k m xs e = take-min k xs ∙ ap (λ n. take n xs) e ∙ sym (take-min m xs)

-- a range that goes one item further
pub range_one : {X : Type 0} (xs : List X) (from k : ℕ) (x : X) → from ≤ k → slice_get xs k ≡ Some x
    → slice_range xs from (k + 1) ≡ slice_range xs from k ++ x ∷ []
range_one xs zero k x ordered is =
    let count : k + 1 - 0 ≡ k + 1 = omega arith in
    let before : k ≡ k - 0 = omega arith in
    ap (λ n. take n xs) count ∙ take_more xs k x (slice_get_within xs k x is)
    ∙ ap (λ z. take k xs ++ z ∷ []) (get_or_from_slice_get xs k x x is)
    ∙ ap (λ n. take n xs ++ x ∷ []) before
range_one [] (suc from) k x ordered is = absurd (cc)
range_one (y ∷ xs) (suc from) zero x ordered is = absurd (omega arith)
range_one (y ∷ xs) (suc from) (suc k) x ordered is =
    let count : suc k + 1 - suc from ≡ k + 1 - from = omega arith in
    let before : k - from ≡ suc k - suc from = omega arith in
    ap (λ n. take n (drop from xs)) count ∙ range_one xs from k x (omega arith) is
    ∙ ap (λ n. take n (drop from xs) ++ x ∷ []) before

pub range_more : {X Y : Type 0} (f : X → Y) (ys : List Y) (out after : List X) (from k : ℕ) (x : X)
    → map f out ≡ slice_range ys from k → from ≤ k → slice_get ys k ≡ Some (f x)
    → after ≡ out ++ x ∷ [] → map f after ≡ slice_range ys from (k + 1)
range_more f ys out after from k x before ordered is after_is =
    ap (map f) after_is ∙ map_push f out x ∙ ap (λ r. r ++ f x ∷ []) before
    ∙ sym (range_one ys from k (f x) ordered is)

-- a part of rows of each form
pub part-map : {X Y : Type 0} (f : X → Y) (xs part : List X) (rows : List Y) (a b : ℕ)
    → rows ≡ map f xs → part ≡ slice_range xs a b → map f part ≡ slice_range rows a b
part-map f xs part rows a b are is =
    ap (map f) is ∙ sym (take-map f (b - a) (drop a xs))
    ∙ ap (take (b - a)) (sym (drop-map f a xs)) ∙ ap (λ r. slice_range r a b) (sym are)

-- a part of rows of a form behind others of that form
pub part_behind : {X Y : Type 0} (f : X → Y) (xs part before after : List X) (rows : List Y)
    (a b : ℕ) → rows ≡ map f xs → part ≡ slice_range xs a b → after ≡ before ++ part
    → map f after ≡ map f before ++ slice_range rows a b
part_behind f xs part before after rows a b are is behind =
    ap (map f) behind ∙ map-append f before part
    ∙ ap (λ r. map f before ++ r) (part-map f xs part rows a b are is)

take-zip_with : {X Y Z : Type 0} (f : X → Y → Z) (n : ℕ) (xs : List X) (ys : List Y)
    → take n (zip_with f xs ys) ≡ zip_with f (take n xs) (take n ys)
take-zip_with f zero xs ys = refl
take-zip_with f (suc n) [] ys = refl
take-zip_with f (suc n) (x ∷ xs) [] = refl
take-zip_with f (suc n) (x ∷ xs) (y ∷ ys) = ap (λ zs. f x y ∷ zs) (take-zip_with f n xs ys)

drop-zip_with : {X Y Z : Type 0} (f : X → Y → Z) (n : ℕ) (xs : List X) (ys : List Y)
    → drop n (zip_with f xs ys) ≡ zip_with f (drop n xs) (drop n ys)
drop-zip_with f zero xs ys = refl
drop-zip_with f (suc n) [] ys = refl
drop-zip_with f (suc n) (x ∷ xs) [] = sym (zip_with-nil f (drop n xs))
drop-zip_with f (suc n) (x ∷ xs) (y ∷ ys) = drop-zip_with f n xs ys

pub part-zip_with : {X Y Z : Type 0} (f : X → Y → Z) (xs first : List X) (ys second : List Y)
    (rows : List Z) (a b : ℕ) → rows ≡ zip_with f xs ys → first ≡ slice_range xs a b
    → second ≡ slice_range ys a b → zip_with f first second ≡ slice_range rows a b
part-zip_with f xs first ys second rows a b are first_is second_is =
    ap (λ fs. zip_with f fs second) first_is
    ∙ ap (λ ss. zip_with f (slice_range xs a b) ss) second_is
    ∙ sym (take-zip_with f (b - a) (drop a xs) (drop a ys))
    ∙ ap (take (b - a)) (sym (drop-zip_with f a xs ys))
    ∙ ap (λ r. slice_range r a b) (sym are)

take-min-replicate : {X : Type 0} (k n : ℕ) (x : X) → take k (replicate n x) ≡ replicate (min k n) x
take-min-replicate zero n x = ap (λ m. replicate m x) (let e : 0 ≡ min 0 n = omega arith in e)
take-min-replicate (suc k) zero x =
    ap (λ m. replicate m x) (let e : 0 ≡ min (suc k) 0 = omega arith in e)
take-min-replicate (suc k) (suc n) x =
    ap (λ xs. x ∷ xs) (take-min-replicate k n x)
    ∙ ap (λ m. replicate m x) (let e : suc (min k n) ≡ min (suc k) (suc n) = omega arith in e)

pub part-replicate : {X : Type 0} (n m : ℕ) (x : X) (rows : List X) (a b : ℕ)
    → rows ≡ replicate n x → m ≡ min b n - a → replicate m x ≡ slice_range rows a b
part-replicate n m x rows a b are is =
    ap (λ k. replicate k x) (let e : m ≡ min (b - a) (n - a) = omega (arith, is) in e)
    ∙ sym (take-min-replicate (b - a) (n - a) x) ∙ ap (take (b - a)) (sym (drop-replicate a n x))
    ∙ ap (λ r. slice_range r a b) (sym are)

take-append : {X : Type 0} (k : ℕ) (xs ys : List X)
    → take k (xs ++ ys) ≡ take k xs ++ take (k - length xs) ys
take-append zero [] ys = refl
take-append zero (x ∷ xs) ys =
    ap (λ m. take m ys) (let e : 0 ≡ 0 - suc (length xs) = omega arith in e)
take-append (suc k) [] ys = ap (λ m. take m ys) (let e : suc k ≡ suc k - 0 = omega arith in e)
take-append (suc k) (x ∷ xs) ys =
    let e : k - length xs ≡ suc k - suc (length xs) = omega arith in
    ap (λ zs. x ∷ zs) (take-append k xs ys) ∙ ap (λ m. x ∷ take k xs ++ take m ys) e

drop-append : {X : Type 0} (k : ℕ) (xs ys : List X)
    → drop k (xs ++ ys) ≡ drop k xs ++ drop (k - length xs) ys
drop-append zero [] ys = refl
drop-append zero (x ∷ xs) ys =
    ap (λ m. x ∷ xs ++ drop m ys) (let e : 0 ≡ 0 - suc (length xs) = omega arith in e)
drop-append (suc k) [] ys = ap (λ m. drop m ys) (let e : suc k ≡ suc k - 0 = omega arith in e)
drop-append (suc k) (x ∷ xs) ys =
    let e : k - length xs ≡ suc k - suc (length xs) = omega arith in
    drop-append k xs ys ∙ ap (λ m. drop k xs ++ drop m ys) e

take-none : {X : Type 0} (n : ℕ) (xs : List X) → n ≡ 0 → take n xs ≡ []
take-none n xs is = ap (λ m. take m xs) is

-- A part of two runs. What `len` gives for the first is only below its length past every place.
module _ {X : Type 0} (xs ys rows : List X) (a b n : ℕ) (are : rows ≡ xs ++ ys)
    (len : n ≡ min (length xs) (2 ^ 64 - 1)) (small : b < 2 ^ 64) where
  abbrev left : List X
  left = take (b - a) (drop a xs)

  abbrev right : List X
  right = take (b - a - length (drop a xs)) (drop (a - length xs) ys)

  halves : slice_range rows a b ≡ left ++ right
  halves =
      ap (λ r. slice_range r a b) are ∙ ap (take (b - a)) (drop-append a xs ys)
      ∙ take-append (b - a) (drop a xs) (drop (a - length xs) ys)

  pub part-first : b ≤ n → slice_range xs a b ≡ slice_range rows a b
  part-first within =
      let none : b - a - length (drop a xs) ≡ 0 = omega (arith, length-drop a xs) in
      sym (append-nil left) ∙ ap (λ r. left ++ r) (sym (take-none _ _ none)) ∙ sym halves

  behind : (n ≡ length xs) ⊎ (n < length xs) → slice_range ys (a - n) (b - n) ≡ right
  behind (inl is) =
      let count : b - n - (a - n) ≡ b - a - length (drop a xs) = omega (arith, length-drop a xs) in
      ap (λ k. take k (drop (a - n) ys)) count
      ∙ ap (λ k. take (b - a - length (drop a xs)) (drop (a - k) ys)) is
  behind (inr past) =
      let first : b - n - (a - n) ≡ 0 = omega arith in
      let second : b - a - length (drop a xs) ≡ 0 = omega (arith, length-drop a xs) in
      take-none _ _ first ∙ sym (take-none _ _ second)

  second : slice_range ys (a - n) (b - n) ≡ right
  second = let within : n ≤ length xs = omega arith in behind (eq-or-lt_of_le within)

  pub part-second : n ≤ a → slice_range ys (a - n) (b - n) ≡ slice_range rows a b
  part-second past =
      let none : left ≡ [] =
      take_same (b - a) 0 (drop a xs) (omega (arith, length-drop a xs, len)) in
      second ∙ ap (λ l. l ++ right) (sym none) ∙ sym halves

  pub part-both : n < b → slice_range xs a n ++ slice_range ys (a - n) (b - n)
      ≡ slice_range rows a b
  part-both before =
      let same : take (n - a) (drop a xs) ≡ left =
      take_same (n - a) (b - a) (drop a xs) (omega (arith, length-drop a xs)) in
      ap (λ l. l ++ slice_range ys (a - n) (b - n)) same ∙ ap (λ r. left ++ r) second ∙ sym halves
