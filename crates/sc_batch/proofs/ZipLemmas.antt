-- Lists item by item.
use Rattle.std.proofs.Common.{◌≡◌, ◌∙◌, ℕ, zero, suc, ◌+◌, ◌-◌, min, length, List, [], ◌∷◌, ◌++◌, Option, Some, map, take, refl, ap, subst, sym, arith}
use Rattle.std.specs.Prelude.{replicate}
use Rattle.std.specs.List.{slice_get, slice_range}
use Rattle.std.specs.Option.{IfSome, option_map}
use Rattle.sc_value.specs.Spans.{part_at}
use Rattle.sc_value.specs.declared.texts.Span.{Span}
use Rattle.sc_columns.specs.Columns.{zip_with}
use Rattle.std.proofs.lemmas.List.{map_more}
use Rattle.std.proofs.lemmas.Option.{slice_get-map, slice_get_within, get_or_from_slice_get}

-- what an item at a place gives
pub at-map : {X Y : Type 0} (f : X → Y) (xs : List X) (i : ℕ) (x : X) → slice_get xs i ≡ Some x
    → slice_get (map f xs) i ≡ Some (f x)
at-map f xs i x is = slice_get-map f xs i ∙ ap (option_map f) is

-- the text at a place, where the texts are parts of some bytes
pub part_there : (bytes : List ℕ) (places : List Span) (texts : List (List ℕ)) (i : ℕ)
    (place : Span) (text : List ℕ) → map (part_at bytes) places ≡ texts
    → slice_get places i ≡ Some place → text ≡ part_at bytes place → slice_get texts i ≡ Some text
part_there bytes places texts i place text are at is =
    ap (λ ts. slice_get ts i) (sym are) ∙ at-map (part_at bytes) places i place at
    ∙ ap Some (sym is)

-- a fact of the item at a place, as one of what may be there, and back
pub some_fact : {X : Type 0} (P : X → Type 0) (o : Option X) (x : X) → o ≡ Some x → P x → IfSome o P
some_fact {X = X} P o x is p = subst (λ (q : Option X). IfSome q P) (sym is) p

pub fact_of_some : {X : Type 0} (P : X → Type 0) (o : Option X) (x : X) → o ≡ Some x → IfSome o P
    → P x
fact_of_some {X = X} P o x is p = subst (λ (q : Option X). IfSome q P) is p

-- a range from the front
pub range_from_zero : {X : Type 0} (xs : List X) (n : ℕ) → slice_range xs 0 n ≡ take n xs
range_from_zero xs n = ap (λ m. take m xs) (let e : n - 0 ≡ n = omega arith in e)

-- what one item more gives
pub mapped_more : {X Y : Type 0} (f : X → Y) (xs : List X) (out after : List Y) (i : ℕ) (x : X)
    → slice_get xs i ≡ Some x → out ≡ map f (take i xs) → after ≡ out ++ f x ∷ []
    → after ≡ map f (take (i + 1) xs)
mapped_more f xs out after i x is before more =
    more ∙ ap (λ o. o ++ f x ∷ []) before
    ∙ ap (λ y. map f (take i xs) ++ f y ∷ []) (sym (get_or_from_slice_get xs i x x is))
    ∙ sym (map_more f xs i x (slice_get_within xs i x is))

pub map-replicate : {X Y : Type 0} (f : X → Y) (n : ℕ) (x : X)
    → replicate n (f x) ≡ map f (replicate n x)
map-replicate f zero x = refl
map-replicate f (suc n) x = ap (λ ys. f x ∷ ys) (map-replicate f n x)

-- one item beside each of a list
pub zip_with-replicate : {X Y Z : Type 0} (f : X → Y → Z) (xs : List X) (n : ℕ) (y : Y)
    → zip_with f xs (replicate n y) ≡ map (λ x. f x y) (take n xs)
zip_with-replicate f [] zero y = refl
zip_with-replicate f [] (suc n) y = refl
zip_with-replicate f (x ∷ xs) zero y = refl
zip_with-replicate f (x ∷ xs) (suc n) y = ap (λ zs. f x y ∷ zs) (zip_with-replicate f xs n y)

pub take-min : {X : Type 0} (xs : List X) (n : ℕ) → take (min (length xs) n) xs ≡ take n xs
take-min [] zero = refl
take-min [] (suc n) = ap (λ m. take m []) (let e : min 0 (suc n) ≡ 0 = omega arith in e)
take-min (x ∷ xs) zero = ap (λ m. take m (x ∷ xs))
    (let e : min (suc (length xs)) 0 ≡ 0 = omega arith in e)
take-min (x ∷ xs) (suc n) =
    ap (λ m. take m (x ∷ xs))
    (let e : min (suc (length xs)) (suc n) ≡ suc (min (length xs) n) = omega arith in e)
    ∙ ap (λ ys. x ∷ ys) (take-min xs n)
