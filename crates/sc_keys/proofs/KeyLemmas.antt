-- The keys of rows, and what is made of each key in turn.
use Rattle.std.proofs.Common.{◌≡◌, ◌∙◌, ℕ, ℤ, zero, suc, ◌+◌, ◌<◌, List, [], ◌∷◌, ◌++◌, Option, None, Some, IfSome, length, map, take, get_or, refl, ap, ap₂, sym, replicate, slice_get}
use Rattle.std.proofs.lemmas.List.{map-append, take-map, take_more}
use Rattle.std.proofs.lemmas.List.Elements.{All-cons, All-nil}
use Rattle.std.specs.List.{All}
use Rattle.std.proofs.lemmas.Option.{get_or_from_slice_get, slice_get_within}
use Rattle.sc_keys.specs.Keyed.{key_in, keys_in}
use Rattle.sc_value.specs.Datum.{Datum, number, text}
use Rattle.sc_value.specs.Keys.{KeyData, number_key, text_key}
use Rattle.sc_value.specs.Picked.{picked}

pub keys-number : (ns : List ℤ) → keys_in (map number ns) ≡ map number_key ns
keys-number [] = refl
keys-number (n ∷ ns) = ap (λ r. number_key n ∷ r) (keys-number ns)

pub keys-text : (ts : List (List ℕ)) → keys_in (map text ts) ≡ map text_key ts
keys-text [] = refl
keys-text (t ∷ ts) = ap (λ r. text_key t ∷ r) (keys-text ts)

pub map-replicate : {X Y : Type 0} (f : X → Y) (n : ℕ) (x : X)
    → map f (replicate n x) ≡ replicate n (f x)
map-replicate f zero x = refl
map-replicate f (suc n) x = ap (λ r. f x ∷ r) (map-replicate f n x)

-- the same item at the first place, so many times
pub picked-first : {X : Type 0} (x : X) (xs : List X) (n : ℕ)
    → picked (x ∷ xs) (replicate n 0) ≡ replicate n x
picked-first x xs zero = refl
picked-first x xs (suc n) = ap (λ r. x ∷ r) (picked-first x xs n)

-- one more item of a list, under two functions
pub twice_more : {X Y Z : Type 0} (f : X → Y) (g : Y → Z) (xs : List X) (i : ℕ) (x : X) (z : Z)
    (out more : List Z) → i < length xs → get_or xs i x ≡ x → z ≡ g (f x)
    → out ≡ map g (map f (take i xs)) → more ≡ out ++ z ∷ []
    → more ≡ map g (map f (take (i + 1) xs))
twice_more f g xs i x z out more within at is are pushed =
    pushed ∙ ap₂ (λ ys y. ys ++ y ∷ []) are is
    ∙ sym (map-append g (map f (take i xs)) (f x ∷ []))
    ∙ ap (map g) (sym (map-append f (take i xs) (x ∷ []))
    ∙ ap (λ y. map f (take i xs ++ y ∷ [])) (sym at)
    ∙ ap (map f) (sym (take_more xs i x within)))

-- one more key of some rows
pub key_more : (rows : List Datum) (keys : List KeyData) (i : ℕ) (d : Datum) (k : KeyData)
    (out more : List KeyData) → keys_in rows ≡ keys → slice_get rows i ≡ Some d → k ≡ key_in d
    → out ≡ take i keys → more ≡ out ++ k ∷ [] → more ≡ take (i + 1) keys
key_more rows keys i d k out more are at is before pushed =
    pushed ∙ ap₂ (λ xs x. xs ++ x ∷ []) (before ∙ ap (take i) (sym are)) is
    ∙ ap₂ (λ xs x. xs ++ x ∷ []) (take-map key_in i rows)
    (ap key_in (sym (get_or_from_slice_get rows i d d at)))
    ∙ sym (map-append key_in (take i rows) (get_or rows i d ∷ []))
    ∙ ap (map key_in) (sym (take_more rows i d (slice_get_within rows i d at)))
    ∙ sym (take-map key_in (i + 1) rows) ∙ ap (take (i + 1)) are

pub IfSome-weaker : {T : Type 0} (o : Option T) (P Q : T → Type 0) → ((x : T) → P x → Q x)
    → IfSome o P → IfSome o Q
IfSome-weaker None P Q more is = is
IfSome-weaker (Some x) P Q more is = more x is

pub All-mapped : {X : Type 0} (f : X → ℕ) (P : ℕ → Type 0) → ((x : X) → P (f x)) → (xs : List X)
    → All P (map f xs)
All-mapped f P each [] = All-nil P
All-mapped f P each (x ∷ xs) = All-cons P (f x) (map f xs) (each x) (All-mapped f P each xs)
