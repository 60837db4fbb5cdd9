-- Streams of heads over columns of one type.
use Rattle.std.proofs.Common.{◌≡◌, ◌∙◌, ℕ, ◌+◌, ◌≤◌, min, List, [], ◌∷◌, ◌++◌, Option, Some, None, Ok, Err, length, map, take, refl, ap, sym, arith}
use Rattle.std.specs.List.{All, slice_get}
use Rattle.std.proofs.lemmas.List.Elements.{All-head, All-tail}
use Rattle.std.specs.Option.{IfSome}
use Rattle.std.proofs.lemmas.List.{take_all, take_more}
use Rattle.std.proofs.lemmas.Option.{slice_get_within, get_or_from_slice_get}
use Rattle.sc_value.specs.Datum.{Datum, pair}
use Rattle.sc_columns.specs.Columns.{zip_with}
use Rattle.sc_columns.proofs.ListLemmas.{length-zip_with, slice_get-zip_with}
use Rattle.sc_columns.specs.Parts.{ArePairs}
use Rattle.sc_columns.specs.declared.views.Both.{Both}
use Rattle.sc_expr.specs.Heads.{Outcome}
use Rattle.sc_expr.specs.declared.exprs.Head.TheVariants as heads
use Rattle.sc_expr.specs.declared.exprs.Raise.{Raise}
use Rattle.sc_lineage.specs.Streams.{with_outcome, with_rows}
use Rattle.sc_batch.specs.Outcomes.{AddsOutcome, of_one, of_two, until_raise}
use Rattle.sc_batch.proofs.ZipLemmas.{some_fact}

-- a head that never raises, over a column
pub each-value : {X Y : Type 0} (o : X → Outcome) (j : Y → Datum) (h : X → Y)
    → ((x : X) → o x ≡ Ok (j (h x))) → (xs : List X) (end : Option Raise)
    → record { rows = map j (map h xs); raise = end } ≡ until_raise (map o xs) end
each-value o j h same [] end = refl
each-value o j h same (x ∷ xs) end =
    ap (with_rows (j (h x) ∷ [])) (each-value o j h same xs end)
    ∙ ap (λ p. with_outcome (λ v. v ∷ []) p (until_raise (map o xs) end)) (sym (same x))

-- the same where the items are known to be of some kind
pub each-value-all : {X Y : Type 0} (P : X → Type 0) (o : X → Outcome) (j : Y → Datum) (h : X → Y)
    → ((x : X) → P x → o x ≡ Ok (j (h x))) → (xs : List X) (end : Option Raise) → All P xs
    → record { rows = map j (map h xs); raise = end } ≡ until_raise (map o xs) end
each-value-all P o j h same [] end all = refl
each-value-all P o j h same (x ∷ xs) end all =
    ap (with_rows (j (h x) ∷ [])) (each-value-all P o j h same xs end (All-tail P x xs all))
    ∙ ap (λ p. with_outcome (λ v. v ∷ []) p (until_raise (map o xs) end))
    (sym (same x (All-head P x xs all)))

-- a head that never raises, over two columns
pub each-zipped : {X Y Z : Type 0} (o : X → Y → Outcome) (j : Z → Datum) (h : X → Y → Z)
    → ((x : X) (y : Y) → o x y ≡ Ok (j (h x y))) → (xs : List X) (ys : List Y) (end : Option Raise)
    → record { rows = map j (zip_with h xs ys); raise = end } ≡ until_raise (zip_with o xs ys) end
each-zipped o j h same [] ys end = refl
each-zipped o j h same (x ∷ xs) [] end = refl
each-zipped o j h same (x ∷ xs) (y ∷ ys) end =
    ap (with_rows (j (h x y) ∷ [])) (each-zipped o j h same xs ys end)
    ∙ ap (λ p. with_outcome (λ v. v ∷ []) p (until_raise (zip_with o xs ys) end)) (sym (same x y))

-- rows of one type
pub map-map : {X Y Z : Type 0} (f : Y → Z) (k : X → Y) (xs : List X)
    → map f (map k xs) ≡ map (λ x. f (k x)) xs
map-map f k [] = refl
map-map f k (x ∷ xs) = ap (λ zs. f (k x) ∷ zs) (map-map f k xs)

pub zip_with-map : {W X Y Y' Z : Type 0} (f : Y → Y' → Z) (k : W → Y) (l : X → Y') (xs : List W)
    (ys : List X) → zip_with f (map k xs) (map l ys) ≡ zip_with (λ x y. f (k x) (l y)) xs ys
zip_with-map f k l [] ys = refl
zip_with-map f k l (x ∷ xs) [] = refl
zip_with-map f k l (x ∷ xs) (y ∷ ys) = ap (λ zs. f (k x) (l y) ∷ zs) (zip_with-map f k l xs ys)

-- a head over a column of one type, as one over its rows
pub of_typed_one : {X : Type 0} (f : Datum → Outcome) (k : X → Datum) (xs : List X)
    (rows : List Datum) (end : Option Raise) → rows ≡ map k xs
    → until_raise (map (λ x. f (k x)) xs) end ≡ until_raise (map f rows) end
of_typed_one f k xs rows end are =
    ap (λ os. until_raise os end) (sym (map-map f k xs) ∙ ap (map f) (sym are))

-- a head over two columns of one type, as one over their rows
pub of_typed : {W X : Type 0} (f : Datum → Datum → Outcome) (k : W → Datum) (l : X → Datum)
    (xs : List W) (ys : List X) (first second : List Datum) (end : Option Raise)
    → first ≡ map k xs → second ≡ map l ys
    → until_raise (zip_with (λ x y. f (k x) (l y)) xs ys) end
    ≡ until_raise (zip_with f first second) end
of_typed f k l xs ys first second end are also =
    ap (λ os. until_raise os end) (sym (zip_with-map f k l xs ys))
    ∙ ap (λ ds. until_raise (zip_with f ds (map l ys)) end) (sym are)
    ∙ ap (λ ds. until_raise (zip_with f first ds) end) (sym also)

-- what two items at a place give, one more
pub zipped_more : {X Y Z : Type 0} (f : X → Y → Z) (xs : List X) (ys : List Y) (out after : List Z)
    (i : ℕ) (x : X) (y : Y) → slice_get xs i ≡ Some x → slice_get ys i ≡ Some y
    → out ≡ take i (zip_with f xs ys) → after ≡ out ++ f x y ∷ []
    → after ≡ take (i + 1) (zip_with f xs ys)
zipped_more f xs ys out after i x y at also before more =
    let here = slice_get-zip_with f xs ys i x y at also in
    more ∙ ap (λ o. o ++ f x y ∷ []) before
    ∙ ap (λ z. take i (zip_with f xs ys) ++ z ∷ [])
    (sym (get_or_from_slice_get (zip_with f xs ys) i (f x y) (f x y) here))
    ∙ sym (take_more (zip_with f xs ys) i (f x y)
    (slice_get_within (zip_with f xs ys) i (f x y) here))

pub zipped_all : {X Y Z : Type 0} (f : X → Y → Z) (xs : List X) (ys : List Y) (out : List Z) (i : ℕ)
    → out ≡ take i (zip_with f xs ys) → min (length xs) (length ys) ≤ i → out ≡ zip_with f xs ys
zipped_all f xs ys out i before past =
    before ∙ take_all i (zip_with f xs ys) (omega (arith, length-zip_with f xs ys))

-- the outcome at a place was added
pub adds_value : (os : List Outcome) (i : ℕ) (o : Outcome) (d : Datum) (before after : List Datum)
    → slice_get os i ≡ Some o → o ≡ Ok d → after ≡ before ++ d ∷ []
    → IfSome (slice_get os i) (AddsOutcome before after None)
adds_value os i o d before after at is more =
    some_fact (AddsOutcome before after None) (slice_get os i) (Ok d) (at ∙ ap Some is) (more, refl)

pub adds_raise : (os : List Outcome) (i : ℕ) (o : Outcome) (r : Raise) (before : List Datum)
    → slice_get os i ≡ Some o → o ≡ Err r
    → IfSome (slice_get os i) (AddsOutcome before before (Some r))
adds_raise os i o r before at is =
    some_fact (AddsOutcome before before (Some r)) (slice_get os i) (Err r) (at ∙ ap Some is)
    (refl, refl)

-- the parts of pairs
firsts : (xs ys : List Datum) (end : Option Raise) → length xs ≡ length ys
    → record { rows = xs; raise = end } ≡ until_raise (map (of_one heads.Fst) (zip_with pair xs ys))
    end
firsts [] ys end len = refl
firsts (x ∷ xs) [] end len = absurd (omega arith)
firsts (x ∷ xs) (y ∷ ys) end len = ap (with_rows (x ∷ [])) (firsts xs ys end (omega arith))

seconds : (xs ys : List Datum) (end : Option Raise) → length xs ≡ length ys
    → record { rows = ys; raise = end } ≡ until_raise (map (of_one heads.Snd) (zip_with pair xs ys))
    end
seconds [] [] end len = refl
seconds [] (y ∷ ys) end len = absurd (omega arith)
seconds (x ∷ xs) [] end len = absurd (omega arith)
seconds (x ∷ xs) (y ∷ ys) end len = ap (with_rows (y ∷ [])) (seconds xs ys end (omega arith))

pub each-first : (rows : List Datum) (both : Both) (end : Option Raise) → ArePairs rows both
    → record { rows = both.first; raise = end } ≡ until_raise (map (of_one heads.Fst) rows) end
each-first rows both end pairs =
    firsts both.first both.second end (pairs.first_len ∙ sym pairs.second_len)
    ∙ ap (λ ds. until_raise (map (of_one heads.Fst) ds) end) (sym pairs.are)

pub each-second : (rows : List Datum) (both : Both) (end : Option Raise) → ArePairs rows both
    → record { rows = both.second; raise = end } ≡ until_raise (map (of_one heads.Snd) rows) end
each-second rows both end pairs =
    seconds both.first both.second end (pairs.first_len ∙ sym pairs.second_len)
    ∙ ap (λ ds. until_raise (map (of_one heads.Snd) ds) end) (sym pairs.are)

-- pairs of two columns
pub each-pair : (xs ys : List Datum) (end : Option Raise)
    → record { rows = zip_with pair xs ys; raise = end }
    ≡ until_raise (zip_with (of_two heads.Pair) xs ys) end
each-pair [] ys end = refl
each-pair (x ∷ xs) [] end = refl
each-pair (x ∷ xs) (y ∷ ys) end = ap (with_rows (pair x y ∷ [])) (each-pair xs ys end)
