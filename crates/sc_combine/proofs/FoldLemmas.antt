-- Items put together by group, one after another.
use Rattle.std.proofs.Common.{◌≡◌, ◌∙◌, ℕ, ℤ, zero, suc, ◌+◌, ◌<◌, ◌≤◌, List, [], ◌∷◌, ◌++◌, Some, None, Result, Ok, Err, length, map, drop, get_or, set, refl, ap, ap₂, sym, arith, drop_of_length-le}
use Rattle.std.proofs.lemmas.List.{drop_more, length-map, map-append}
use Rattle.std.proofs.lemmas.Option.{get_or_from_slice_get, slice_get_within, slice_get-map}
use Rattle.std.specs.List.{slice_get}
use Rattle.std.specs.Option.{option_map}
use Rattle.sc_base.specs.Answers.{Answers}
use Rattle.sc_base.specs.declared.refusals.OrMemory.{OrMemory}
use Rattle.sc_base.specs.declared.refusals.OrMemory.TheVariants.{Fault, OutOfMemory}
use Rattle.sc_expr.specs.ExprData.{ExprData}
use Rattle.sc_expr.specs.Heads.{Outcome}
use Rattle.sc_expr.specs.declared.exprs.Raise.{Raise}
use Rattle.sc_lineage.specs.Keyed.{Side, side_then}
use Rattle.sc_value.specs.Datum.{Datum, number}
use Rattle.sc_combine.specs.Combining.{folded_by, placed, put_at, put_beside, step_of}
use Rattle.sc_batch.specs.AtInts.{Gives}
use Rattle.sc_batch.specs.declared.at_ints.Stop.{Stop}
use Rattle.sc_batch.specs.declared.at_ints.Stop.TheVariants.{Raised, Beyond}
use Rattle.sc_combine.specs.IntFolds.{AreFound}
use Rattle.sc_batch.specs.IntFolds.{FoldsInts, put_together}
use Rattle.sc_combine.specs.declared.combining.Taken.TheVariants.{Values}
use Rattle.sc_batch.specs.declared.int_folds.IntFold.{IntFold}

abbrev Step : Type 0
Step = Datum → Datum → Outcome

-- the next item
pub folded_next : (step : Step) (kept : List Datum) (numbers : List ℕ) (items : List Datum) (i : ℕ)
    (item : Datum) → length items ≡ length numbers → slice_get items i ≡ Some item
    → folded_by step kept (drop i numbers) (drop i items)
    ≡ side_then (λ more. folded_by step more (drop (i + 1) numbers) (drop (i + 1) items))
    (put_at step kept (get_or numbers i 0) item)
folded_next step kept numbers items i item level at =
    let within : i < length items = slice_get_within items i item at in
    ap₂ (folded_by step kept) (drop_more numbers i 0 (omega arith))
    (drop_more items i item within
    ∙ ap (λ d. d ∷ drop (i + 1) items) (get_or_from_slice_get items i item item at))

-- one more item was put
pub folded_more : (step : Step) (kept more : List Datum) (numbers : List ℕ) (items : List Datum)
    (i : ℕ) (item : Datum) (whole : Side) → length items ≡ length numbers
    → slice_get items i ≡ Some item → put_at step kept (get_or numbers i 0) item ≡ Ok more
    → whole ≡ folded_by step kept (drop i numbers) (drop i items)
    → whole ≡ folded_by step more (drop (i + 1) numbers) (drop (i + 1) items)
folded_more step kept more numbers items i item whole level at is so_far =
    so_far ∙ folded_next step kept numbers items i item level at
    ∙ ap (side_then (λ ds. folded_by step ds (drop (i + 1) numbers) (drop (i + 1) items))) is

-- an item raised
pub folded_raised : (step : Step) (kept : List Datum) (numbers : List ℕ) (items : List Datum)
    (i : ℕ) (item : Datum) (whole : Side) (r : Raise) → length items ≡ length numbers
    → slice_get items i ≡ Some item → put_at step kept (get_or numbers i 0) item ≡ Err r
    → whole ≡ folded_by step kept (drop i numbers) (drop i items) → whole ≡ Err r
folded_raised step kept numbers items i item whole r level at is so_far =
    so_far ∙ folded_next step kept numbers items i item level at
    ∙ ap (side_then (λ ds. folded_by step ds (drop (i + 1) numbers) (drop (i + 1) items))) is

-- all items were put
pub folded_all : (step : Step) (kept : List Datum) (numbers : List ℕ) (items : List Datum) (i : ℕ)
    (whole : Side) → length items ≡ length numbers → length items ≤ i
    → whole ≡ folded_by step kept (drop i numbers) (drop i items) → whole ≡ Ok kept
folded_all step kept numbers items i whole level past so_far =
    let none : length numbers ≤ i = omega arith in
    so_far ∙ ap (λ ns. folded_by step kept ns (drop i items)) (drop_of_length-le numbers none)

-- a refusal on the way is one of the whole
pub Answers-refused : {X A Y B : Type 0} (view : X → A) (other : Y → B) (is : Result A Raise)
    (whole : Result B Raise) (error : OrMemory Raise)
    → ((r : Raise) → is ≡ Err r → whole ≡ Err r)
    → Answers {X = X} {Y = A} view (λ r. r) (Err error) is
    → Answers {X = Y} {Y = B} other (λ r. r) (Err error) whole
Answers-refused view other is whole (Fault r) stops answered = stops r answered
Answers-refused view other is whole OutOfMemory stops answered = tt

pub map_set : {X Y : Type 0} (f : X → Y) (xs : List X) (n : ℕ) (x : X)
    → map f (set xs n x) ≡ set (map f xs) n (f x)
map_set f [] n x = refl
map_set f (y ∷ xs) zero x = refl
map_set f (y ∷ xs) (suc n) x = ap (λ r. f y ∷ r) (map_set f xs n x)

-- an item of a new group, and one of a group that there is
pub put_new : (step : Step) (kept after : List Datum) (n : ℕ) (item : Datum) → length kept ≤ n
    → after ≡ kept ++ item ∷ [] → put_at step kept n item ≡ Ok after
put_new step kept after n item past is =
    ap (put_beside step kept n item) (none kept n past) ∙ ap Ok (sym is)
  where
    none : (xs : List Datum) (n : ℕ) → length xs ≤ n → slice_get xs n ≡ None
    none [] n past = refl
    none (x ∷ xs) zero past = absurd (omega arith)
    none (x ∷ xs) (suc n) past = none xs n (omega arith)

pub put_known : (step : Step) (kept : List Datum) (n : ℕ) (d item : Datum) (o : Outcome)
    → slice_get kept n ≡ Some d → step d item ≡ o → put_at step kept n item ≡ placed kept n o
put_known step kept n d item o at is =
    ap (put_beside step kept n item) at ∙ ap (placed kept n) is

-- an item in the place of the one that is there, where the step of the two was answered
pub put_answered : {X : Type 0} (step : Step) (f : X → Datum) (kept : List X) (n : ℕ) (d next : X)
    (item : Datum) (result : Result (Unit {0}) (OrMemory Raise))
    → slice_get (map f kept) n ≡ Some (f d)
    → Answers {X = Unit {0}} {Y = Datum} (λ u. f next) (λ r. r) result (step (f d) item)
    → Answers {X = Unit {0}} {Y = List Datum} (λ u. map f (set kept n next)) (λ r. r) result
    (put_at step (map f kept) n item)
put_answered step f kept n d next item (Ok u) at is =
    put_known step (map f kept) n (f d) item (Ok (f next)) at is
    ∙ ap Ok (sym (map_set f kept n next))
put_answered step f kept n d next item (Err (Fault r)) at is =
    put_known step (map f kept) n (f d) item (Err r) at is
put_answered step f kept n d next item (Err OutOfMemory) at is = tt

-- the same for numbers
module _ (e : ExprData) (kind : IntFold) (folds : FoldsInts e kind) where
  pub ints_new : (kept after : List ℤ) (n : ℕ) (x : ℤ) → length kept ≤ n → after ≡ kept ++ x ∷ []
      → put_at (step_of Values e) (map number kept) n (number x) ≡ Ok (map number after)
  ints_new kept after n x past is =
      let size = length-map kept number in
      put_new (step_of Values e) (map number kept) (map number after) n (number x)
      (omega (arith, size)) (ap (map number) is ∙ map-append number kept (x ∷ []))

  pub ints_known : (kept after : List ℤ) (n : ℕ) (a x : ℤ) → slice_get kept n ≡ Some a
      → after ≡ set kept n (put_together kind a x)
      → put_at (step_of Values e) (map number kept) n (number x) ≡ Ok (map number after)
  ints_known kept after n a x at is =
      put_known (step_of Values e) (map number kept) n (number a) (number x)
      (Ok (number (put_together kind a x)))
      (slice_get-map number kept n ∙ ap (option_map number) at) (folds a x)
      ∙ ap Ok (sym (ap (map number) is ∙ map_set number kept n (put_together kind a x)))

-- the same of numbers that are found by an expression of any form
pub found_refused : {X Y : Type 0} (v : X → List ℤ) (w : Y → List ℤ) (is whole : Side)
    (error : OrMemory Stop) → ((r : Raise) → is ≡ Err r → whole ≡ Err r)
    → AreFound {X = X} v is (Err error) → AreFound {X = Y} w whole (Err error)
found_refused v w is whole (Fault (Raised r)) stops found = stops r found
found_refused v w is whole (Fault Beyond) stops found = tt
found_refused v w is whole OutOfMemory stops found = tt

-- an item of a group that there is can't be put
pub int_stops : {X : Type 0} (w : X → List ℤ) (step : Step) (kept : List Datum) (n : ℕ)
    (d item : Datum) (stop : Stop) → slice_get kept n ≡ Some d
    → Gives {X = ℤ} number (Err stop) (step d item)
    → AreFound {X = X} w (put_at step kept n item) (Err (Fault stop))
int_stops w step kept n d item (Raised r) at is = put_known step kept n d item (Err r) at is
int_stops w step kept n d item Beyond at is = tt
