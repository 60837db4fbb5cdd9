-- Lists by their places, and streams of which none raises.
use Rattle.std.proofs.Common.{◌≡◌, ◌∙◌, ℕ, zero, suc, ◌+◌, ◌<◌, ◌≤◌, Bool, true, false, ◌||◌, List, [], ◌∷◌, ◌++◌, Option, Some, None, Ok, Err, is_some, length, map, flat_map, refl, ap, ap₂, sym, arith, true≢false}
use Rattle.std.proofs.lemmas.List.{length-map, map-append}
use Rattle.std.proofs.lemmas.List.Concat.{flat_map-append}
use Rattle.std.proofs.lemmas.List.Folds.{list_any-append}
use Rattle.std.specs.List.{list_any, AllByRecursion}
use Rattle.sc_base.specs.Lists.{at_or, numbers_from, numbers_below}
use Rattle.sc_value.specs.Datum.{Datum}
use Rattle.sc_expr.specs.Heads.{Outcome}
use Rattle.sc_expr.specs.declared.exprs.Raise.{Raise}
use Rattle.sc_lineage.specs.declared.streams.Stream.{Stream}
use Rattle.sc_lineage.specs.Actions.{all_rows}
use Rattle.sc_lineage.specs.Streams.{each_gives, ended_stream, joined_streams, raises, unless_raised, with_outcome}
use Rattle.sc_lineage.proofs.PlaceLemmas.{at_or-numbers_below, length-numbers_below}

-- lists that have the same items at all places are the same
pub same_by_places : {A : Type 0} (xs ys : List A) (other : A) → length xs ≡ length ys
    → ((i : ℕ) → i < length ys → at_or xs i other ≡ at_or ys i other) → xs ≡ ys
same_by_places [] [] other len each = refl
same_by_places [] (y ∷ ys) other len each = absurd (omega arith)
same_by_places (x ∷ xs) [] other len each = absurd (omega arith)
same_by_places (x ∷ xs) (y ∷ ys) other len each =
    ap₂ (λ z zs. z ∷ zs) (each 0 (omega arith))
    (same_by_places xs ys other (omega arith) (λ i below. each (suc i) (omega arith)))

-- a list is its items at the numbers below its length
pub by_numbers : {A : Type 0} (xs : List A) (other : A)
    → xs ≡ map (λ i. at_or xs i other) (numbers_below (length xs))
by_numbers {A = A} xs other =
    let f : ℕ → A = λ i. at_or xs i other in
    let n = length xs in
    let len : length (map f (numbers_below n)) ≡ n =
    length-map (numbers_below n) f ∙ length-numbers_below n in
    same_by_places xs (map f (numbers_below n)) other (sym len)
    (λ i below. sym (at_or-numbers_below f n i other (omega (arith, len))))

-- functions that agree at the numbers from one to another
pub agree_on : {A : Type 0} (f g : ℕ → List A) (first count : ℕ)
    → ((i : ℕ) → first ≤ i → i < first + count → f i ≡ g i)
    → flat_map f (numbers_from first count) ≡ flat_map g (numbers_from first count)
agree_on f g first zero same = refl
agree_on f g first (suc count) same =
    ap₂ (λ xs ys. xs ++ ys) (same first (omega arith) (omega arith))
    (agree_on f g (suc first) count (λ i from to. same i (omega arith) (omega arith)))

-- runs of runs, one behind another
pub runs_of_runs : {A B C : Type 0} (h : B → List C) (g : A → List B) (xs : List A)
    → flat_map (λ x. flat_map h (g x)) xs ≡ flat_map h (flat_map g xs)
runs_of_runs h g [] = refl
runs_of_runs h g (x ∷ xs) =
    ap (λ ys. flat_map h (g x) ++ ys) (runs_of_runs h g xs)
    ∙ sym (flat_map-append h (g x) (flat_map g xs))

-- tests of which none holds
pub neither : (b c : Bool) → (b || c) ≡ false → (b ≡ false) × (c ≡ false)
neither true c is = absurd (true≢false is)
neither false c is = (refl, is)

pub none_holds : (b c : Bool) → b ≡ false → c ≡ false → (b || c) ≡ false
none_holds true c first second = absurd (true≢false first)
none_holds false c first second = second

-- streams of which none raises
abbrev pub AreSilent : List Stream → Type 0
AreSilent streams = list_any raises streams ≡ false

pub silent_at : (streams : List Stream) (i : ℕ) → AreSilent streams
    → raises (at_or streams i (ended_stream None)) ≡ false
silent_at [] i silent = refl
silent_at (s ∷ streams) zero silent = (neither (raises s) (list_any raises streams) silent).0
silent_at (s ∷ streams) (suc i) silent =
    silent_at streams i (neither (raises s) (list_any raises streams) silent).1

pub silent_by : (streams : List Stream)
    → ((i : ℕ) → i < length streams → raises (at_or streams i (ended_stream None)) ≡ false)
    → AreSilent streams
silent_by [] each = refl
silent_by (s ∷ streams) each =
    none_holds (raises s) (list_any raises streams) (each 0 (omega arith))
    (silent_by streams (λ i below. each (suc i) (omega arith)))

-- one of some streams raises
pub raises_by : (streams : List Stream) (i : ℕ)
    → raises (at_or streams i (ended_stream None)) ≡ true → list_any raises streams ≡ true
raises_by [] i is = absurd (true≢false (sym is))
raises_by (s ∷ streams) zero is = ap (λ b. b || list_any raises streams) is
raises_by (s ∷ streams) (suc i) is = behind (raises s) (raises_by streams i is)
  where
    behind : (b : Bool) {c : Bool} → c ≡ true → (b || c) ≡ true
    behind true is = refl
    behind false is = is

-- the streams of runs of places, run by run
module _ {P : Type 0} (f : P → Stream) (g : ℕ → List P) where
  pub silent_runs : (first count : ℕ)
      → ((i : ℕ) → first ≤ i → i < first + count → AreSilent (map f (g i)))
      → AreSilent (map f (flat_map g (numbers_from first count)))
  silent_runs first zero each = refl
  silent_runs first (suc count) each =
      let rest = flat_map g (numbers_from (suc first) count) in
      ap (list_any raises) (map-append f (g first) rest)
      ∙ list_any-append raises (map f (g first)) (map f rest)
      ∙ none_holds (list_any raises (map f (g first))) (list_any raises (map f rest))
      (each first (omega arith) (omega arith))
      (silent_runs (suc first) count (λ i from to. each i (omega arith) (omega arith)))

  pub silent_each : (xs : List ℕ) → AreSilent (map f (flat_map g xs))
      → AllByRecursion (λ x. AreSilent (map f (g x))) xs
  silent_each [] silent = tt
  silent_each (x ∷ xs) silent =
      let rest = flat_map g xs in
      let both = neither (list_any raises (map f (g x))) (list_any raises (map f rest))
      (sym (list_any-append raises (map f (g x)) (map f rest))
      ∙ ap (list_any raises) (sym (map-append f (g x) rest)) ∙ silent) in
      (both.0, silent_each xs both.1)

-- streams one behind another
behind_silent : (rows : List Datum) (end : Option Raise) (rest : Stream)
    → raises (unless_raised rows end rest) ≡ false → (is_some end ≡ false) × (raises rest ≡ false)
behind_silent rows None rest silent = (refl, silent)
behind_silent rows (Some r) rest silent = absurd (true≢false silent)

pub joined_silent : (streams : List Stream) → raises (joined_streams streams) ≡ false
    → AreSilent streams
joined_silent [] silent = refl
joined_silent (s ∷ streams) silent =
    let both = behind_silent s.rows s.raise (joined_streams streams) silent in
    none_holds (raises s) (list_any raises streams) both.0 (joined_silent streams both.1)

rows_behind : (rows : List Datum) (end : Option Raise) (rest : Stream) → is_some end ≡ false
    → (unless_raised rows end rest).rows ≡ rows ++ rest.rows
rows_behind rows None rest silent = refl
rows_behind rows (Some r) rest silent = absurd (true≢false silent)

pub joined_rows : (streams : List Stream) → AreSilent streams
    → (joined_streams streams).rows ≡ all_rows streams
joined_rows [] silent = refl
joined_rows (s ∷ streams) silent =
    let both = neither (raises s) (list_any raises streams) silent in
    rows_behind s.rows s.raise (joined_streams streams) both.0
    ∙ ap (λ rows. s.rows ++ rows) (joined_rows streams both.1)

-- an operation row by row
with_outcome_silent : (given : Datum → List Datum) (outcome : Outcome) (rest : Stream)
    → raises (with_outcome given outcome rest) ≡ false → raises rest ≡ false
with_outcome_silent given (Ok d) rest silent = silent
with_outcome_silent given (Err r) rest silent = absurd (true≢false silent)

pub each_silent : (given : Datum → Datum → List Datum) (f : Datum → Outcome) (rows : List Datum)
    (end : Option Raise) → raises (each_gives given f rows end) ≡ false → is_some end ≡ false
each_silent given f [] end silent = silent
each_silent given f (d ∷ rows) end silent =
    each_silent given f rows end
    (with_outcome_silent (given d) (f d) (each_gives given f rows end) silent)
