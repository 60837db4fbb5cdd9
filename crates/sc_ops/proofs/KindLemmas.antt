-- What each kind of operation gives of rows and the values beside them.
use Rattle.std.proofs.Common.{◌≡◌, ◌∙◌, ℕ, zero, suc, ◌+◌, ◌<◌, ◌≤◌, Bool, true, false, List, [], ◌∷◌, ◌++◌, Option, Some, length, map, replicate, if◌then◌else◌, refl, ap, sym, arith}
use Rattle.std.proofs.lemmas.List.{append_assoc, length-append, length-map}
use Rattle.std.proofs.lemmas.List.Elements.{filter_map-append, All-nil, All-append, All-replicate, All-same}
use Rattle.std.specs.List.{All, cons_option, flat_map, slice_get}
use Rattle.sc_value.specs.Datum.{Datum, number, truth, text, pair, group}
use Rattle.sc_value.specs.Kept.{kept}
use Rattle.sc_value.specs.Picked.{picked, ArePlaces}
use Rattle.sc_columns.specs.Columns.{zip_with}
use Rattle.sc_columns.specs.Flat as columns
use Rattle.sc_expr.specs.Heads.{Outcome, truth_in, items_in, first_of}
use Rattle.sc_expr.specs.declared.exprs.Raise.{Raise}
use Rattle.sc_lineage.specs.Narrow.{given_of}
use Rattle.sc_lineage.specs.Streams.{each_gives, each_until_raise}
use Rattle.sc_lineage.specs.declared.nodes.Elementwise.TheVariants as by
use Rattle.sc_lineage.specs.declared.streams.Stream.{Stream}
use Rattle.sc_ops.specs.Given.{all_given, item_count, numbers_times}
use Rattle.sc_ops.proofs.GivenLemmas.{given_beside, each_gives-beside, length-each_until_raise}

-- what rows give, where the values beside them are those of an expression over their elements
pub each_gives-values : (given : Datum → Datum → List Datum) (f : Datum → Outcome)
    (g : Datum → Datum) (ds elements rows : List Datum) (end : Option Raise) (values : Stream)
    → elements ≡ map g ds → values ≡ each_until_raise f elements end
    → rows ≡ all_given given ds values.rows
    → record { rows = rows; raise = values.raise } ≡ each_gives given (λ d. f (g d)) ds end
each_gives-values given f g ds elements rows end values are is gives =
    ap (λ rs. record { rows = rs; raise = values.raise }) gives
    ∙ sym (each_gives-beside given f g ds end
    ∙ ap (λ es. given_beside given ds (each_until_raise f es end)) (sym are)
    ∙ ap (given_beside given ds) (sym is))

-- there are no more values than rows
pub few_values : (f : Datum → Outcome) (g : Datum → Datum) (ds elements : List Datum)
    (end : Option Raise) (values : Stream)
    → elements ≡ map g ds → values ≡ each_until_raise f elements end
    → length values.rows ≤ length ds
few_values f g ds elements end values are is =
    omega (
      arith,
      ap (λ (s : Stream). length s.rows) is,
      length-each_until_raise f elements end,
      ap length are,
      length-map ds g,
    )

one_kept : (b : Bool) (d : Datum) (xs ys : List Datum) → xs ≡ ys
    → (if b then d ∷ [] else []) ++ xs ≡ (if b then d ∷ ys else ys)
one_kept true d xs ys is = ap (λ zs. d ∷ zs) is
one_kept false d xs ys is = is

pub given-filter : (ds vs : List Datum)
    → kept (map truth_in vs) ds ≡ all_given (given_of by.Filter) ds vs
given-filter [] [] = refl
given-filter [] (v ∷ vs) = refl
given-filter (d ∷ ds) [] = refl
given-filter (d ∷ ds) (v ∷ vs) =
    sym (one_kept (truth_in v) d (all_given (given_of by.Filter) ds vs) (kept (map truth_in vs) ds)
    (sym (given-filter ds vs)))

pub same_items : (d : Datum) → columns.items_in d ≡ items_in d
same_items (number n) = refl
same_items (truth b) = refl
same_items (text t) = refl
same_items (pair a b) = refl
same_items (group ds) = refl

pub given-flat_map : (ds vs : List Datum) → length vs ≤ length ds
    → flat_map columns.items_in vs ≡ all_given (given_of by.FlatMap) ds vs
given-flat_map [] [] few = refl
given-flat_map [] (v ∷ vs) few = absurd (omega arith)
given-flat_map (d ∷ ds) [] few = refl
given-flat_map (d ∷ ds) (v ∷ vs) few =
    ap (λ xs. xs ++ flat_map columns.items_in vs) (same_items v)
    ∙ ap (λ xs. items_in v ++ xs) (given-flat_map ds vs (omega arith))

pub given-map_values : (ds vs : List Datum)
    → zip_with pair (map first_of ds) vs ≡ all_given (given_of by.MapValues) ds vs
given-map_values [] vs = refl
given-map_values (d ∷ ds) [] = refl
given-map_values (d ∷ ds) (v ∷ vs) = ap (λ xs. pair (first_of d) v ∷ xs) (given-map_values ds vs)

item_behind : (before behind : List Datum) (d : Datum) (n : ℕ) → length before ≡ n
    → slice_get (before ++ d ∷ behind) n ≡ Some d
item_behind [] behind d zero len = refl
item_behind [] behind d (suc n) len = absurd (omega arith)
item_behind (b ∷ before) behind d zero len = absurd (omega arith)
item_behind (b ∷ before) behind d (suc n) len = item_behind before behind d n (omega arith)

picked-replicate : (ks : List Datum) (k : Datum) (n times : ℕ) → slice_get ks n ≡ Some k
    → picked ks (replicate times n) ≡ replicate times k
picked-replicate ks k n zero at = refl
picked-replicate ks k n (suc times) at =
    ap (λ o. cons_option o (picked ks (replicate times n))) at
    ∙ ap (λ xs. k ∷ xs) (picked-replicate ks k n times at)

one_key : (k : Datum) (items ks vs : List Datum)
    → zip_with pair (replicate (length items) k ++ ks) (items ++ vs)
    ≡ map (pair k) items ++ zip_with pair ks vs
one_key k [] ks vs = refl
one_key k (v ∷ items) ks vs = ap (λ xs. pair k v ∷ xs) (one_key k items ks vs)

keys_behind : (before ds vs : List Datum) (n : ℕ) → length before ≡ n → length vs ≤ length ds
    → zip_with pair (picked (before ++ map first_of ds) (numbers_times n (map item_count vs)))
    (flat_map columns.items_in vs)
    ≡ all_given (given_of by.FlatMapValues) ds vs
keys_behind before [] [] n len few = refl
keys_behind before [] (v ∷ vs) n len few = absurd (omega arith)
keys_behind before (d ∷ ds) [] n len few = refl
keys_behind before (d ∷ ds) (v ∷ vs) n len few =
    let keys = before ++ map first_of (d ∷ ds) in
    let rest = numbers_times (suc n) (map item_count vs) in
    let items = flat_map columns.items_in vs in
    let more : length (before ++ first_of d ∷ []) ≡ suc n =
    length-append before (first_of d ∷ []) ∙ omega arith in
    let here : picked keys (replicate (item_count v) n ++ rest)
    ≡ replicate (item_count v) (first_of d) ++ picked keys rest =
    filter_map-append (slice_get keys) (replicate (item_count v) n) rest
    ∙ ap (λ xs. xs ++ picked keys rest) (picked-replicate keys (first_of d) n (item_count v)
    (item_behind before (map first_of ds) (first_of d) n len)) in
    ap (λ xs. zip_with pair xs (flat_map columns.items_in (v ∷ vs))) here
    ∙ ap (λ xs. zip_with pair (replicate (item_count v) (first_of d) ++ picked keys rest)
    (xs ++ items)) (same_items v)
    ∙ one_key (first_of d) (items_in v) (picked keys rest) items
    ∙ ap (λ ks. map (pair (first_of d)) (items_in v) ++ zip_with pair (picked ks rest) items)
    (sym (append_assoc before (first_of d ∷ []) (map first_of ds)))
    ∙ ap (λ xs. map (pair (first_of d)) (items_in v) ++ xs)
    (keys_behind (before ++ first_of d ∷ []) ds vs (suc n) more (omega arith))

given-flat_map_values : (ds vs : List Datum) → length vs ≤ length ds
    → zip_with pair (picked (map first_of ds) (numbers_times 0 (map item_count vs)))
    (flat_map columns.items_in vs)
    ≡ all_given (given_of by.FlatMapValues) ds vs
given-flat_map_values ds vs few = keys_behind [] ds vs 0 refl few

numbers_within : (bound first : ℕ) (ns : List ℕ) → first + length ns ≤ bound
    → All (λ i. i < bound) (numbers_times first ns)
numbers_within bound first [] within = All-nil (λ i. i < bound)
numbers_within bound first (n ∷ ns) within =
    All-append (λ i. i < bound) (replicate n first) (numbers_times (suc first) ns)
    (All-replicate (λ i. i < bound) n first (omega arith))
    (numbers_within bound (suc first) ns (omega arith))

-- the row numbers of lists are places of the rows beside them
pub places_within : (ds keys vs : List Datum) (places : List ℕ) → keys ≡ map first_of ds
    → length vs ≤ length ds
    → places ≡ numbers_times 0 (map item_count vs) → ArePlaces keys places
places_within ds keys vs places are few is =
    All-same (λ i. i < length keys) places (numbers_times 0 (map item_count vs)) is
    (numbers_within (length keys) 0 (map item_count vs)
    (omega (arith, ap length are, length-map ds first_of, length-map vs item_count)))

-- keys and items, row by row
pub keyed_items : (ds firsts vs keys items rows : List Datum) (places : List ℕ)
    → firsts ≡ map first_of ds → length vs ≤ length ds
    → places ≡ numbers_times 0 (map item_count vs) → keys ≡ picked firsts places
    → items ≡ flat_map columns.items_in vs
    → rows ≡ zip_with pair keys items → rows ≡ all_given (given_of by.FlatMapValues) ds vs
keyed_items ds firsts vs keys items rows places are few is keys_are items_are rows_are =
    rows_are
    ∙ ap (λ ks. zip_with pair ks items) (keys_are ∙ ap (λ fs. picked fs places) are
    ∙ ap (picked (map first_of ds)) is)
    ∙ ap (zip_with pair (picked (map first_of ds) (numbers_times 0 (map item_count vs)))) items_are
    ∙ given-flat_map_values ds vs few
