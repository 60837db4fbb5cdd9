-- The chosen of two branches at each row.
use Rattle.std.proofs.Common.{◌≡◌, ◌∙◌, ℕ, ◌+◌, ◌<◌, ◌≤◌, Bool, true, false, not, List, [], ◌∷◌, ◌++◌, Option, Some, None, Ok, Err, length, map, take, drop, get_or, refl, ap, sym}
use Rattle.std.specs.Prelude.{if◌then◌else◌}
use Rattle.std.specs.List.{slice_get, slice_range}
use Rattle.std.proofs.lemmas.List.{append-nil, append_assoc, drop_all, drop_more}
use Rattle.std.proofs.lemmas.Option.{slice_get_within, get_or_from_slice_get}
use Rattle.sc_value.specs.Datum.{Datum, truth}
use Rattle.sc_value.specs.Kept.{kept}
use Rattle.sc_expr.specs.Heads.{Outcome, truth_in}
use Rattle.sc_expr.specs.Meaning.{chosen}
use Rattle.sc_expr.specs.declared.exprs.Raise.{Raise}
use Rattle.sc_lineage.specs.Streams.{each_until_raise, with_outcome, with_rows}
use Rattle.sc_lineage.specs.declared.streams.Stream.{Stream}
use Rattle.sc_batch.specs.Choices.{as_rows, merged, stream_from, with_item}
use Rattle.sc_batch.proofs.ZipLemmas.{range_from_zero}

-- the chosen of two branches, each of them over its own rows
abbrev chosen_parts : (Datum → Outcome) → (Datum → Outcome) → List Datum → Stream → Stream
chosen_parts e f ds test =
    stream_from (merged (map truth_in test.rows)
    (each_until_raise e (kept (map truth_in test.rows) (take (length test.rows) ds)) None).rows
    (each_until_raise e (kept (map truth_in test.rows) (take (length test.rows) ds)) None).raise
    (each_until_raise f (kept (map not (map truth_in test.rows)) (take (length test.rows) ds))
    None).rows
    (each_until_raise f (kept (map not (map truth_in test.rows)) (take (length test.rows) ds))
    None).raise
    test.raise)

module _ (marks : List Bool) (ays nos rest : Stream) (end : Option Raise)
    (is : stream_from (merged marks ays.rows ays.raise nos.rows nos.raise end) ≡ rest) where
  first_row : (o : Outcome)
      → stream_from (merged (true ∷ marks) (with_outcome (λ v. v ∷ []) o ays).rows
      (with_outcome (λ v. v ∷ []) o ays).raise nos.rows nos.raise end)
      ≡ with_outcome (λ v. v ∷ []) o rest
  first_row (Ok y) = ap (with_rows (y ∷ [])) is
  first_row (Err r) = refl

  second_row : (o : Outcome)
      → stream_from (merged (false ∷ marks) ays.rows ays.raise
      (with_outcome (λ v. v ∷ []) o nos).rows
      (with_outcome (λ v. v ∷ []) o nos).raise end)
      ≡ with_outcome (λ v. v ∷ []) o rest
  second_row (Ok n) = ap (with_rows (n ∷ [])) is
  second_row (Err r) = refl

-- where the test gave this truth value
chosen_by : (b : Bool) (e f : Datum → Outcome) (d : Datum) (ays nos : List Datum)
    (marks : List Bool) (rest : Stream) (end : Option Raise)
    → stream_from (merged marks (each_until_raise e ays None).rows
    (each_until_raise e ays None).raise
    (each_until_raise f nos None).rows (each_until_raise f nos None).raise end) ≡ rest
    → stream_from (merged (b ∷ marks)
    (each_until_raise e (if b then d ∷ ays else ays) None).rows
    (each_until_raise e (if b then d ∷ ays else ays) None).raise
    (each_until_raise f (if not b then d ∷ nos else nos) None).rows
    (each_until_raise f (if not b then d ∷ nos else nos) None).raise end)
    ≡ with_outcome (λ v. v ∷ []) (if b then e d else f d) rest
chosen_by true e f d ays nos marks rest end is =
    first_row marks (each_until_raise e ays None) (each_until_raise f nos None) rest end is (e d)
chosen_by false e f d ays nos marks rest end is =
    second_row marks (each_until_raise e ays None) (each_until_raise f nos None) rest end is (f d)

chosen_row : (e f : Datum → Outcome) (d : Datum) (ds : List Datum) (rest test : Stream)
    (o : Outcome)
    → chosen_parts e f ds test ≡ rest
    → chosen_parts e f (d ∷ ds) (with_outcome (λ v. v ∷ []) o test)
    ≡ with_outcome (λ v. v ∷ []) (chosen o (e d) (f d)) rest
chosen_row e f d ds rest test (Err r) is = refl
chosen_row e f d ds rest test (Ok t) is =
    chosen_by (truth_in t) e f d (kept (map truth_in test.rows) (take (length test.rows) ds))
    (kept (map not (map truth_in test.rows)) (take (length test.rows) ds)) (map truth_in test.rows)
    rest test.raise is

each_chosen : (c e f : Datum → Outcome) (ds : List Datum) (end : Option Raise)
    → chosen_parts e f ds (each_until_raise c ds end)
    ≡ each_until_raise (λ d. chosen (c d) (e d) (f d)) ds end
each_chosen c e f [] end = refl
each_chosen c e f (d ∷ ds) end =
    chosen_row e f d ds _ (each_until_raise c ds end) (c d) (each_chosen c e f ds end)

-- the chosen of two branches, put together by the marks of a test
pub each-chosen : (c e f : Datum → Outcome) (ds rest some others : List Datum)
    (marks unmarked : List Bool) (end : Option Raise) (test ays nos given : Stream)
    → test ≡ each_until_raise c ds end → rest ≡ slice_range ds 0 (length test.rows)
    → marks ≡ map truth_in test.rows → unmarked ≡ map not marks
    → some ≡ kept marks rest → others ≡ kept unmarked rest
    → ays ≡ each_until_raise e some None → nos ≡ each_until_raise f others None
    → given ≡ stream_from (merged marks ays.rows ays.raise nos.rows nos.raise test.raise)
    → given ≡ each_until_raise (λ d. chosen (c d) (e d) (f d)) ds end
each-chosen c e f ds rest some others marks unmarked end test ays nos given
    test_is rest_is marks_are unmarked_are some_are others_are ays_are nos_are is =
    let m = map truth_in test.rows in
    let left = take (length test.rows) ds in
    let r : rest ≡ left = rest_is ∙ range_from_zero ds (length test.rows) in
    let y : ays ≡ each_until_raise e (kept m left) None =
    ays_are ∙ ap (λ l. each_until_raise e l None)
    (some_are ∙ ap (λ bs. kept bs rest) marks_are ∙ ap (kept m) r) in
    let n : nos ≡ each_until_raise f (kept (map not m) left) None =
    nos_are ∙ ap (λ l. each_until_raise f l None)
    (others_are ∙ ap (λ bs. kept bs rest) (unmarked_are ∙ ap (map not) marks_are)
    ∙ ap (kept (map not m)) r) in
    is ∙ ap (λ bs. stream_from (merged bs ays.rows ays.raise nos.rows nos.raise test.raise))
    marks_are
    ∙ ap (λ (s : Stream). stream_from (merged m s.rows s.raise nos.rows nos.raise test.raise)) y
    ∙ ap (λ (s : Stream). stream_from (merged m (each_until_raise e (kept m left) None).rows
    (each_until_raise e (kept m left) None).raise s.rows s.raise test.raise)) n
    ∙ ap (chosen_parts e f ds) test_is
    ∙ each_chosen c e f ds end

-- truth values are their own marks
pub map-truth_in : (bs : List Bool) → bs ≡ map truth_in (map truth bs)
map-truth_in [] = refl
map-truth_in (b ∷ bs) = ap (λ cs. b ∷ cs) (map-truth_in bs)

item_at : {X : Type 0} (xs : List X) (i : ℕ) (x : X) → slice_get xs i ≡ Some x
    → drop i xs ≡ x ∷ drop (i + 1) xs
item_at xs i x is =
    drop_more xs i x (slice_get_within xs i x is)
    ∙ ap (λ y. y ∷ drop (i + 1) xs) (get_or_from_slice_get xs i x x is)

mark_at : (marks : List Bool) (i : ℕ) (b : Bool) → i < length marks → get_or marks i false ≡ b
    → drop i marks ≡ b ∷ drop (i + 1) marks
mark_at marks i b within is =
    drop_more marks i false within ∙ ap (λ m. m ∷ drop (i + 1) marks) is

-- items behind others, in front of what ended them
abbrev pub behind : {X : Type 0} → List X → List X × Option Raise → List X × Option Raise
behind out m = (out ++ m.0, m.1)

-- the merge is `out` and what is merged from these places on
abbrev pub IsMergedTo : {X : Type 0} → List Bool → List X → Option Raise → List X → Option Raise
    → Option Raise → List X → ℕ → ℕ → ℕ → Type 0
IsMergedTo marks ays yend nos nend end out i j k =
    merged marks ays yend nos nend end
    ≡ behind out (merged (drop i marks) (drop j ays) yend (drop k nos) nend end)

module _ {X : Type 0} (marks : List Bool) (ays : List X) (yend : Option Raise) (nos : List X)
    (nend end : Option Raise) (out : List X) (i j k : ℕ)
    (so_far : IsMergedTo marks ays yend nos nend end out i j k) where
  one_more : (x : X) (after : List X) (rest : List X × Option Raise) → after ≡ out ++ x ∷ []
      → merged (drop i marks) (drop j ays) yend (drop k nos) nend end ≡ with_item x rest
      → merged marks ays yend nos nend end ≡ behind after rest
  one_more x after rest more next =
      so_far ∙ ap (behind out) next
      ∙ ap (λ ys. (ys, rest.1)) (sym (append_assoc out (x ∷ []) rest.0))
      ∙ ap (λ ys. behind ys rest) (sym more)

  -- an item of the first list
  pub merged-first : (x : X) (after : List X) → i < length marks
      → get_or marks i false ≡ true → slice_get ays j ≡ Some x → after ≡ out ++ x ∷ []
      → IsMergedTo marks ays yend nos nend end after (i + 1) (j + 1) k
  merged-first x after within mark at more =
      one_more x after _ more
      (ap (λ m. merged m (drop j ays) yend (drop k nos) nend end) (mark_at marks i true within mark)
      ∙ ap (λ ys. merged (true ∷ drop (i + 1) marks) ys yend (drop k nos) nend end)
      (item_at ays j x at))

  -- an item of the second list
  pub merged-second : (x : X) (after : List X) → i < length marks
      → get_or marks i false ≡ false → slice_get nos k ≡ Some x → after ≡ out ++ x ∷ []
      → IsMergedTo marks ays yend nos nend end after (i + 1) j (k + 1)
  merged-second x after within mark at more =
      one_more x after _ more
      (ap (λ m. merged m (drop j ays) yend (drop k nos) nend end)
      (mark_at marks i false within mark)
      ∙ ap (λ ys. merged (false ∷ drop (i + 1) marks) (drop j ays) yend ys nend end)
      (item_at nos k x at))

  -- all marks
  pub merged-all : length marks ≤ i → (out, end) ≡ merged marks ays yend nos nend end
  merged-all past =
      sym (so_far
      ∙ ap (λ m. behind out (merged m (drop j ays) yend (drop k nos) nend end))
      (drop_all i marks past)
      ∙ ap (λ ys. (ys, end)) (append-nil out))

  -- the first list has no more
  pub merged-first-ended : i < length marks → get_or marks i false ≡ true → length ays ≤ j
      → (out, yend) ≡ merged marks ays yend nos nend end
  merged-first-ended within mark past =
      sym (so_far
      ∙ ap (λ m. behind out (merged m (drop j ays) yend (drop k nos) nend end))
      (mark_at marks i true within mark)
      ∙ ap (λ ys. behind out (merged (true ∷ drop (i + 1) marks) ys yend (drop k nos) nend end))
      (drop_all j ays past)
      ∙ ap (λ ys. (ys, yend)) (append-nil out))

  -- the second list has no more
  pub merged-second-ended : i < length marks → get_or marks i false ≡ false → length nos ≤ k
      → (out, nend) ≡ merged marks ays yend nos nend end
  merged-second-ended within mark past =
      sym (so_far
      ∙ ap (λ m. behind out (merged m (drop j ays) yend (drop k nos) nend end))
      (mark_at marks i false within mark)
      ∙ ap (λ ys. behind out (merged (false ∷ drop (i + 1) marks) (drop j ays) yend ys nend end))
      (drop_all k nos past)
      ∙ ap (λ ys. (ys, nend)) (append-nil out))

-- items that are merged, as rows that are
pub merged-map : {X : Type 0} (k : X → Datum) (marks : List Bool) (ays nos : List X)
    (yend nend end : Option Raise)
    → as_rows k (merged marks ays yend nos nend end)
    ≡ merged marks (map k ays) yend (map k nos) nend end
merged-map k [] ays nos yend nend end = refl
merged-map k (true ∷ marks) [] nos yend nend end = refl
merged-map k (true ∷ marks) (y ∷ ays) nos yend nend end =
    ap (with_item (k y)) (merged-map k marks ays nos yend nend end)
merged-map k (false ∷ marks) ays [] yend nend end = refl
merged-map k (false ∷ marks) ays (n ∷ nos) yend nend end =
    ap (with_item (k n)) (merged-map k marks ays nos yend nend end)

-- a merge of typed columns, as one of their rows
pub merged_typed : {X : Type 0} (k : X → Datum) (marks : List Bool) (ays nos : List X)
    (first second : List Datum) (yend nend end : Option Raise) → first ≡ map k ays → second
    ≡ map k nos
    → stream_from (as_rows k (merged marks ays yend nos nend end))
    ≡ stream_from (merged marks first yend second nend end)
merged_typed k marks ays nos first second yend nend end are also =
    ap stream_from (merged-map k marks ays nos yend nend end
    ∙ ap (λ ds. merged marks ds yend (map k nos) nend end) (sym are)
    ∙ ap (λ ds. merged marks first yend ds nend end) (sym also))
