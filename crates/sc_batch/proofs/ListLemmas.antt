-- Streams of heads over lists that are ranges of items.
use Rattle.std.proofs.Common.{◌≡◌, ◌∙◌, ℕ, zero, suc, ◌+◌, ◌-◌, ◌<◌, ◌≤◌, ℤ, pos, Bool, true, false, cond, ltb, List, [], ◌∷◌, ◌++◌, Option, Some, None, Ok, Err, length, map, take, drop, get_or, refl, ap, arith}
use Rattle.std.proofs.Math.IntN.{negsuc}
use Rattle.std.specs.List.{cons_option, slice_get, slice_range}
use Rattle.std.specs.Option.{IfSome}
use Rattle.std.proofs.lemmas.Bool.{ltb-false, ltb-true}
use Rattle.std.proofs.lemmas.List.{drop-map, get_or-drop, get_or-take, length-drop, length-take, take-map}
use Rattle.std.proofs.lemmas.List.Elements.{All-get_or, All-push, filter_map-append}
use Rattle.std.proofs.lemmas.Option.{slice_get-get_or, slice_get_within, get_or_from_slice_get}
use Rattle.sc_value.specs.Datum.{Datum, number, truth}
use Rattle.sc_value.specs.Picked.{ArePlaces, picked}
use Rattle.sc_value.specs.declared.texts.Span.{Span}
use Rattle.sc_value.proofs.SameLemmas.{list_of-items_of}
use Rattle.sc_columns.specs.Columns.{group_at, zip_with}
use Rattle.sc_columns.specs.Parts.{AreLists, IsRange}
use Rattle.sc_columns.specs.declared.views.Lists.{Lists}
use Rattle.sc_columns.proofs.ListLemmas.{slice_get-zip_with}
use Rattle.sc_expr.specs.Heads.{Outcome, item_at, nth_value, sum_onto}
use Rattle.sc_expr.specs.declared.exprs.Head.TheVariants as heads
use Rattle.sc_expr.specs.declared.exprs.Raise.{Raise}
use Rattle.sc_expr.specs.declared.exprs.Raise.TheVariants.{OutOfRange}
use Rattle.sc_batch.specs.Lists.{place_in, span_len, span_sum}
use Rattle.sc_batch.specs.Outcomes.{AddsOutcome, of_one, of_two, until_raise}
use Rattle.sc_batch.proofs.ValueLemmas.{adds_raise, adds_value, each-value, each-value-all, of_typed_one}
use Rattle.sc_batch.proofs.ZipLemmas.{at-map}

-- how many items a range has
len : (items : List Datum) (s : Span) → IsRange (length items) s
    → of_one heads.Len (group_at items s) ≡ Ok (number (span_len s))
len items s range =
    let n = s.to - s.from in
    ap (λ ds. Ok (number (pos (length ds)))) (list_of-items_of (slice_range items s.from s.to))
    ∙ ap (λ m. Ok (number (pos m))) (let e : length (take n (drop s.from items)) ≡ n =
    omega (
      arith,
      length-take n (drop s.from items),
      length-drop s.from items,
      range.ordered,
      range.within,
    ) in e)

pub each-len : (rows : List Datum) (lists : Lists) (end : Option Raise) → AreLists rows lists
    → record { rows = map number (map span_len lists.spans); raise = end }
    ≡ until_raise (map (of_one heads.Len) rows) end
each-len rows lists end are =
    each-value-all (IsRange (length lists.items)) (λ s. of_one heads.Len (group_at lists.items s))
    number span_len (len lists.items) lists.spans end are.ranges
    ∙ of_typed_one (of_one heads.Len) (group_at lists.items) lists.spans rows end are.are

-- the sum of a range of numbers
sum : (ns : List ℤ) (s : Span) → of_one heads.Sum (group_at (map number ns) s)
    ≡ Ok (number (span_sum ns s))
sum ns s =
    let n = s.to - s.from in
    ap (λ ds. Ok (number (sum_onto (pos 0) ds)))
    (list_of-items_of (slice_range (map number ns) s.from s.to)
    ∙ ap (take n) (drop-map number s.from ns) ∙ take-map number n (drop s.from ns))

pub each-sum : (ns : List ℤ) (rows : List Datum) (lists : Lists) (end : Option Raise)
    → AreLists rows lists → lists.items ≡ map number ns
    → record { rows = map number (map (span_sum ns) lists.spans); raise = end }
    ≡ until_raise (map (of_one heads.Sum) rows) end
each-sum ns rows lists end are items =
    each-value (λ s. of_one heads.Sum (group_at (map number ns) s)) number (span_sum ns) (sum ns)
    lists.spans end
    ∙ of_typed_one (of_one heads.Sum) (group_at (map number ns)) lists.spans rows end
    (are.are ∙ ap (λ ds. map (group_at ds) lists.spans) items)

-- the item at a place
item-found : (ds : List Datum) (k : ℕ) → k < length ds → item_at ds k
    ≡ Ok (get_or ds k (truth false))
item-found [] k within = absurd (omega arith)
item-found (d ∷ ds) zero within = refl
item-found (d ∷ ds) (suc k) within = item-found ds k (omega arith)

item-missing : (ds : List Datum) (k : ℕ) → length ds ≤ k → item_at ds k ≡ Err OutOfRange
item-missing [] k past = refl
item-missing (d ∷ ds) zero past = absurd (omega arith)
item-missing (d ∷ ds) (suc k) past = item-missing ds k (omega arith)

module _ (items : List Datum) (s : Span) (range : IsRange (length items) s) where
  abbrev part : List Datum
  part = slice_range items s.from s.to

  part_len : length part ≡ s.to - s.from
  part_len =
      omega (
        arith,
        length-take (s.to - s.from) (drop s.from items),
        length-drop s.from items,
        range.ordered,
        range.within,
      )

  -- the place of an item that is there
  abbrev IsThere : ℤ → ℕ → Type 0
  IsThere z p = (p < length items) × (nth_value part z ≡ Ok (get_or items p (truth false)))

  inside : (k : ℕ) → k < s.to - s.from → IsThere (pos k) (s.from + k)
  inside k below = (
    omega (arith, range.ordered, range.within),
    item-found part k (omega (arith, part_len))
        ∙ ap Ok (get_or-take (s.to - s.from) (drop s.from items) k (truth false) below
        ∙ get_or-drop s.from items k (truth false)),
  )

  there : (z : ℤ) (p : ℕ) → place_in s z ≡ Some p → IsThere z p
  there (pos k) p is = by_test (ltb k (s.to - s.from)) refl is
    where
      by_test : (b : Bool) → ltb k (s.to - s.from) ≡ b
          → cond b (Some (s.from + k)) None ≡ Some p → IsThere (pos k) p
      by_test true below is =
          let same : s.from + k ≡ p = cc in
          rw (← same) (inside k (ltb-true k (s.to - s.from) below))
      by_test false above is = absurd (cc)
  there (negsuc k) p is = absurd (cc)

  missing : (z : ℤ) → place_in s z ≡ None → nth_value part z ≡ Err OutOfRange
  missing (pos k) is = by_test (ltb k (s.to - s.from)) refl is
    where
      by_test : (b : Bool) → ltb k (s.to - s.from) ≡ b → cond b (Some (s.from + k)) None ≡ None
          → item_at part k ≡ Err OutOfRange
      by_test true below is = absurd (cc)
      by_test false above is =
          item-missing part k (omega (arith, part_len, ltb-false k (s.to - s.from) above))
  missing (negsuc k) is = refl

-- the outcome at a row, of a list and a number
abbrev pub nths : List Datum → List ℤ → List Outcome
nths rows ks = zip_with (of_two heads.Nth) rows (map number ks)

module _ (rows : List Datum) (lists : Lists) (are : AreLists rows lists) (ks : List ℤ)
    (i : ℕ) (s : Span) (z : ℤ) (span : slice_get lists.spans i ≡ Some s)
    (at : slice_get ks i ≡ Some z) where
  range : IsRange (length lists.items) s
  range =
      let here : get_or lists.spans i s ≡ s = get_or_from_slice_get lists.spans i s s span in
      rw here at (All-get_or (IsRange (length lists.items)) lists.spans i s
      (slice_get_within lists.spans i s span) are.ranges)

  here : slice_get (nths rows ks) i ≡ Some (nth_value (slice_range lists.items s.from s.to) z)
  here =
      slice_get-zip_with (of_two heads.Nth) rows (map number ks) i (group_at lists.items s)
      (number z)
      (ap (λ ds. slice_get ds i) are.are ∙ at-map (group_at lists.items) lists.spans i s span)
      (at-map number ks i z at)
      ∙ ap (λ ds. Some (nth_value ds z)) (list_of-items_of (slice_range lists.items s.from s.to))

  -- an item more
  pub nth-found : (p : ℕ) (places after : List ℕ) → place_in s z ≡ Some p → after ≡ places ++ p ∷ []
      → IfSome (slice_get (nths rows ks) i)
      (AddsOutcome (picked lists.items places) (picked lists.items after) None)
  nth-found p places after is more =
      let found = there lists.items s range z p is in
      let d = get_or lists.items p (truth false) in
      adds_value (nths rows ks) i _ d (picked lists.items places) (picked lists.items after) here
      found.1
      (ap (picked lists.items) more
      ∙ filter_map-append (slice_get lists.items) places (p ∷ [])
      ∙ ap (λ o. picked lists.items places ++ cons_option o [])
      (slice_get-get_or lists.items p (truth false) found.0))

  pub nth-place : (p : ℕ) (places after : List ℕ) → place_in s z ≡ Some p → after ≡ places ++ p ∷ []
      → ArePlaces lists.items places → ArePlaces lists.items after
  nth-place p places after is more all =
      rw more (All-push (λ q. q < length lists.items) places p all
      (there lists.items s range z p is).0)

  -- a place that is none
  pub nth-missing : (out : List Datum) → place_in s z ≡ None
      → IfSome (slice_get (nths rows ks) i) (AddsOutcome out out (Some OutOfRange))
  nth-missing out is = adds_raise (nths rows ks) i _ OutOfRange out here
      (missing lists.items s range z is)
