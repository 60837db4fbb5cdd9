-- What is due at executors, as it lies in tables.
use Rattle.std.proofs.Common.{◌≡◌, ◌∙◌, ℕ, zero, suc, ◌<◌, ◌≤◌, ◌^◌, ◌+◌, ◌-◌, Bool, true, false, ◌&&◌, cond, List, [], ◌∷◌, length, map, filter, Some, None, get_or, refl, ap, sym, subst, arith, if◌then◌else◌}
use Rattle.std.proofs.lemmas.Bool.Decides.{nat_tests}
use Rattle.std.proofs.lemmas.List.{length-map}
use Rattle.std.specs.List.{AllByRecursion, cons_option}
use Rattle.std.specs.Prelude.{filter_map, min, nat_le, nat_lt, option_map, slice_get, ◌==◌}
use Rattle.sc_part.proofs.PlaceLemmas.{sorted-map}
use Rattle.sc_part.specs.Sorts.{sorted}
use Rattle.sc_plan.proofs.FilterLemmas.{filter-sorted, length-sorted}
use Rattle.sc_plan.proofs.TableLemmas.{lower}
use Rattle.sc_plan.specs.Limits.{number_limit}
use Rattle.sc_plan.specs.Lookups.{due_key, entry, entry_in, is_between, is_lower, kind_code, kind_coded, table_of}
use Rattle.sc_plan.specs.Orders.{Due, due_count, due_there, evicts_of, in_order, is_sooner, nth_order, order_of, wipes_of}
use Rattle.sc_plan.specs.PlanLines.{HasSmallNumbers}
use Rattle.sc_plan.specs.declared.lines.PlanLine.{PlanLine}
use Rattle.sc_plan.specs.declared.lines.PlanLine.TheVariants as lines
use Rattle.sc_plan.specs.declared.lookups.Entry.{Entry}
use Rattle.sc_plan.specs.declared.lookups.Sought.{Sought}
use Rattle.sc_plan.specs.declared.lookups.Sought.TheVariants as sought
use Rattle.sc_plan.specs.declared.orders.OrderKind.{OrderKind}
use Rattle.sc_plan.specs.declared.orders.OrderKind.TheVariants as kinds

coded : (kind : OrderKind) → kind_coded (kind_code kind) ≡ kind
coded kinds.Drop = refl
coded kinds.Lose = refl
coded kinds.Evict = refl

abbrev entries : Sought → List PlanLine → List Entry
entries what ls = filter_map (entry_in what) ls

module _ (exec : ℕ) where
  -- the entry of what is due at the executor
  abbrev pub due_entry : Due → Entry
  due_entry due = entry (due_key exec due.0) (kind_code due.1)

  -- Up to a key, which is at most the first of the next executor, stand those that pass a test.
  module _ (to : ℕ) (test : Due → Bool) (next : to ≤ due_key (exec + 1) 0)
      (tells : (a : ℕ) (kind : OrderKind) → a ≤ number_limit
      → nat_lt (due_key exec a) to ≡ test (a, kind)) where
    abbrev Kept : Entry → Bool
    Kept = is_between (due_key exec 0) to

    here_by : (b c : Bool) (due : Due) (es : List Entry) (ds : List Due) → b ≡ c
        → filter Kept es ≡ map due_entry (filter test ds)
        → cond b (due_entry due ∷ filter Kept es) (filter Kept es)
        ≡ map due_entry (cond c (due ∷ filter test ds) (filter test ds))
    here_by true true due es ds same rest = ap (λ (xs : List Entry). due_entry due ∷ xs) rest
    here_by true false due es ds same rest = absurd cc
    here_by false true due es ds same rest = absurd cc
    here_by false false due es ds same rest = rest

    within : (a : ℕ) → nat_le (due_key exec 0) (due_key exec a) ≡ true
    within a = grind (arith, nat_tests)

    kept_here : (a : ℕ) (kind : OrderKind) → a ≤ number_limit
        → Kept (due_entry (a, kind)) ≡ test (a, kind)
    kept_here a kind small =
        ap (λ b. b && nat_lt (due_key exec a) to) (within a) ∙ tells a kind small

    not_kept : (e a value : ℕ) → a ≤ number_limit → (e == exec) ≡ false
        → Kept (entry (due_key e a) value) ≡ false
    not_kept e a value small other = grind (arith, nat_tests, next, small)

    step_by : (b : Bool) (e a : ℕ) (kind : OrderKind) (es : List Entry) (ds : List Due)
        → (e == exec) ≡ b → a ≤ number_limit
        → filter Kept es ≡ map due_entry (filter test ds)
        → filter Kept (entry (due_key e a) (kind_code kind) ∷ es)
        ≡ map due_entry (filter test (cons_option (if b then Some (a, kind) else None) ds))
    step_by true e a kind es ds is small rest =
        let same : e ≡ exec = grind (arith, nat_tests) in
        ap (λ n. filter Kept (entry (due_key n a) (kind_code kind) ∷ es)) same
        ∙ here_by (Kept (due_entry (a, kind))) (test (a, kind)) (a, kind) es ds
        (kept_here a kind small) rest
    step_by false e a kind es ds is small rest =
        ap (λ b. cond b (entry (due_key e a) (kind_code kind) ∷ filter Kept es) (filter Kept es))
        (not_kept e a (kind_code kind) small is)
        ∙ rest

    step : (e a : ℕ) (kind : OrderKind) (es : List Entry) (ds : List Due) → a ≤ number_limit
        → filter Kept es ≡ map due_entry (filter test ds)
        → filter Kept (entry (due_key e a) (kind_code kind) ∷ es)
        ≡ map due_entry (filter test (cons_option (due_there exec e (a, kind)) ds))
    step e a kind es ds small rest = step_by (e == exec) e a kind es ds refl small rest

    pub wipes_kept : (ls : List PlanLine) → AllByRecursion HasSmallNumbers ls
        → filter Kept (entries sought.Wipe ls) ≡ map due_entry (filter test (wipes_of ls exec))
    wipes_kept [] small = refl
    wipes_kept (lines.Fail q ∷ ls) small = wipes_kept ls small.1
    wipes_kept (lines.Late q c ∷ ls) small = wipes_kept ls small.1
    wipes_kept (lines.Twice q ∷ ls) small = wipes_kept ls small.1
    wipes_kept (lines.Drop e a ∷ ls) small =
        step e a kinds.Drop (entries sought.Wipe ls) (wipes_of ls exec) small.0.1
        (wipes_kept ls small.1)
    wipes_kept (lines.Lose e a t ∷ ls) small =
        step e a kinds.Lose (entries sought.Wipe ls) (wipes_of ls exec) small.0.1
        (wipes_kept ls small.1)
    wipes_kept (lines.Evict e a ∷ ls) small = wipes_kept ls small.1

    pub evicts_kept : (ls : List PlanLine) → AllByRecursion HasSmallNumbers ls
        → filter Kept (entries sought.Evict ls) ≡ map due_entry (filter test (evicts_of ls exec))
    evicts_kept [] small = refl
    evicts_kept (lines.Fail q ∷ ls) small = evicts_kept ls small.1
    evicts_kept (lines.Late q c ∷ ls) small = evicts_kept ls small.1
    evicts_kept (lines.Twice q ∷ ls) small = evicts_kept ls small.1
    evicts_kept (lines.Drop e a ∷ ls) small = evicts_kept ls small.1
    evicts_kept (lines.Lose e a t ∷ ls) small = evicts_kept ls small.1
    evicts_kept (lines.Evict e a ∷ ls) small =
        step e a kinds.Evict (entries sought.Evict ls) (evicts_of ls exec) small.0.1
        (evicts_kept ls small.1)

  -- all of them
  all_tell : (a : ℕ) (kind : OrderKind) → a ≤ number_limit
      → nat_lt (due_key exec a) (due_key (exec + 1) 0) ≡ true
  all_tell a kind small = grind (arith, nat_tests, small)

  filter-all : (ds : List Due) → filter (λ d. true) ds ≡ ds
  filter-all [] = refl
  filter-all (d ∷ ds) = ap (λ (xs : List Due). d ∷ xs) (filter-all ds)

  sooner_lower : (a b : Due) → is_lower (due_entry a) (due_entry b) ≡ is_sooner a b
  sooner_lower a b = grind (arith, nat_tests)

  -- what lies in a table of all is what is due, in order
  all_in_table : (es : List Entry) (xs : List Entry) (ds : List Due) → es ≡ sorted is_lower xs
      → filter (is_between (due_key exec 0) (due_key (exec + 1) 0)) xs
      ≡ map due_entry (filter (λ d. true) ds)
      → filter (is_between (due_key exec 0) (due_key (exec + 1) 0)) es
      ≡ map due_entry (in_order ds)
  all_in_table es xs ds is kept =
      let p = is_between (due_key exec 0) (due_key (exec + 1) 0) in
      ap (filter p) is ∙ filter-sorted is_lower lower p xs
      ∙ ap (sorted is_lower) (kept ∙ ap (map due_entry) (filter-all ds))
      ∙ sorted-map due_entry is_sooner is_lower sooner_lower ds

  pub all_wipes : (ls : List PlanLine) (es : List Entry) → AllByRecursion HasSmallNumbers ls
      → es ≡ table_of sought.Wipe ls
      → filter (is_between (due_key exec 0) (due_key (exec + 1) 0)) es
      ≡ map due_entry (in_order (wipes_of ls exec))
  all_wipes ls es small is =
      all_in_table es (entries sought.Wipe ls) (wipes_of ls exec) is
      (wipes_kept (due_key (exec + 1) 0) (λ d. true) (omega arith) all_tell ls small)

  pub all_evicts : (ls : List PlanLine) (es : List Entry) → AllByRecursion HasSmallNumbers ls
      → es ≡ table_of sought.Evict ls
      → filter (is_between (due_key exec 0) (due_key (exec + 1) 0)) es
      ≡ map due_entry (in_order (evicts_of ls exec))
  all_evicts ls es small is =
      all_in_table es (entries sought.Evict ls) (evicts_of ls exec) is
      (evicts_kept (due_key (exec + 1) 0) (λ d. true) (omega arith) all_tell ls small)

  pub count_is : (es : List Entry) (ds : List Due) → es ≡ map due_entry (in_order ds)
      → length es ≡ length ds
  count_is es ds is =
      ap (λ (xs : List Entry). length xs) is ∙ length-map (in_order ds) due_entry
      ∙ length-sorted is_sooner ds

  -- those that are due
  abbrev pub last_of : ℕ → ℕ
  last_of told = due_key exec (min told (2 ^ 32 - 1)) + 1

  last_next : (told : ℕ) → last_of told ≤ due_key (exec + 1) 0
  last_next told = omega arith

  last_tells : (told a : ℕ) (kind : OrderKind) → a ≤ number_limit
      → nat_lt (due_key exec a) (last_of told) ≡ nat_le a told
  last_tells told a kind small = grind (arith, nat_tests, small)

  due_in_table : (told : ℕ) (es xs : List Entry) (ds : List Due) → es ≡ sorted is_lower xs
      → filter (is_between (due_key exec 0) (last_of told)) xs
      ≡ map due_entry (filter (λ d. nat_le d.0 told) ds)
      → length (filter (is_between (due_key exec 0) (last_of told)) es) ≡ due_count ds told
  due_in_table told es xs ds is kept =
      let p = is_between (due_key exec 0) (last_of told) in
      ap (λ (ys : List Entry). length (filter p ys)) is
      ∙ ap (λ (ys : List Entry). length ys) (filter-sorted is_lower lower p xs)
      ∙ length-sorted is_lower (filter p xs)
      ∙ ap (λ (ys : List Entry). length ys) kept
      ∙ length-map (filter (λ d. nat_le d.0 told) ds) due_entry

  pub due_wipes_in : (told : ℕ) (ls : List PlanLine) (es : List Entry)
      → AllByRecursion HasSmallNumbers ls → es ≡ table_of sought.Wipe ls
      → length (filter (is_between (due_key exec 0) (last_of told)) es)
      ≡ due_count (wipes_of ls exec) told
  due_wipes_in told ls es small is =
      due_in_table told es (entries sought.Wipe ls) (wipes_of ls exec) is
      (wipes_kept (last_of told) (λ d. nat_le d.0 told) (last_next told) (last_tells told) ls small)

  pub due_evicts_in : (told : ℕ) (ls : List PlanLine) (es : List Entry)
      → AllByRecursion HasSmallNumbers ls → es ≡ table_of sought.Evict ls
      → length (filter (is_between (due_key exec 0) (last_of told)) es)
      ≡ due_count (evicts_of ls exec) told
  due_evicts_in told ls es small is =
      due_in_table told es (entries sought.Evict ls) (evicts_of ls exec) is
      (evicts_kept (last_of told) (λ d. nat_le d.0 told) (last_next told) (last_tells told) ls
      small)

  -- the order of a number
  order_at : (number : ℕ) (ds : List Due) (i : ℕ) (x : Entry)
      → slice_get (map due_entry ds) i ≡ Some x
      → option_map (order_of exec number) (slice_get ds i)
      ≡ Some (record { exec = exec; number = number; kind = kind_coded x.value })
  order_at number [] i x is = absurd cc
  order_at number (d ∷ ds) zero x is =
      let same : due_entry d ≡ x = cc in
      let kind : kind_coded x.value ≡ d.1 =
      ap (λ (e : Entry). kind_coded e.value) (sym same) ∙ coded d.1 in
      ap (λ k. Some (record { exec = exec; number = number; kind = k })) (sym kind)
  order_at number (d ∷ ds) (suc i) x is = order_at number ds i x is

  pub order_is : (number : ℕ) (es : List Entry) (ds : List Due) (x : Entry) → 1 ≤ number
      → es ≡ map due_entry (in_order ds) → slice_get es (number - 1) ≡ Some x
      → nth_order exec number ds
      ≡ Some (record { exec = exec; number = number; kind = kind_coded x.value })
  order_is zero es ds x from_one is at = absurd (omega (arith, from_one))
  order_is (suc i) es ds x from_one is at =
      let place : suc i - 1 ≡ i = omega arith in
      order_at (suc i) (in_order ds) i x
      (sym (ap (λ (ys : List Entry). slice_get ys i) is)
      ∙ subst (λ n. slice_get es n ≡ Some x) place at)

-- what is read at a place
pub read_at : (es : List Entry) (i : ℕ) (d : Entry) → i < length es
    → slice_get es i ≡ Some (get_or es i d)
read_at [] i d within = absurd (omega arith)
read_at (e ∷ es) zero d within = refl
read_at (e ∷ es) (suc i) d within = read_at es i d (omega arith)
