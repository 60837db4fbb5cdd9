-- The orders of a fault plan, as they are handed out.
use Rattle.std.proofs.Common.{◌≡◌, ◌⊎◌, inl, inr, ℕ, zero, suc, ◌+◌, ◌-◌, ◌<◌, ◌≤◌, ◌==◌, All, Bool, true, false, if◌then◌else◌, List, [], ◌∷◌, filter_map, length, Option, Some, None, get_or, option_map, slice_get, nat_le, nat_lt, refl, ap, sym, subst, ◌∙◌, arith, rules, true≢false}
use Rattle.std.specs.List.{cons_option}
use Rattle.std.proofs.lemmas.Bool.{cases_eq}
use Rattle.std.proofs.lemmas.Bool.Decides.{nat_tests}
use Rattle.std.proofs.lemmas.List.Elements.{All-cons, All-head, All-nil, All-tail}
use Rattle.std.proofs.lemmas.List.Sums.{count_by-le-length, length-filter}
use Rattle.sc_base.specs.Lists.{at_or}
use Rattle.sc_ids.specs.Changes.{change_at}
use Rattle.sc_part.specs.Sorts.{inserted, sorted}
use Rattle.sc_plan.specs.Orders.{Due, due_count, due_there, evict_in, evicts_of, in_order, is_sooner, nth_order, order_of, wipe_in, wipes_of}
use Rattle.sc_plan.specs.declared.lines.PlanLine.{PlanLine}
use Rattle.sc_plan.specs.declared.lines.PlanLine.TheVariants as lines
use Rattle.sc_plan.specs.declared.orders.Order.{Order}
use Rattle.sc_plan.specs.declared.orders.OrderKind.{OrderKind}
use Rattle.sc_plan.specs.declared.orders.OrderKind.TheVariants as kinds
use Rattle.sc_desk.specs.Orders.{IsDueAmong, IsDueOrder, IsNextOrder, NextOrdersAreDue, counted, due_behind, left_from, next_number, no_orders, or_else, order_at, order_behind, ordered_at}
use Rattle.sc_desk.specs.declared.orders.Ordered.{Ordered}

-- ---- kinds

-- an order wipes a store, or doesn't
abbrev pub is_wipe : OrderKind → Bool
is_wipe kinds.Drop = true
is_wipe kinds.Lose = true
is_wipe kinds.Evict = false

-- what is due is of this sort
abbrev pub OfSort : Bool → Due → Type 0
OfSort wipe due = is_wipe due.1 ≡ wipe

all_kept :
    {A B : Type 0} (P : B → Type 0) (f : A → Option B) → ((x : A) (y : B) → f x ≡ Some y → P y)
    → (xs : List A) → All P (filter_map f xs)
all_kept P f each [] = All-nil P
all_kept {A = A} {B = B} P f each (x ∷ xs) = by (f x) (each x) (all_kept P f each xs)
  where
    by : (o : Option B) → ((y : B) → o ≡ Some y → P y) → All P (filter_map f xs)
        → All P (cons_option o (filter_map f xs))
    by None h all = all
    by (Some y) h all = All-cons P y (filter_map f xs) (h y refl) all

-- what is due there is of this sort, where what is due is
there_of : (wipe : Bool) (exec e : ℕ) (due found : Due) → OfSort wipe due
    → due_there exec e due ≡ Some found → OfSort wipe found
there_of wipe exec e due found of is = by (e == exec) is
  where
    by : (b : Bool) → (if b then Some due else None) ≡ Some found → OfSort wipe found
    by true h = let same : due ≡ found = search (rules, h) in subst (λ d. OfSort wipe d) same of
    by false h = absurd (search (rules, h))

pub wipes_are : (plan : List PlanLine) (exec : ℕ) → All (OfSort true) (wipes_of plan exec)
wipes_are plan exec = all_kept (OfSort true) (wipe_in exec) each plan
  where
    each : (line : PlanLine) (due : Due) → wipe_in exec line ≡ Some due → OfSort true due
    each (lines.Drop e after) due is = there_of true exec e (after, kinds.Drop) due refl is
    each (lines.Lose e after told) due is = there_of true exec e (after, kinds.Lose) due refl is
    each (lines.Fail place) due is = absurd (search (rules, is))
    each (lines.Late place delay) due is = absurd (search (rules, is))
    each (lines.Twice place) due is = absurd (search (rules, is))
    each (lines.Evict e after) due is = absurd (search (rules, is))

evicts_are : (plan : List PlanLine) (exec : ℕ) → All (OfSort false) (evicts_of plan exec)
evicts_are plan exec = all_kept (OfSort false) (evict_in exec) each plan
  where
    each : (line : PlanLine) (due : Due) → evict_in exec line ≡ Some due → OfSort false due
    each (lines.Evict e after) due is = there_of false exec e (after, kinds.Evict) due refl is
    each (lines.Fail place) due is = absurd (search (rules, is))
    each (lines.Late place delay) due is = absurd (search (rules, is))
    each (lines.Twice place) due is = absurd (search (rules, is))
    each (lines.Drop e after) due is = absurd (search (rules, is))
    each (lines.Lose e after told) due is = absurd (search (rules, is))

-- what holds of each item holds of each of them in order
all_inserted :
    {A : Type 0} (P : A → Type 0) (lt : A → A → Bool) (x : A) (ys : List A) → P x → All P ys
    → All P (inserted lt x ys)
all_inserted P lt x [] h all = All-cons P x [] h all
all_inserted P lt x (y ∷ ys) h all =
    by (lt y x) (all_inserted P lt x ys h (All-tail P y ys all))
  where
    by : (b : Bool) → All P (inserted lt x ys)
        → All P (if b then y ∷ inserted lt x ys else x ∷ y ∷ ys)
    by true rest = All-cons P y (inserted lt x ys) (All-head P y ys all) rest
    by false rest = All-cons P x (y ∷ ys) h all

all_sorted :
    {A : Type 0} (P : A → Type 0) (lt : A → A → Bool) (xs : List A) → All P xs
    → All P (sorted lt xs)
all_sorted P lt [] all = all
all_sorted P lt (x ∷ xs) all =
    all_inserted P lt x (sorted lt xs) (All-head P x xs all)
    (all_sorted P lt xs (All-tail P x xs all))

all_got : {A : Type 0} (P : A → Type 0) (xs : List A) (i : ℕ) (x : A) → All P xs
    → slice_get xs i ≡ Some x → P x
all_got P [] i x all e = absurd (search (rules, e))
all_got P (y ∷ ys) zero x all e = subst P (search (rules, e)) (All-head P y ys all)
all_got P (y ∷ ys) (suc i) x all e = all_got P ys i x (All-tail P y ys all) e

-- ---- one order

-- an order with a number, of this sort
pub record IsNumbered (exec number : ℕ) (wipe : Bool) (order : Order) : Type 0 where
  pub exec_is : order.exec ≡ exec
  pub number_is : order.number ≡ number
  pub sort : is_wipe order.kind ≡ wipe

pub numbered :
    (exec : ℕ) (wipe : Bool) (dues : List Due) (n : ℕ) (order : Order) → All (OfSort wipe) dues
    → nth_order exec n dues ≡ Some order → IsNumbered exec n wipe order
numbered exec wipe dues zero order all e = absurd (search (rules, e))
numbered exec wipe dues (suc i) order all e = by (slice_get (in_order dues) i) refl e
  where
    by : (o : Option Due) → slice_get (in_order dues) i ≡ o
        → option_map (order_of exec (suc i)) o ≡ Some order → IsNumbered exec (suc i) wipe order
    by None f h = absurd (search (rules, h))
    by (Some due) f h =
        let is : order_of exec (suc i) due ≡ order = search (rules, h) in
        subst (λ x. IsNumbered exec (suc i) wipe x) is
        (record {
          exec_is = refl;
          number_is = refl;
          sort = all_got (OfSort wipe) (in_order dues) i due
              (all_sorted (OfSort wipe) is_sooner dues all) f;
        })

-- so many are due at most
pub due_room : (dues : List Due) (told : ℕ) → due_count dues told ≤ length dues
due_room dues told =
    rw (length-filter (λ due. nat_le due.0 told) dues)
    (count_by-le-length (λ due. nat_le due.0 told) dues)

-- the next order of some
record IsNextOf (exec : ℕ) (dues : List Due) (told given : ℕ) (wipe : Bool) (order : Order)
    : Type 0 where
  numbered_so : IsNumbered exec (given + 1) wipe order
  below : given < due_count dues told
  found : nth_order exec (given + 1) dues ≡ Some order

next_of :
    (exec : ℕ) (wipe : Bool) (dues : List Due) (told given : ℕ) (order : Order)
    → All (OfSort wipe) dues → due_behind exec dues told given ≡ Some order
    → IsNextOf exec dues told given wipe order
next_of exec wipe dues told given order all e = by (nat_lt given (due_count dues told)) refl e
  where
    by : (b : Bool) → nat_lt given (due_count dues told) ≡ b
        → (if b then nth_order exec (given + 1) dues else None) ≡ Some order
        → IsNextOf exec dues told given wipe order
    by false f h = absurd (search (rules, h))
    by true f h =
        record {
          numbered_so = numbered exec wipe dues (given + 1) order all h;
          below = grind (arith, nat_tests, f);
          found = h;
        }

-- the next order at an executor is a wipe or an eviction
abbrev NextAt : List PlanLine → ℕ → ℕ → Ordered → Order → Type 0
NextAt plan told exec o order =
    IsNextOf exec (wipes_of plan exec) told o.wipes true order
    ⊎ IsNextOf exec (evicts_of plan exec) told o.evicts false order

next_at :
    (plan : List PlanLine) (told exec : ℕ) (o : Ordered) (order : Order)
    → order_behind plan told exec o ≡ Some order → NextAt plan told exec o order
next_at plan told exec o order e =
    by (due_behind exec (wipes_of plan exec) told o.wipes) refl e
  where
    by : (w : Option Order) → due_behind exec (wipes_of plan exec) told o.wipes ≡ w
        → or_else w (due_behind exec (evicts_of plan exec) told o.evicts) ≡ Some order
        → NextAt plan told exec o order
    by None f h =
        inr (next_of exec false (evicts_of plan exec) told o.evicts order (evicts_are plan exec) h)
    by (Some w) f h =
        inl (next_of exec true (wipes_of plan exec) told o.wipes order (wipes_are plan exec)
        (f ∙ h))

-- it is of that executor, and has the number that the next one of its kind has
pub record IsNextAt (exec : ℕ) (o : Ordered) (order : Order) : Type 0 where
  pub exec_is : order.exec ≡ exec
  pub number_is : order.number ≡ next_number order.kind o

pub next_is :
    (plan : List PlanLine) (told exec : ℕ) (o : Ordered) (order : Order)
    → order_behind plan told exec o ≡ Some order → IsNextAt exec o order
next_is plan told exec o order e = by (next_at plan told exec o order e)
  where
    wiped : (kind : OrderKind) → is_wipe kind ≡ true → next_number kind o ≡ o.wipes + 1
    wiped kinds.Drop h = refl
    wiped kinds.Lose h = refl
    wiped kinds.Evict h = absurd (true≢false (sym h))

    evicted : (kind : OrderKind) → is_wipe kind ≡ false → next_number kind o ≡ o.evicts + 1
    evicted kinds.Drop h = absurd (true≢false h)
    evicted kinds.Lose h = absurd (true≢false h)
    evicted kinds.Evict h = refl

    by : NextAt plan told exec o order → IsNextAt exec o order
    by (inl n) =
        record {
          exec_is = n.numbered_so.exec_is;
          number_is = n.numbered_so.number_is ∙ sym (wiped order.kind n.numbered_so.sort);
        }
    by (inr n) =
        record {
          exec_is = n.numbered_so.exec_is;
          number_is = n.numbered_so.number_is ∙ sym (evicted order.kind n.numbered_so.sort);
        }

-- ---- what is left

-- an order is due where it comes next
due_so :
    (plan : List PlanLine) (told : ℕ) (o : Ordered) (order : Order)
    → NextAt plan told order.exec o order → IsDueOrder plan told order.kind order
due_so plan told o order next = by order.kind refl next
  where
    among : (dues : List Due) (given : ℕ) (wipe : Bool)
        → IsNextOf order.exec dues told given wipe order → IsDueAmong dues told order
    among dues given wipe n =
        let number : order.number ≡ given + 1 = n.numbered_so.number_is in
        let below = n.below in (
          omega (arith, number, below),
          subst (λ (k : ℕ). nth_order order.exec k dues ≡ Some order) (sym number) n.found,
        )

    by : (kind : OrderKind) → order.kind ≡ kind → NextAt plan told order.exec o order
        → IsDueOrder plan told kind order
    by kinds.Drop e (inl n) = among (wipes_of plan order.exec) o.wipes true n
    by kinds.Lose e (inl n) = among (wipes_of plan order.exec) o.wipes true n
    by kinds.Evict e (inl n) =
        absurd (true≢false (sym n.numbered_so.sort ∙ ap is_wipe e))
    by kinds.Drop e (inr n) =
        absurd (true≢false (sym (ap is_wipe e) ∙ n.numbered_so.sort))
    by kinds.Lose e (inr n) =
        absurd (true≢false (sym (ap is_wipe e) ∙ n.numbered_so.sort))
    by kinds.Evict e (inr n) = among (evicts_of plan order.exec) o.evicts false n

-- how many are left at one executor
abbrev left_at : List PlanLine → ℕ → Ordered → ℕ
left_at plan exec o =
    (length (wipes_of plan exec) - o.wipes) + (length (evicts_of plan exec) - o.evicts)

-- one fewer, once one of them is handed out
fewer_at :
    (plan : List PlanLine) (told exec : ℕ) (o : Ordered) (order : Order)
    → NextAt plan told exec o order
    → left_at plan exec (counted order.kind o) < left_at plan exec o
fewer_at plan told exec o order next = by order.kind refl next
  where
    by : (kind : OrderKind) → order.kind ≡ kind → NextAt plan told exec o order
        → left_at plan exec (counted kind o) < left_at plan exec o
    by kinds.Drop e (inl n) =
        omega (arith, n.below, due_room (wipes_of plan exec) told)
    by kinds.Lose e (inl n) =
        omega (arith, n.below, due_room (wipes_of plan exec) told)
    by kinds.Evict e (inl n) =
        absurd (true≢false (sym n.numbered_so.sort ∙ ap is_wipe e))
    by kinds.Drop e (inr n) =
        absurd (true≢false (sym (ap is_wipe e) ∙ n.numbered_so.sort))
    by kinds.Lose e (inr n) =
        absurd (true≢false (sym (ap is_wipe e) ∙ n.numbered_so.sort))
    by kinds.Evict e (inr n) =
        omega (arith, n.below, due_room (evicts_of plan exec) told)

-- and so at all of them
fewer_from :
    (plan : List PlanLine) (first i : ℕ) (given : List Ordered) (kind : OrderKind)
    → i < length given
    → left_at plan (first + i) (counted kind (at_or given i no_orders))
    < left_at plan (first + i) (at_or given i no_orders)
    → left_from plan first (change_at given i (counted kind)) < left_from plan first given
fewer_from plan first i [] kind lt less = absurd (omega (arith, lt))
fewer_from plan first zero (o ∷ given) kind lt less =
    let same : first + 0 ≡ first = omega arith in
    let here = subst (λ (e : ℕ). left_at plan e (counted kind o) < left_at plan e o) same less in
    omega (arith, here)
fewer_from plan first (suc i) (o ∷ given) kind lt less =
    let same : first + suc i ≡ suc first + i = omega arith in
    let rest = fewer_from plan (suc first) i given kind (omega (arith, lt))
    (subst (λ (e : ℕ). left_at plan e (counted kind (at_or given i no_orders))
    < left_at plan e (at_or given i no_orders)) same less) in
    omega (arith, rest)

pub next_orders_are_due : NextOrdersAreDue
next_orders_are_due plan told given order next =
    let at = next_at plan told order.exec (ordered_at given order.exec) order next.due in
    record {
      due = due_so plan told (ordered_at given order.exec) order at;
      fewer = fewer_from plan 0 order.exec given order.kind next.known
          (subst (λ (e : ℕ). left_at plan e (counted order.kind (ordered_at given order.exec))
          < left_at plan e (ordered_at given order.exec)) (zero_more order.exec)
          (fewer_at plan told order.exec (ordered_at given order.exec) order at));
    }
  where
    zero_more : (e : ℕ) → e ≡ 0 + e
    zero_more e = omega arith

-- ---- which comes next

read_is : (given : List Ordered) (i : ℕ) (o : Ordered) → i < length given → o ≡ get_or given i o
    → ordered_at given i ≡ o
read_is [] i o lt e = absurd (omega (arith, lt))
read_is (x ∷ given) zero o lt e = sym e
read_is (x ∷ given) (suc i) o lt e = read_is given i o (omega (arith, lt)) e

-- the one at the first executor where one is due
pub comes_next :
    (plan : List PlanLine) (told : ℕ) (given : List Ordered) (exec : ℕ) (o : Ordered)
    (order : Order) → exec < length given → o ≡ get_or given exec o
    → ((other : ℕ) → other < exec → order_at plan told given other ≡ None)
    → order_behind plan told exec o ≡ Some order → IsNextOrder plan told given order
comes_next plan told given exec o order lt read before e =
    let at : IsNextAt exec o order = next_is plan told exec o order e in
    record {
      known = subst (λ (n : ℕ). n < length given) (sym at.exec_is) lt;
      due = subst (λ (n : ℕ). order_at plan told given n ≡ Some order) (sym at.exec_is)
          (ap (λ x. order_behind plan told exec x) (read_is given exec o lt read) ∙ e);
      first = subst (λ (n : ℕ). (other : ℕ) → other < n
          → order_at plan told given other ≡ None) (sym at.exec_is) before;
    }

-- and where none is due at one executor more, the search goes on
pub none_next :
    (plan : List PlanLine) (told : ℕ) (given : List Ordered) (exec : ℕ) (o : Ordered)
    → exec < length given → o ≡ get_or given exec o
    → ((other : ℕ) → other < exec → order_at plan told given other ≡ None)
    → order_behind plan told exec o ≡ None
    → (other : ℕ) → other < exec + 1 → order_at plan told given other ≡ None
none_next plan told given exec o lt read before e other below = by (cases_eq exec other)
  where
    by : (exec ≡ other) ⊎ (exec ≡ other → ⊥) → order_at plan told given other ≡ None
    by (inl same) =
        subst (λ (n : ℕ). order_at plan told given n ≡ None) same
        (ap (λ x. order_behind plan told exec x) (read_is given exec o lt read) ∙ e)
    by (inr other_one) = before other (omega (arith, below, other_one))
