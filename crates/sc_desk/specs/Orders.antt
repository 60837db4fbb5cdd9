-- Which orders of a fault plan were handed out, and which comes next.
use Rattle.std.specs.Prelude.{ℕ, suc, ◌+◌, ◌-◌, ◌<◌, ◌≡◌, List, [], ◌∷◌, Option, Some, None, if◌then◌else◌, length, nat_lt, refl}
use Rattle.std.specs.Coded.{Coded, code_by, coded×, coded_list, coded_ℕ}
use Rattle.sc_base.specs.Lists.{at_or}
use Rattle.sc_ids.specs.Changes.{change_at}
use Rattle.sc_plan.specs.Orders.{Due, due_count, evicts_of, nth_order, wipes_of}
use Rattle.sc_plan.specs.declared.lines.PlanLine.{PlanLine}
use Rattle.sc_plan.specs.declared.orders.Order.{Order}
use Rattle.sc_plan.specs.declared.orders.OrderKind.{OrderKind}
use Rattle.sc_plan.specs.declared.orders.OrderKind.TheVariants as kinds
use Rattle.sc_desk.specs.declared.orders.Ordered.{Ordered}

-- so many wipes of an executor and evictions at it were handed out
abbrev pub ordered : ℕ → ℕ → Ordered
ordered wipes evicts = record { wipes = wipes; evicts = evicts }

-- nothing was handed out
abbrev pub no_orders : Ordered
no_orders = ordered 0 0

abbrev pub ordered_at : List Ordered → ℕ → Ordered
ordered_at given exec = at_or given exec no_orders

-- the next of some orders at an executor, of which so many were handed out, where it is due
abbrev pub due_behind : ℕ → List Due → ℕ → ℕ → Option Order
due_behind exec dues told given =
    if nat_lt given (due_count dues told) then nth_order exec (given + 1) dues else None

abbrev pub or_else : Option Order → Option Order → Option Order
or_else None other = other
or_else (Some order) other = Some order

-- the next order at an executor, of which so many were handed out, where one is due: wipes come
-- before evictions
abbrev pub order_behind : List PlanLine → ℕ → ℕ → Ordered → Option Order
order_behind plan told exec o =
    or_else (due_behind exec (wipes_of plan exec) told o.wipes)
    (due_behind exec (evicts_of plan exec) told o.evicts)

abbrev pub order_at : List PlanLine → ℕ → List Ordered → ℕ → Option Order
order_at plan told given exec = order_behind plan told exec (ordered_at given exec)

-- an order comes next: it is due at the first executor where one is
pub record IsNextOrder (plan : List PlanLine) (told : ℕ) (given : List Ordered) (order : Order)
    : Type 0 where
  pub known : order.exec < length given
  pub due : order_at plan told given order.exec ≡ Some order
  pub first : (exec : ℕ) → exec < order.exec → order_at plan told given exec ≡ None

-- the order that comes next, if one is due at any executor
abbrev pub ComesNext : List PlanLine → ℕ → List Ordered → Option Order → Type 0
ComesNext plan told given None =
    (exec : ℕ) → exec < length given → order_at plan told given exec ≡ None
ComesNext plan told given (Some order) = IsNextOrder plan told given order

-- one more of a kind
abbrev pub counted : OrderKind → Ordered → Ordered
counted kinds.Drop o = ordered (o.wipes + 1) o.evicts
counted kinds.Lose o = ordered (o.wipes + 1) o.evicts
counted kinds.Evict o = ordered o.wipes (o.evicts + 1)

-- the number of the next one of a kind
abbrev pub next_number : OrderKind → Ordered → ℕ
next_number kinds.Drop o = o.wipes + 1
next_number kinds.Lose o = o.wipes + 1
next_number kinds.Evict o = o.evicts + 1

-- an order handed out
abbrev pub after_order : List Ordered → Option Order → List Ordered
after_order given None = given
after_order given (Some order) = change_at given order.exec (counted order.kind)

-- how many orders of a plan weren't handed out yet, at the executors from one on
abbrev pub left_from : List PlanLine → ℕ → List Ordered → ℕ
left_from plan exec [] = 0
left_from plan exec (o ∷ given) =
    (length (wipes_of plan exec) - o.wipes) + (length (evicts_of plan exec) - o.evicts)
    + left_from plan (suc exec) given

-- and at all of them
abbrev pub orders_left : List PlanLine → List Ordered → ℕ
orders_left plan given = left_from plan 0 given

-- an order is one of a plan, and is due once so many reports were told
abbrev pub IsDueAmong : List Due → ℕ → Order → Type 0
IsDueAmong dues told order =
    (order.number < due_count dues told + 1) × (nth_order order.exec order.number dues ≡ Some order)

abbrev pub IsDueOrder : List PlanLine → ℕ → OrderKind → Order → Type 0
IsDueOrder plan told kinds.Drop order = IsDueAmong (wipes_of plan order.exec) told order
IsDueOrder plan told kinds.Lose order = IsDueAmong (wipes_of plan order.exec) told order
IsDueOrder plan told kinds.Evict order = IsDueAmong (evicts_of plan order.exec) told order

-- an order that comes next is due, and once it is handed out fewer are left
pub record OrdersAreLawful (plan : List PlanLine) (told : ℕ) (given : List Ordered) (order : Order)
    : Type 0 where
  pub due : IsDueOrder plan told order.kind order
  pub fewer : orders_left plan (after_order given (Some order)) < orders_left plan given

abbrev pub NextOrdersAreDue : Type 0
NextOrdersAreDue =
    (plan : List PlanLine) (told : ℕ) (given : List Ordered) (order : Order)
    → IsNextOrder plan told given order → OrdersAreLawful plan told given order

-- the code of the counts, by which proofs tell two of them apart
abbrev pub orders_code : Coded (List Ordered)
orders_code =
    coded_list (code_by (ℕ × ℕ) (coded× coded_ℕ coded_ℕ) (λ o. (o.wipes, o.evicts))
    (λ p. ordered p.0 p.1) (λ _. refl))
