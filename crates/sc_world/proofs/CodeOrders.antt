-- Orders of a fault plan that wipe.
use Rattle.std.proofs.Common.{◌≡◌, ℕ, ◌≤◌, true, List, Some, length, sym, arith, true≢false}
use Rattle.sc_plan.specs.Orders.{Due, due_count, nth_order, wipes_of}
use Rattle.sc_plan.specs.declared.lines.PlanLine.{PlanLine}
use Rattle.sc_plan.specs.declared.orders.Order.{Order}
use Rattle.sc_plan.specs.declared.orders.OrderKind.{OrderKind}
use Rattle.sc_plan.specs.declared.orders.OrderKind.TheVariants as kinds
use Rattle.sc_store.specs.Storing.{IsWipe}
use Rattle.sc_desk.specs.Orders.{IsDueAmong}
use Rattle.sc_desk.proofs.OrderLemmas.{due_room, is_wipe, numbered, wipes_are}

wiping : (kind : OrderKind) → is_wipe kind ≡ true → IsWipe kind
wiping kinds.Drop e = tt
wiping kinds.Lose e = tt
wiping kinds.Evict e = true≢false (sym e)

-- a wipe of an executor that has a number in a plan
pub record IsWipeOf (exec number : ℕ) (order : Order) : Type 0 where
  pub exec_is : order.exec ≡ exec
  pub number_is : order.number ≡ number
  pub wipes : IsWipe order.kind

pub wipe_of : (plan : List PlanLine) (exec number : ℕ) (order : Order)
    → nth_order exec number (wipes_of plan exec) ≡ Some order → IsWipeOf exec number order
wipe_of plan exec number order is =
    let n = numbered exec true (wipes_of plan exec) number order (wipes_are plan exec) is in
    record { exec_is = n.exec_is; number_is = n.number_is; wipes = wiping order.kind n.sort }

-- so one that is due wipes
pub is_wiping : (plan : List PlanLine) (told : ℕ) (order : Order)
    → IsDueAmong (wipes_of plan order.exec) told order → IsWipe order.kind
is_wiping plan told order (below, is) = (wipe_of plan order.exec order.number order is).wipes

-- one that is due is there
pub is_known : (dues : List Due) (told number : ℕ) → number ≤ due_count dues told
    → number ≤ length dues
is_known dues told number le = let room = due_room dues told in omega (arith, le, room)
