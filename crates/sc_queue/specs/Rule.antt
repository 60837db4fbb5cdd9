-- What an executor has pushed comes out of the queue once, in order.
use Rattle.std.specs.Prelude.{◌≡◌, ◌<◌, ◌≤◌, ◌==◌, ℕ, suc, Bool, true, false, List, [], ◌∷◌, ◌++◌, length, Option, Some, None, slice_get, if◌then◌else◌}
use mathlib.Core.Option.{some}
use lib.ListN.{get_elem?}
use Rattle.sc_queue.specs.declared.rules.Posted.{Posted}
use Rattle.sc_queue.specs.declared.rules.Hand.{Hand}
use Rattle.sc_queue.specs.declared.rules.Hand.TheVariants.{Executor, Driver, Spent}

-- the reports of an executor, in order
abbrev pub reports_of : {T : Type 0} → ℕ → List (Posted T) → List (Posted T)
reports_of e [] = []
reports_of e (p ∷ ps) = if p.exec == e then p ∷ reports_of e ps else reports_of e ps

-- they are numbered one by one, from a number on
abbrev pub AreNumbered : {T : Type 0} → ℕ → List (Posted T) → Type 0
AreNumbered n [] = Unit {0}
AreNumbered n (p ∷ ps) = (p.number ≡ n) × AreNumbered (suc n) ps

-- what a pass knows is so, where these reports were popped, and these pushed. An executor's pass
-- has the number behind its own, since the driver's is the first and makes them in order
abbrev pub Knows : {T : Type 0} → List (Posted T) → List (Posted T) → List (Hand T) → ℕ → Hand T
    → Type 0
Knows got all views pass (Executor e pushed) = (pass ≡ suc e) × (pushed ≡ reports_of e all)
Knows got all views pass (Driver made popped joined) =
    (pass ≡ 0) × (length views ≡ suc made) × (popped ≡ got)
    × ((e : ℕ) → made ≤ e → reports_of e all ≡ [])
    × (length joined ≤ made)
    × ((e : ℕ) → e < length joined
    → (get_elem? views (suc e) ≡ some Spent) × (slice_get joined e ≡ Some (reports_of e all)))
Knows got all views pass Spent = Unit {0}

-- what was popped and then what the queue holds is what was pushed: of each executor, numbered from
-- 1 on, and known to its pass
abbrev pub AreInOrder : {T : Type 0} → List (Posted T) → List (Hand T) → Type 0
AreInOrder {T = T} items views =
    (got : List (Posted T))
    × ((e : ℕ) → AreNumbered 1 (reports_of e (got ++ items)))
    × ((pass : ℕ) (v : Hand T) → get_elem? views pass ≡ some v
    → Knows got (got ++ items) views pass v)

-- push: the executor's pass gains the report
abbrev pub Pushed : {T : Type 0} → Hand T → Posted T → Hand T → Type 0
Pushed (Executor e pushed) x w = w ≡ Executor e (pushed ++ x ∷ [])
Pushed v x w = w ≡ v

-- an executor may push this: its own next report
abbrev pub MayPush : {T : Type 0} → Hand T → Posted T → Type 0
MayPush (Executor e pushed) x = (x.exec ≡ e) × (x.number ≡ suc (length pushed))
MayPush v x = ⊥

-- pop: the driver's pass gains the report
abbrev pub Popped : {T : Type 0} → Hand T → Posted T → Hand T → Type 0
Popped (Driver made popped joined) x w = w ≡ Driver made (popped ++ x ∷ []) joined
Popped v x w = w ≡ v

-- split pass: the driver has made one more, and the new one is the next executor's
abbrev pub one_more : {T : Type 0} → Hand T → Hand T
one_more (Driver made popped joined) = Driver (suc made) popped joined
one_more v = v

abbrev pub next_executor : {T : Type 0} → Hand T → Hand T
next_executor (Driver made popped joined) = Executor made []
next_executor v = Spent

-- join pass: the driver gains what the executor has pushed
abbrev pub joined_by : {T : Type 0} → Hand T → Hand T → Hand T
joined_by (Driver made popped joined) (Executor e pushed) =
    Driver made popped (joined ++ pushed ∷ [])
joined_by v w = v

-- it is the driver's pass
abbrev pub is_driver : {T : Type 0} → Hand T → Bool
is_driver (Driver made popped joined) = true
is_driver v = false

-- the driver may join this pass: that of the executor behind those that were joined
abbrev pub MayJoin : {T : Type 0} → Hand T → Hand T → Type 0
MayJoin (Driver made popped joined) (Executor e pushed) = e ≡ length joined
MayJoin v w = ⊥

-- what the driver has popped
abbrev pub popped_of : {T : Type 0} → Hand T → List (Posted T)
popped_of (Driver made popped joined) = popped
popped_of v = []

-- what an executor has pushed
abbrev pub pushed_of : {T : Type 0} → Hand T → List (Posted T)
pushed_of (Executor e pushed) = pushed
pushed_of v = []

-- how many passes the driver has made, and what the joined ones had pushed
abbrev pub made_of : {T : Type 0} → Hand T → ℕ
made_of (Driver made popped joined) = made
made_of v = 0

abbrev pub joined_of : {T : Type 0} → Hand T → List (List (Posted T))
joined_of (Driver made popped joined) = joined
joined_of v = []

-- of each executor whose pass was joined: what was popped of it and then what the queue holds of it
-- is what it pushed, numbered from 1 on
abbrev pub IsDelivered : {T : Type 0} → Hand T → List (Posted T) → Type 0
IsDelivered (Driver made popped joined) items =
    (e : ℕ) → e < length joined
    → (slice_get joined e ≡ Some (reports_of e popped ++ reports_of e items))
    × AreNumbered 1 (reports_of e popped ++ reports_of e items)
IsDelivered v items = Unit {0}

-- each executor's pass that was joined had pushed what was popped of it, and this is numbered from
-- 1 on
abbrev pub AreDelivered : {T : Type 0} → List (Posted T) → List (List (Posted T)) → Type 0
AreDelivered popped joined =
    (e : ℕ) → e < length joined
    → (slice_get joined e ≡ Some (reports_of e popped)) × AreNumbered 1 (reports_of e popped)

-- what may be there, as a list
abbrev pub as_list : {T : Type 0} → Option T → List T
as_list None = []
as_list (Some p) = p ∷ []
