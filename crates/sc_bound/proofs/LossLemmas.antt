-- How often outputs may be forgotten, as a plan says.
use Rattle.std.proofs.Common.{◌≡◌, ◌≢◌, ℕ, ◌+◌, ◌≤◌, ◌==◌, Bool, true, false, if◌then◌else◌, List, [], ◌∷◌, length, filter, filter_map, Some, None, slice_get, refl, arith}
use Rattle.std.specs.List.{cons_option}
use Rattle.sc_plan.specs.Orders.{is_drop, is_lose, loss_in, loss_of, planned_losses, wipe_in, wipes_of}
use Rattle.sc_plan.specs.declared.lines.PlanLine.{PlanLine}
use Rattle.sc_plan.specs.declared.lines.PlanLine.TheVariants as lines
use Rattle.sc_plan.specs.declared.orders.OrderKind.TheVariants as kinds
use Rattle.sc_bound.proofs.SumLemmas.{one_at, total, total_below, total_none, total_one, total_sum}

-- ---- what a plan has for an executor

-- how many lines lose it
abbrev pub losses_at : List PlanLine → ℕ → ℕ
losses_at plan exec = length (filter_map (loss_in exec) plan)

-- how often its outputs may be forgotten
abbrev pub events_at : List PlanLine → ℕ → ℕ
events_at plan exec = length (wipes_of plan exec) + losses_at plan exec

-- what one line adds for each executor
abbrev loss_by : PlanLine → ℕ → ℕ
loss_by (lines.Lose e after told) exec = one_at e exec
loss_by line exec = 0

abbrev wipe_by : PlanLine → ℕ → ℕ
wipe_by (lines.Drop e after) exec = one_at e exec
wipe_by (lines.Lose e after told) exec = one_at e exec
wipe_by line exec = 0

-- a line that is about an executor or isn't adds one or nothing
counts_one : {A : Type 0} (b : Bool) (x : A) (xs : List A)
    → length (cons_option (if b then Some x else None) xs) ≡ (if b then 1 else 0) + length xs
counts_one true x xs = omega arith
counts_one false x xs = omega arith

losses_more : (line : PlanLine) (plan : List PlanLine) (exec : ℕ)
    → losses_at (line ∷ plan) exec ≡ loss_by line exec + losses_at plan exec
losses_more (lines.Fail p) plan exec = omega arith
losses_more (lines.Late p n) plan exec = omega arith
losses_more (lines.Twice p) plan exec = omega arith
losses_more (lines.Drop e after) plan exec = omega arith
losses_more (lines.Lose e after told) plan exec =
    counts_one (e == exec) told (filter_map (loss_in exec) plan)
losses_more (lines.Evict e after) plan exec = omega arith

wipes_more : (line : PlanLine) (plan : List PlanLine) (exec : ℕ)
    → length (wipes_of (line ∷ plan) exec) ≡ wipe_by line exec + length (wipes_of plan exec)
wipes_more (lines.Fail p) plan exec = omega arith
wipes_more (lines.Late p n) plan exec = omega arith
wipes_more (lines.Twice p) plan exec = omega arith
wipes_more (lines.Drop e after) plan exec =
    counts_one (e == exec) (after, kinds.Drop) (filter_map (wipe_in exec) plan)
wipes_more (lines.Lose e after told) plan exec =
    counts_one (e == exec) (after, kinds.Lose) (filter_map (wipe_in exec) plan)
wipes_more (lines.Evict e after) plan exec = omega arith

-- ---- what it has for all

pub total_losses : (plan : List PlanLine) (n m : ℕ)
    → total (losses_at plan) n m ≤ length (filter is_lose plan)
total_losses [] n m = let none = total_none n m in omega (arith, none)
total_losses (line ∷ plan) n m = by line (total_losses plan n m)
  where
    split : (line : PlanLine)
        → total (losses_at (line ∷ plan)) n m
        ≤ total (loss_by line) n m + total (losses_at plan) n m
    split line =
        let le = total_below (losses_at (line ∷ plan)) (λ e. loss_by line e + losses_at plan e) n m
        (λ e. (let is = losses_more line plan e in omega (arith, is))) in
        let is = total_sum (loss_by line) (losses_at plan) n m in
        omega (arith, le, is)

    by : (line : PlanLine) → total (losses_at plan) n m ≤ length (filter is_lose plan)
        → total (losses_at (line ∷ plan)) n m ≤ length (filter is_lose (line ∷ plan))
    by (lines.Fail p) h =
        let s = split (lines.Fail p) in
        let z = total_none n m in
        omega (arith, s, h, z)
    by (lines.Late p k) h =
        let s = split (lines.Late p k) in
        let z = total_none n m in
        omega (arith, s, h, z)
    by (lines.Twice p) h =
        let s = split (lines.Twice p) in
        let z = total_none n m in
        omega (arith, s, h, z)
    by (lines.Drop e a) h =
        let s = split (lines.Drop e a) in
        let z = total_none n m in
        omega (arith, s, h, z)
    by (lines.Evict e a) h =
        let s = split (lines.Evict e a) in
        let z = total_none n m in
        omega (arith, s, h, z)
    by (lines.Lose e a t) h =
        let s = split (lines.Lose e a t) in
        let one = total_one e n m in
        omega (arith, s, h, one)

pub total_wipes : (plan : List PlanLine) (n m : ℕ)
    → total (λ e. length (wipes_of plan e)) n m
    ≤ length (filter is_drop plan) + length (filter is_lose plan)
total_wipes [] n m = let none = total_none n m in omega (arith, none)
total_wipes (line ∷ plan) n m = by line (total_wipes plan n m)
  where
    wipes : ℕ → ℕ
    wipes e = length (wipes_of plan e)

    split : (line : PlanLine)
        → total (λ e. length (wipes_of (line ∷ plan) e)) n m
        ≤ total (wipe_by line) n m + total (λ e. length (wipes_of plan e)) n m
    split line =
        let le = total_below (λ e. length (wipes_of (line ∷ plan) e))
        (λ e. wipe_by line e + length (wipes_of plan e)) n m
        (λ e. (let is = wipes_more line plan e in omega (arith, is))) in
        let is = total_sum (wipe_by line) (λ e. length (wipes_of plan e)) n m in
        omega (arith, le, is)

    by : (line : PlanLine)
        → total (λ e. length (wipes_of plan e)) n m
        ≤ length (filter is_drop plan) + length (filter is_lose plan)
        → total (λ e. length (wipes_of (line ∷ plan) e)) n m
        ≤ length (filter is_drop (line ∷ plan)) + length (filter is_lose (line ∷ plan))
    by (lines.Fail p) h =
        let s = split (lines.Fail p) in
        let z = total_none n m in
        omega (arith, s, h, z)
    by (lines.Late p k) h =
        let s = split (lines.Late p k) in
        let z = total_none n m in
        omega (arith, s, h, z)
    by (lines.Twice p) h =
        let s = split (lines.Twice p) in
        let z = total_none n m in
        omega (arith, s, h, z)
    by (lines.Evict e a) h =
        let s = split (lines.Evict e a) in
        let z = total_none n m in
        omega (arith, s, h, z)
    by (lines.Drop e a) h =
        let s = split (lines.Drop e a) in
        let one = total_one e n m in
        omega (arith, s, h, one)
    by (lines.Lose e a t) h =
        let s = split (lines.Lose e a t) in
        let one = total_one e n m in
        omega (arith, s, h, one)

-- so outputs are forgotten as often as is planned, over all executors
pub total_events : (plan : List PlanLine) (n m : ℕ)
    → total (events_at plan) n m ≤ planned_losses plan
total_events plan n m =
    let both = total_sum (λ e. length (wipes_of plan e)) (losses_at plan) n m in
    let wipes = total_wipes plan n m in
    let losses = total_losses plan n m in
    omega (arith, both, wipes, losses)

-- a loss that is planned has a line
pub loss_there : (plan : List PlanLine) (exec : ℕ) → loss_of plan exec ≢ None
    → 1 ≤ losses_at plan exec
loss_there plan exec some = by (filter_map (loss_in exec) plan) some
  where
    by : (xs : List ℕ) → slice_get xs 0 ≢ None → 1 ≤ length xs
    by [] h = absurd (h refl)
    by (x ∷ xs) h = omega arith
