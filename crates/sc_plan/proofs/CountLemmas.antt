-- How many orders and losses a plan has.
use Rattle.std.proofs.Common.{◌≡◌, ◌∙◌, ℕ, suc, ◌≤◌, ◌+◌, ◌*◌, Bool, true, false, cond, List, [], ◌∷◌, length, filter, Option, Some, None, refl, ap, arith}
use Rattle.std.specs.List.{cons_option}
use Rattle.std.specs.Prelude.{filter_map, nat_le}
use Rattle.sc_plan.proofs.FilterLemmas.{length-sorted}
use Rattle.sc_plan.specs.Limits.{lines_limit}
use Rattle.sc_plan.specs.Lookups.{entry_in, is_lower, table_of}
use Rattle.sc_plan.specs.Orders.{Due, due_count, evict_in, evicts_of, is_drop, is_lose, planned_losses, wipe_in, wipes_of}
use Rattle.sc_plan.specs.declared.lines.PlanLine.{PlanLine}
use Rattle.sc_plan.specs.declared.lines.PlanLine.TheVariants as lines
use Rattle.sc_plan.specs.declared.lookups.Entry.{Entry}
use Rattle.sc_plan.specs.declared.lookups.Sought.TheVariants as sought

-- no more than there are lines
length-cons_option : {Y : Type 0} (o : Option Y) (ys : List Y) (n : ℕ) → length ys ≤ n
    → length (cons_option o ys) ≤ suc n
length-cons_option None ys n few = omega (arith, few)
length-cons_option (Some y) ys n few = omega (arith, few)

length-filter_map : {X Y : Type 0} (f : X → Option Y) (xs : List X)
    → length (filter_map f xs) ≤ length xs
length-filter_map f [] = omega arith
length-filter_map f (x ∷ xs) =
    length-cons_option (f x) (filter_map f xs) (length xs) (length-filter_map f xs)

length-filter : {X : Type 0} (p : X → Bool) (xs : List X) → length (filter p xs) ≤ length xs
length-filter p [] = omega arith
length-filter p (x ∷ xs) = go (p x) (length-filter p xs) where
  go : (b : Bool) → length (filter p xs) ≤ length xs
      → length (cond b (x ∷ filter p xs) (filter p xs)) ≤ suc (length xs)
  go true few = omega (arith, few)
  go false few = omega (arith, few)

pub few_wipes : (ls : List PlanLine) (exec : ℕ) → length ls ≤ lines_limit
    → length (wipes_of ls exec) ≤ lines_limit
few_wipes ls exec few = omega (arith, few, length-filter_map (wipe_in exec) ls)

pub few_evicts : (ls : List PlanLine) (exec : ℕ) → length ls ≤ lines_limit
    → length (evicts_of ls exec) ≤ lines_limit
few_evicts ls exec few = omega (arith, few, length-filter_map (evict_in exec) ls)

pub few_due : (ds : List Due) (told : ℕ) → length ds ≤ lines_limit
    → due_count ds told ≤ lines_limit
few_due ds told few = omega (arith, few, length-filter (λ d. nat_le d.0 told) ds)

-- the tables of wipes and of losses have as many entries as there are such lines
wipe_lines : (ls : List PlanLine) → length (filter_map (entry_in sought.Wipe) ls)
    ≡ length (filter is_drop ls) + length (filter is_lose ls)
wipe_lines [] = refl
wipe_lines (lines.Fail q ∷ ls) = wipe_lines ls
wipe_lines (lines.Late q c ∷ ls) = wipe_lines ls
wipe_lines (lines.Twice q ∷ ls) = wipe_lines ls
wipe_lines (lines.Drop e a ∷ ls) = omega (arith, wipe_lines ls)
wipe_lines (lines.Lose e a t ∷ ls) = omega (arith, wipe_lines ls)
wipe_lines (lines.Evict e a ∷ ls) = wipe_lines ls

loss_lines : (ls : List PlanLine)
    → length (filter_map (entry_in sought.Loss) ls) ≡ length (filter is_lose ls)
loss_lines [] = refl
loss_lines (lines.Fail q ∷ ls) = loss_lines ls
loss_lines (lines.Late q c ∷ ls) = loss_lines ls
loss_lines (lines.Twice q ∷ ls) = loss_lines ls
loss_lines (lines.Drop e a ∷ ls) = loss_lines ls
loss_lines (lines.Lose e a t ∷ ls) = ap suc (loss_lines ls)
loss_lines (lines.Evict e a ∷ ls) = loss_lines ls

-- together they are the planned losses
pub losses_in_tables : (ls : List PlanLine) (wipes losses : List Entry)
    → wipes ≡ table_of sought.Wipe ls → losses ≡ table_of sought.Loss ls
    → length wipes + length losses ≡ planned_losses ls
losses_in_tables ls wipes losses w l =
    let a = ap (λ (es : List Entry). length es) w
    ∙ length-sorted is_lower (filter_map (entry_in sought.Wipe) ls) ∙ wipe_lines ls in
    let b = ap (λ (es : List Entry). length es) l
    ∙ length-sorted is_lower (filter_map (entry_in sought.Loss) ls) ∙ loss_lines ls in
    omega (arith, a, b)

-- a line is of one kind at most
apart : (ls : List PlanLine)
    → length (filter is_drop ls) + length (filter is_lose ls) ≤ length ls
apart [] = omega arith
apart (lines.Fail q ∷ ls) = omega (arith, apart ls)
apart (lines.Late q c ∷ ls) = omega (arith, apart ls)
apart (lines.Twice q ∷ ls) = omega (arith, apart ls)
apart (lines.Drop e a ∷ ls) = omega (arith, apart ls)
apart (lines.Lose e a t ∷ ls) = omega (arith, apart ls)
apart (lines.Evict e a ∷ ls) = omega (arith, apart ls)

pub few_losses : (ls : List PlanLine) → length ls ≤ lines_limit
    → planned_losses ls ≤ 2 * lines_limit
few_losses ls few = omega (arith, few, apart ls)
