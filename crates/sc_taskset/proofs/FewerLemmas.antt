-- Rows found by their partitions, and the executors that they are on after a change.
use Rattle.std.proofs.Common.{◌≡◌, ℕ, ◌<◌, ◌==◌, Bool, true, List, [], Some, IfSome, length, get_or, ap, sym, ◌∙◌, arith}
use Rattle.std.proofs.lemmas.Bool.Decides.{nat_tests}
use Rattle.std.proofs.lemmas.List.Sums.{fails_before_first, passes_at_first}
use Rattle.std.specs.List.{find, position_or_len}
use Rattle.sc_taskset.specs.Lists.{IsOnFewer, IsOnOneMore}
use Rattle.sc_taskset.specs.Looks.{is_task_on}
use Rattle.sc_taskset.specs.Offers.{handed_task}
use Rattle.sc_taskset.specs.Rows.{is_row_of, task_of}
use Rattle.sc_taskset.specs.TaskSetData.{TaskData}
use Rattle.sc_taskset.specs.declared.rows.Failure.{Failure}
use Rattle.sc_taskset.specs.declared.rows.Row.{Row}
use Rattle.sc_taskset.proofs.FindLemmas.{found_passes}
use Rattle.sc_taskset.proofs.MarkLemmas.{found_first}
use Rattle.sc_taskset.proofs.OnLemmas.{on_handed}

-- what is found stands at the first place that passes
pub found_there : {A : Type 0} (q : A → Bool) (xs : List A) (place : ℕ) (d : A)
    → place ≡ position_or_len q xs → place < length xs → find q xs ≡ Some (get_or xs place d)
found_there q xs place d is l =
    sym (found_first q xs place d l
    (λ k e m n. fails_before_first q xs k e (omega (arith, m, is)))
    (ap (λ i. q (get_or xs i d)) is ∙ passes_at_first q xs d (omega (arith, is, l))))

-- what holds of the row of a partition holds of the one that a changed row takes the place of
pub found_changed : (rows : List Row) (p : ℕ) (x y : Row) (g : TaskData → TaskData)
    (P : Row → Type 0) → ((t : TaskData) → (g t).partition ≡ t.partition)
    → Some x ≡ find (is_row_of p) rows
    → ((failures : List Failure) → task_of failures y ≡ g (task_of failures x))
    → P x → IfSome (find (is_row_of y.partition) rows) P
found_changed rows p x y g P keeps found is holds =
    let passes : (x.partition == p) ≡ true = found_passes (is_row_of p) rows x (sym found) in
    let of : y.partition ≡ p =
    ap (λ t. t.partition) (is []) ∙ keeps (task_of [] x) ∙ (grind (arith, nat_tests, passes)) in
    rw (of, ← found) holds

-- a change that brings no task to an executor brings no row to one
pub fewer_by : (x y : Row) (g : TaskData → TaskData)
    → ((failures : List Failure) → task_of failures y ≡ g (task_of failures x))
    → ((e : ℕ) (t : TaskData) → is_task_on e (g t) ≡ true → is_task_on e t ≡ true)
    → IsOnFewer x y
fewer_by x y g is fewer e on = fewer e (task_of [] x) (sym (ap (is_task_on e) (is [])) ∙ on)

-- a hand-out brings one to one more
pub more_by : (x y : Row) (exec now : ℕ)
    → ((failures : List Failure) → task_of failures y ≡ handed_task exec now (task_of failures x))
    → IsOnOneMore exec x y
more_by x y exec now is e = ap (is_task_on e) (is []) ∙ on_handed e exec now (task_of [] x)
