-- How many tasks a set has, and how many of them it has handed out.
use Rattle.std.proofs.Common.{◌≡◌, ℕ, suc, ◌*◌, ◌-◌, ◌<◌, ◌≤◌, ◌==◌, All, Bool, true, false, cond, List, [], ◌∷◌, length, map, Some, refl, arith}
use Rattle.std.specs.List.{sum_by}
use Rattle.std.proofs.lemmas.Bool.Decides.{nat_tests}
use Rattle.std.proofs.lemmas.List.Elements.{All-cons, All-head, All-nil, All-tail}
use Rattle.std.proofs.lemmas.List.Sums.{sum_by-le}
use Rattle.std.proofs.lemmas.Nat.{mul-le}
use Rattle.sc_taskset.specs.Lookups.{task_at}
use Rattle.sc_taskset.specs.Offers.{given_in, given_of}
use Rattle.sc_taskset.specs.Sound.{AreRising, IsSoundSet}
use Rattle.sc_taskset.specs.TaskSetData.{TaskData, TaskSetData}
use Rattle.sc_taskset.proofs.FindLemmas.{pairs_head, pairs_tail}

abbrev pub parts : List TaskData → List ℕ
parts tasks = map (λ t. t.partition) tasks

-- rising numbers in a range are no more than this has
rising_few : (tasks : List TaskData) (low most : ℕ) → AreRising (parts tasks)
    → All (λ p. low ≤ p) (parts tasks) → All (λ t. t.partition < most) tasks
    → length tasks ≤ most - low
rising_few [] low most rising above below = omega arith
rising_few (t ∷ ts) low most rising above below =
    let first = All-head (λ p. low ≤ p) t.partition (parts ts) above in
    let last = All-head (λ u. u.partition < most) t ts below in
    let rest = rising_few ts (suc t.partition) most
    (pairs_tail (λ p q. p < q) t.partition (parts ts) rising)
    (λ i d l. (let h = pairs_head (λ p q. p < q) t.partition (parts ts) rising i d l in
    omega (arith, h)))
    (All-tail (λ u. u.partition < most) t ts below) in
    omega (arith, first, last, rest)

pub tasks_few : (set : TaskSetData) (most : ℕ) → IsSoundSet set
    → All (λ t. t.partition < most) set.tasks → length set.tasks ≤ most
tasks_few set most sound below =
    let le = rising_few set.tasks 0 most sound.rising (λ i d l. omega arith) below in
    omega (arith, le)

-- ---- each task by its partition

-- nothing was handed out of a partition below all of them
pub below_none : (tasks : List TaskData) (p : ℕ) → All (λ q. p < q) (parts tasks)
    → given_in (task_at p tasks) ≡ 0
below_none [] p above = refl
below_none (t ∷ ts) p above =
    let first = All-head (λ q. p < q) t.partition (parts ts) above in
    let other : (t.partition == p) ≡ false = grind (arith, nat_tests, first) in
    rw other (below_none ts p (All-tail (λ q. p < q) t.partition (parts ts) above))

given_each : (tasks : List TaskData) (most : ℕ) → AreRising (parts tasks)
    → ((p : ℕ) → given_in (task_at p tasks) ≤ most) → All (λ t. t.given ≤ most) tasks
given_each [] most rising le = All-nil (λ t. t.given ≤ most)
given_each (t ∷ ts) most rising le =
    All-cons (λ u. u.given ≤ most) t ts (head (t.partition == t.partition) refl (le t.partition))
    (given_each ts most (pairs_tail (λ p q. p < q) t.partition (parts ts) rising)
    (λ p. tail p (t.partition == p) refl (le p)))
  where
    head : (b : Bool) → (t.partition == t.partition) ≡ b
        → given_in (cond b (Some t) (task_at t.partition ts)) ≤ most → t.given ≤ most
    head true e h = h
    head false e h = absurd (grind (arith, nat_tests, e))

    tail : (p : ℕ) (b : Bool) → (t.partition == p) ≡ b
        → given_in (cond b (Some t) (task_at p ts)) ≤ most → given_in (task_at p ts) ≤ most
    tail p false e h = h
    tail p true e h =
        let is : t.partition ≡ p = grind (arith, nat_tests, e) in
        let none = below_none ts p
        (λ i d l. (let lt = pairs_head (λ q r. q < r) t.partition (parts ts) rising i d l in
        omega (arith, lt, is))) in
        omega (arith, none)

-- so a set has handed out no more than its partitions have
pub set_given : (set : TaskSetData) (tasks most : ℕ) → IsSoundSet set
    → All (λ t. t.partition < tasks) set.tasks → ((p : ℕ) → given_of set p ≤ most)
    → sum_by (λ t. t.given) set.tasks ≤ tasks * most
set_given set tasks most sound below le =
    let sum = sum_by-le (λ (t : TaskData). t.given) most set.tasks
    (given_each set.tasks most sound.rising le) in
    let few = tasks_few set tasks sound below in
    let all = mul-le (length set.tasks) most tasks most few (omega arith) in
    omega (arith, sum, all)
