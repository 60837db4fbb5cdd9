-- How many tasks a set has handed out, by how often it has handed out each partition.
use Rattle.std.proofs.Common.{◌≡◌, ℕ, zero, suc, ◌+◌, ◌<◌, ◌==◌, All, Bool, true, false, cond, if◌then◌else◌, List, [], ◌∷◌, nat_lt, Some, refl, arith}
use Rattle.std.specs.List.{sum_by}
use Rattle.std.proofs.lemmas.Bool.Decides.{nat_tests}
use Rattle.std.proofs.lemmas.List.Elements.{All-head, All-tail}
use Rattle.std.proofs.lemmas.List.Sums.{sum_by-cons}
use Rattle.sc_taskset.specs.Lookups.{task_at}
use Rattle.sc_taskset.specs.Offers.{given_in}
use Rattle.sc_taskset.specs.Sound.{AreRising}
use Rattle.sc_taskset.specs.TaskSetData.{TaskData}
use Rattle.sc_taskset.proofs.FindLemmas.{pairs_head, pairs_tail}
use Rattle.sc_bound.proofs.PartLemmas.{below_none, parts}

-- how often the partitions below a number were handed out, in all
parts_given : List TaskData → ℕ → ℕ
parts_given tasks zero = 0
parts_given tasks (suc n) = given_in (task_at n tasks) + parts_given tasks n

-- the first task alone adds to what the others make
parts_more : (t : TaskData) (ts : List TaskData) (n : ℕ) → All (λ q. t.partition < q) (parts ts)
    → parts_given (t ∷ ts) n
    ≡ (if nat_lt t.partition n then t.given else 0) + parts_given ts n
unfolding parts_given
parts_more t ts zero above =
    let none : nat_lt t.partition 0 ≡ false = grind (arith, nat_tests) in rw none refl
parts_more t ts (suc n) above = by (t.partition == n) refl (parts_more t ts n above)
  where
    by : (b : Bool) → (t.partition == n) ≡ b
        → parts_given (t ∷ ts) n
        ≡ (if nat_lt t.partition n then t.given else 0) + parts_given ts n
        → given_in (cond b (Some t) (task_at n ts)) + parts_given (t ∷ ts) n
        ≡ (if nat_lt t.partition (suc n) then t.given else 0)
        + (given_in (task_at n ts) + parts_given ts n)
    by true e rest =
        let is : t.partition ≡ n = grind (arith, nat_tests, e) in
        let now : nat_lt t.partition (suc n) ≡ true = grind (arith, nat_tests, is) in
        let before : nat_lt t.partition n ≡ false = grind (arith, nat_tests, is) in
        let none = below_none ts n
        (λ i d l. (let lt = above i d l in omega (arith, lt, is))) in
        let first : parts_given (t ∷ ts) n ≡ 0 + parts_given ts n = rw before at rest in
        rw now (omega (arith, none, first))
    by false e rest = which (nat_lt t.partition n) refl rest
      where
        which : (x : Bool) → nat_lt t.partition n ≡ x
            → parts_given (t ∷ ts) n ≡ (if x then t.given else 0) + parts_given ts n
            → given_in (task_at n ts) + parts_given (t ∷ ts) n
            ≡ (if nat_lt t.partition (suc n) then t.given else 0)
            + (given_in (task_at n ts) + parts_given ts n)
        which true f h =
            let now : nat_lt t.partition (suc n) ≡ true = grind (arith, nat_tests, f) in
            rw now (omega (arith, h))
        which false f h =
            let now : nat_lt t.partition (suc n) ≡ false = grind (arith, nat_tests, e, f) in
            rw now (omega (arith, h))

none_given : (n : ℕ) → parts_given [] n ≡ 0
unfolding parts_given
none_given zero = refl
none_given (suc n) = let rest = none_given n in omega (arith, rest)

-- so rising partitions make as much as the tasks
parts_all : (tasks : List TaskData) (n : ℕ) → AreRising (parts tasks)
    → All (λ t. t.partition < n) tasks → parts_given tasks n ≡ sum_by (λ t. t.given) tasks
parts_all [] n rising below = none_given n
parts_all (t ∷ ts) n rising below =
    let first = All-head (λ (u : TaskData). u.partition < n) t ts below in
    let here : nat_lt t.partition n ≡ true = grind (arith, nat_tests, first) in
    let more : parts_given (t ∷ ts) n ≡ t.given + parts_given ts n =
    rw here at (parts_more t ts n (pairs_head (λ p q. p < q) t.partition (parts ts) rising)) in
    let rest = parts_all ts n (pairs_tail (λ p q. p < q) t.partition (parts ts) rising)
    (All-tail (λ u. u.partition < n) t ts below) in
    let all = sum_by-cons (λ (u : TaskData). u.given) t ts in
    omega (arith, more, rest, all)

parts_same : (xs ys : List TaskData) (n : ℕ)
    → ((p : ℕ) → given_in (task_at p ys) ≡ given_in (task_at p xs))
    → parts_given ys n ≡ parts_given xs n
unfolding parts_given
parts_same xs ys zero same = refl
parts_same xs ys (suc n) same =
    let here = same n in
    let rest = parts_same xs ys n same in
    omega (arith, here, rest)

-- Two sets of which each partition was handed out as often have handed out as much.
pub sums_same : (xs ys : List TaskData) (n : ℕ) → AreRising (parts xs) → AreRising (parts ys)
    → All (λ t. t.partition < n) xs → All (λ t. t.partition < n) ys
    → ((p : ℕ) → given_in (task_at p ys) ≡ given_in (task_at p xs))
    → sum_by (λ t. t.given) ys ≡ sum_by (λ t. t.given) xs
sums_same xs ys n a b below within same =
    let x = parts_all xs n a below in
    let y = parts_all ys n b within in
    let is = parts_same xs ys n same in
    omega (arith, x, y, is)
