-- What a set may hand out of a partition before anything is told is no more than it needs.
use Rattle.std.proofs.Common.{◌≡◌, ℕ, ◌+◌, ◌-◌, ◌≤◌, ◌&&◌, not, Bool, true, false, if◌then◌else◌, List, [], ◌∷◌, length, Option, Some, None, refl, ap, arith, rules}
use Rattle.sc_taskset.specs.Accounting.{is_single, left_in}
use Rattle.sc_taskset.specs.Lookups.{is_finished, is_idle, task_at}
use Rattle.sc_taskset.specs.Offers.{given_of}
use Rattle.sc_taskset.specs.TaskSetData.{TaskData}
use Rattle.sc_taskset.specs.declared.tasks.RunningCopy.{RunningCopy}
use Rattle.sc_dag.proofs.Tests.{both_left}
use Rattle.sc_core.specs.declared.running.Running.{Running}
use Rattle.sc_core.proofs.LawLemmas.{replays_keep_sound}
use Rattle.sc_history.specs.Evidence.{is_of_task}
use Rattle.sc_bound.specs.Accounts.{LeftIsBounded, LeftIsNeeded, account_in, account_of, need_of, running_for, runs_for}
use Rattle.sc_bound.specs.Sets.{is_wanted_task}
use Rattle.sc_bound.proofs.EventSteps.{accounts_are_kept}
use Rattle.sc_bound.proofs.OlderLemmas.{running_few}

-- an idle task has no attempt that runs, and one with a single attempt has one
idle_none : (copies : List RunningCopy) → is_idle copies ≡ true → length copies ≤ 0
idle_none [] e = omega arith
idle_none (c ∷ copies) e = absurd (search (rules, e))

single_one : (copies : List RunningCopy) → is_single copies ≡ true → length copies ≤ 1
single_one [] e = omega arith
single_one (c ∷ []) e = omega arith
single_one (c ∷ d ∷ copies) e = absurd (search (rules, e))

-- what is left of a task, where no more of its attempts run than it knows
left_needed : (t : TaskData) (n : ℕ) → n ≤ length t.copies
    → left_in (Some t) ≤ (if is_wanted_task (Some t) then 2 - n else 0)
left_needed t n few =
    by (is_finished t) (is_idle t.copies) refl (is_single t.copies) refl t.denied
  where
    by : (finished idle : Bool) → is_idle t.copies ≡ idle → (single : Bool)
        → is_single t.copies ≡ single → (denied : Bool)
        → (if not finished && (idle && not denied) then 2 else
        if not finished && (single && not denied) then 1 else 0)
        ≤ (if not finished && not denied then 2 - n else 0)
    by true idle e single f denied = omega arith
    by false true e true f true = omega arith
    by false true e false f true = omega arith
    by false false e true f true = omega arith
    by false false e false f true = omega arith
    by false true e single f false =
        let none = idle_none t.copies e in omega (arith, none, few)
    by false false e true f false =
        let one = single_one t.copies f in omega (arith, one, few)
    by false false e false f false = omega arith

pub left_is_needed : LeftIsNeeded
left_is_needed c s k p set sound is_set =
    rw is_set (by set.is_zombie (task_at p set.tasks) refl)
  where
    is_one : (r : Running) → runs_for s k p r ≡ true → is_of_task s k p r.hand_out.attempt ≡ true
    is_one r e = both_left (is_of_task s k p r.hand_out.attempt) _ e

    by : (b : Bool) (o : Option TaskData) → task_at p set.tasks ≡ o
        → (if b then 0 else left_in o)
        ≤ (if not b && is_wanted_task o then 2 - running_for c s k p else 0)
    by true o e = omega arith
    by false None e = omega arith
    by false (Some t) e =
        left_needed t (running_for c s k p)
        (running_few c (runs_for s k p) s k p set t sound is_one is_set e)

pub left_is_bounded : LeftIsBounded
left_is_bounded graph limits saves plan last opening end entries s k p set o sound replays is_set =
    let kept =
    accounts_are_kept graph limits saves plan last opening end entries s k p o sound replays in
    let here : account_of end s k p ≡ given_of set p + need_of end s k p =
    ap (λ q. account_in q p (need_of end s k p)) is_set in
    let less =
    left_is_needed end s k p set (replays_keep_sound opening end entries sound replays) is_set in
    omega (arith, kept, here, less)
