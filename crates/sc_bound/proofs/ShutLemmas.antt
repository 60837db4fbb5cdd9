-- Where a task set hands out a partition no more.
use Rattle.std.proofs.Common.{◌≡◌, ℕ, zero, suc, ◌+◌, ◌-◌, ◌<◌, ◌≤◌, ◌&&◌, ◌||◌, not, All, Bool, true, false, if◌then◌else◌, List, [], ◌∷◌, length, nat_lt, take, Option, Some, None, option_map, slice_get, refl, ap, sym, subst, ◌∙◌, arith, rules, true≢false}
use Rattle.std.specs.List.{list_all, list_any}
use Rattle.std.proofs.lemmas.Bool.Decides.{nat_tests}
use Rattle.std.proofs.lemmas.List.Elements.{All-head, All-tail}
use Rattle.std.proofs.lemmas.Option.{slice_get_past, slice_get_within}
use Rattle.sc_base.specs.Lists.{numbers_below}
use Rattle.sc_ids.specs.declared.attempts.AttemptId.{AttemptId}
use Rattle.sc_taskset.specs.Lookups.{are_finished, is_finish, is_finished, is_there_and, task_at}
use Rattle.sc_taskset.specs.Reports.{after_success}
use Rattle.sc_taskset.specs.TaskSetData.{TaskData, TaskSetData}
use Rattle.sc_dag.specs.DagData.{DagData, StageState, changed_newest, newest_at, set_in, stage_at, with_state}
use Rattle.sc_dag.specs.Offers.{newest_number, number_in}
use Rattle.sc_dag.specs.Outputs.{is_complete, is_done_by, results_in}
use Rattle.sc_dag.specs.Reports.{is_of_newest, is_repeat, set_of, succeeded_in_own, wants_in}
use Rattle.sc_dag.specs.Sound.{IsSetOf, IsSoundDag, attempts_in, runner_in, runner_of}
use Rattle.sc_dag.specs.declared.attempts.StageAttempt.{StageAttempt}
use Rattle.sc_dag.proofs.Finishes.{finished_unwanted, success_own}
use Rattle.sc_dag.proofs.Moving.{newest_among}
use Rattle.sc_dag.proofs.Runners.{place_newest, wanted_within}
use Rattle.sc_dag.proofs.Stuck.{newest_holds, unfinished_task}
use Rattle.sc_dag.proofs.Tests.{any_below, clash, not_true}
use Rattle.sc_bound.specs.Numbered.{set_at, set_numbered}
use Rattle.sc_bound.specs.Sets.{is_open, is_wanted_task}
use Rattle.sc_bound.proofs.SetLemmas.{older_shut, success_fewer}
use Rattle.sc_bound.proofs.SlotLemmas.{set_newest, set_own}

-- what was shut stays so
pub still_shut : (x y : Bool) → (y ≡ true → x ≡ true) → x ≡ false → y ≡ false
still_shut x true h e = absurd (clash (h refl) e)
still_shut x false h e = refl

-- a zombie hands out nothing, and nobody what isn't wanted
pub zombie_shut : (set : TaskSetData) (p : ℕ) → set.is_zombie ≡ true
    → is_open (Some set) p ≡ false
zombie_shut set p e = rw e refl

pub unwanted_shut : (o : Option TaskSetData) (p : ℕ) → wants_in o p ≡ false → is_open o p ≡ false
unwanted_shut None p e = refl
unwanted_shut (Some set) p e = by (task_at p set.tasks) e (not set.is_zombie)
  where
    none : (b : Bool) → (b && false) ≡ false
    none true = refl
    none false = refl

    by : (o : Option TaskData) → is_there_and (λ t. not (is_finished t)) o ≡ false → (z : Bool)
        → (z && is_wanted_task o) ≡ false
    by None h z = none z
    by (Some t) h z = rw h (none z)

-- a success finishes its partition in its own set
pub own_shut : (d : DagData) (a : AttemptId) (exec now : ℕ) → runner_of d a ≡ Some exec
    → is_open (set_at (succeeded_in_own d a now) a.stage a.stage_attempt) a.partition ≡ false
own_shut d a exec now runs =
    ap (λ o. is_open o a.partition)
    (set_own d a (λ set. after_success set a.partition (Some a.nth) now))
    ∙ by (set_of d a) runs
  where
    one : (set : TaskSetData) → runner_in (Some set) a ≡ Some exec → (w : Bool)
        → wants_in (Some set) a.partition ≡ w
        → is_open (Some (after_success set a.partition (Some a.nth) now)) a.partition ≡ false
    one set r true w =
        unwanted_shut (Some (after_success set a.partition (Some a.nth) now)) a.partition
        (finished_unwanted (after_success set a.partition (Some a.nth) now) a.partition
        (ap is_finish (success_own set a exec now w r)))
    one set r false w =
        still_shut (is_open (Some set) a.partition)
        (is_open (Some (after_success set a.partition (Some a.nth) now)) a.partition)
        (success_fewer set a.partition (Some a.nth) now a.partition).opens_none
        (unwanted_shut (Some set) a.partition w)

    by : (o : Option TaskSetData) → runner_in o a ≡ Some exec
        → is_open (option_map (λ set. after_success set a.partition (Some a.nth) now) o) a.partition
        ≡ false
    by None r = refl
    by (Some set) r = one set r (wants_in (Some set) a.partition) refl

-- and in the newest one
pub newest_shut : (d : DagData) (s p now k : ℕ) → k ≡ newest_number d s
    → is_open (set_at (with_state d s (changed_newest (λ set. after_success set p None now))) s k) p
    ≡ false
newest_shut d s p now k e =
    ap (λ o. is_open o p) (set_newest d s (λ set. after_success set p None now) k e)
    ∙ by (set_at d s k)
  where
    by : (o : Option TaskSetData)
        → is_open (option_map (λ set. after_success set p None now) o) p ≡ false
    by None = refl
    by (Some set) = older_shut set p now

-- ---- sets by their numbers

-- the set of the newest number is the newest one
pub newest_is : (d : DagData) (s k : ℕ) → k ≡ newest_number d s → set_at d s k ≡ newest_at d s
newest_is d s k e = ap (λ (n : ℕ). set_at d s n) e ∙ by (slice_get d.states s)
  where
    by : (o : Option StageState) → set_numbered o (number_in o) ≡ newest_among o
    by None = refl
    by (Some state) =
        ap (λ (i : ℕ). set_in (slice_get state.attempts i))
        (place_newest state (state.before + (length state.attempts - 1)) refl)

-- what holds of the first attempts
taken : (P : StageAttempt → Type 0) (xs : List StageAttempt) (n i : ℕ) (x : StageAttempt)
    → All P (take n xs) → slice_get xs i ≡ Some x → i < n → P x
taken P [] n i x all at lt = absurd (search (rules, at))
taken P (y ∷ ys) zero i x all at lt = absurd (omega (arith, lt))
taken P (y ∷ ys) (suc n) zero x all at lt =
    let same : y ≡ x = search (rules, at) in subst P same (All-head P y (take n ys) all)
taken P (y ∷ ys) (suc n) (suc i) x all at lt =
    taken P ys n i x (All-tail P y (take n ys) all) at (omega (arith, lt))

-- one of another number is a zombie, and its number is smaller
pub older_dead : (d : DagData) (s k : ℕ) (set : TaskSetData) → IsSoundDag d
    → set_at d s k ≡ Some set → (k ≡ newest_number d s → ⊥)
    → (set.is_zombie ≡ true) × (k < newest_number d s)
older_dead d s k set sound at ne = by (slice_get d.states s) at ne (sound.older s)
  where
    state_of : (state : StageState)
        → All (λ a. a.set.is_zombie ≡ true) (take (length state.attempts - 1) state.attempts)
        → (x : Bool) → nat_lt k state.before ≡ x
        → set_in (slice_get state.attempts
        (if x then length state.attempts else k - state.before)) ≡ Some set
        → (k ≡ state.before + (length state.attempts - 1) → ⊥)
        → (set.is_zombie ≡ true) × (k < state.before + (length state.attempts - 1))
    state_of state all true e h other =
        let past : slice_get state.attempts (length state.attempts) ≡ None =
        slice_get_past state.attempts (length state.attempts) (omega arith) in
        absurd (search (rules, sym (ap set_in past) ∙ h))
    state_of state all false e h other =
        one (slice_get state.attempts (k - state.before)) refl h
      where
        above : state.before ≤ k
        above = grind (arith, nat_tests, e)

        one : (o : Option StageAttempt) → slice_get state.attempts (k - state.before) ≡ o
            → set_in o ≡ Some set
            → (set.is_zombie ≡ true) × (k < state.before + (length state.attempts - 1))
        one None f g = absurd (search (rules, g))
        one (Some x) f g =
            let same : x.set ≡ set = search (rules, g) in
            let within = slice_get_within state.attempts (k - state.before) x f in
            let up = above in
            let lt : k - state.before < length state.attempts - 1 =
            order (k - state.before) (length state.attempts) within
            (λ is. other (omega (arith, is, up, within))) in (
              ap (λ (y : TaskSetData). y.is_zombie) (sym same)
                  ∙ taken (λ a. a.set.is_zombie ≡ true) state.attempts
                  (length state.attempts - 1) (k - state.before) x all f lt,
              omega (arith, lt, up),
            )
          where
            order : (i l : ℕ) → i < l → (i ≡ l - 1 → ⊥) → i < l - 1
            order i l lt h = grind (arith, nat_tests, lt, h)

    by : (o : Option StageState) → set_numbered o k ≡ Some set → (k ≡ number_in o → ⊥)
        → All (λ a. a.set.is_zombie ≡ true)
        (take (length (attempts_in o) - 1) (attempts_in o))
        → (set.is_zombie ≡ true) × (k < number_in o)
    by None h other all = absurd (search (rules, h))
    by (Some state) h other all = state_of state all (nat_lt k state.before) refl h other

-- a repeated success is of a partition that its own set hands out no more
pub repeat_shut : (d : DagData) (a : AttemptId) → IsSoundDag d → is_repeat d a ≡ true
    → is_open (set_at d a.stage a.stage_attempt) a.partition ≡ false
repeat_shut d a sound repeats =
    by (is_of_newest d a) refl (set_at d a.stage a.stage_attempt) refl
  where
    unwanted : wants_in (newest_at d a.stage) a.partition ≡ false
    unwanted = not_true (wants_in (newest_at d a.stage) a.partition) repeats

    by : (b : Bool) → is_of_newest d a ≡ b → (o : Option TaskSetData)
        → set_at d a.stage a.stage_attempt ≡ o
        → is_open (set_at d a.stage a.stage_attempt) a.partition ≡ false
    by true e o f =
        let is : a.stage_attempt ≡ newest_number d a.stage = grind (arith, nat_tests, e) in
        ap (λ x. is_open x a.partition) (newest_is d a.stage a.stage_attempt is)
        ∙ unwanted_shut (newest_at d a.stage) a.partition unwanted
    by false e None f = ap (λ x. is_open x a.partition) f
    by false e (Some set) f =
        ap (λ x. is_open x a.partition) f
        ∙ zombie_shut set a.partition
        (older_dead d a.stage a.stage_attempt set sound f
        (λ is. grind (arith, nat_tests, e, is))).0

-- a stage whose newest set is live isn't complete
pub live_lacks : (d : DagData) (s : ℕ) (set : TaskSetData) → IsSoundDag d
    → newest_at d s ≡ Some set → set.is_zombie ≡ false → is_complete d s ≡ false
live_lacks d s set sound newest live = by (is_complete d s) refl
  where
    of : IsSetOf (stage_at d s) set
    of =
        newest_holds (IsSetOf (stage_at d s)) (slice_get d.states s) set
        (λ i x l. (sound.attempts s i x l).set) newest

    some : are_finished set.tasks ≡ false
    some = one (are_finished set.tasks) refl
      where
        one : (b : Bool) → are_finished set.tasks ≡ b → b ≡ false
        one false e = refl
        one true e = absurd (clash (of.sound.ends e) live)

    -- what passes on all numbers does on each
    all_done : (p tasks : ℕ) (test : ℕ → Bool) → p < tasks
        → list_all test (numbers_below tasks) ≡ true → test p ≡ true
    all_done p tasks test lt all = one (test p) refl
      where
        none : (xs : List ℕ) → list_all test xs ≡ true
            → list_any (λ q. not (test q)) xs ≡ true → ⊥
        none [] h k = true≢false (sym k)
        none (x ∷ xs) h k = two (test x) h k (none xs)
          where
            two : (b : Bool) → (b && list_all test xs) ≡ true
                → (not b || list_any (λ q. not (test q)) xs) ≡ true
                → (list_all test xs ≡ true → list_any (λ q. not (test q)) xs ≡ true → ⊥) → ⊥
            two true i j rest = rest i j
            two false i j rest = true≢false (sym i)

        one : (b : Bool) → test p ≡ b → b ≡ true
        one true e = refl
        one false e =
            absurd (none (numbers_below tasks) all
            (any_below (λ q. not (test q)) tasks p lt (ap not e)))

    by : (b : Bool) → is_complete d s ≡ b → b ≡ false
    by false e = refl
    by true e =
        let t = unfinished_task set.tasks of.sound.rising some in
        let wants : wants_in (Some set) t.0.partition ≡ true = rw t.1 (ap not t.2) in
        let wanted : wants_in (newest_at d s) t.0.partition ≡ true =
        ap (λ o. wants_in o t.0.partition) newest ∙ wants in
        let within = wanted_within (stage_at d s) set t.0.partition of wants in
        absurd (clash
        (all_done t.0.partition (stage_at d s).tasks
        (is_done_by d.tracker (stage_at d s).target (results_in (slice_get d.states s))) within e)
        (sound.wanted s t.0.partition wanted))
