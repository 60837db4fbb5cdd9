-- How many attempts of a partition run in sets that are older than one of its stage.
use Rattle.std.proofs.Common.{◌≡◌, ◌≢◌, ◌⊎◌, inl, inr, ℕ, zero, suc, ◌+◌, ◌*◌, ◌<◌, ◌≤◌, ◌==◌, ◌&&◌, All, Bool, true, false, cond, List, [], ◌∷◌, get_or, length, nat_lt, Option, Some, None, is_some, count_by, slice_get, refl, ap, sym, subst, ◌∙◌, arith, rules}
use Rattle.std.proofs.lemmas.Bool.Decides.{nat_tests}
use Rattle.std.proofs.lemmas.List.Elements.{All-head, All-tail, All-weaker}
use Rattle.sc_ids.specs.declared.attempts.AttemptId.{AttemptId}
use Rattle.sc_taskset.specs.Lookups.{copy_at, task_at}
use Rattle.sc_taskset.specs.Sound.{AreApart, IsSoundTask}
use Rattle.sc_taskset.specs.TaskSetData.{TaskData, TaskSetData}
use Rattle.sc_taskset.specs.declared.tasks.RunningCopy.{RunningCopy}
use Rattle.sc_taskset.proofs.FindLemmas.{found_is}
use Rattle.sc_dag.specs.DagData.{DagData, StageState, set_in, stage_at}
use Rattle.sc_dag.specs.Reports.{set_of}
use Rattle.sc_dag.specs.Sound.{IsSetOf, IsSoundDag, attempts_in, runner_among, runner_in}
use Rattle.sc_dag.specs.declared.attempts.StageAttempt.{StageAttempt}
use Rattle.sc_core.specs.CoreData.{CoreData}
use Rattle.sc_core.specs.Sound.{AreTwo, IsSoundCore, RunsWell}
use Rattle.sc_core.specs.declared.running.Running.{Running}
use Rattle.sc_history.specs.Evidence.{is_of_task}
use Rattle.sc_bound.specs.Numbered.{set_at, set_numbered}
use Rattle.sc_bound.proofs.CountLemmas.{count_copies, count_none, count_sum}
use Rattle.sc_bound.proofs.ReportLemmas.{runs_there}

-- ---- the set of a number

pub all_at : {A : Type 0} (P : A → Type 0) (xs : List A) (i : ℕ) (x : A) → All P xs
    → slice_get xs i ≡ Some x → P x
all_at P [] i x all at = absurd (search (rules, at))
all_at P (y ∷ ys) zero x all at =
    let same : y ≡ x = search (rules, at) in subst P same (All-head P y ys all)
all_at P (y ∷ ys) (suc i) x all at = all_at P ys i x (All-tail P y ys all) at

-- what holds of all sets of a stage holds of it
set_holds : (P : TaskSetData → Type 0) (o : Option StageState) (k : ℕ) (set : TaskSetData)
    → All (λ a. P a.set) (attempts_in o) → set_numbered o k ≡ Some set → P set
set_holds P None k set all at = absurd (search (rules, at))
set_holds P (Some state) k set all at = by _ at
  where
    one : (i : ℕ) (o : Option StageAttempt) → slice_get state.attempts i ≡ o
        → set_in o ≡ Some set → P set
    one i None e h = absurd (search (rules, h))
    one i (Some x) e h =
        let same : x.set ≡ set = search (rules, h) in
        subst P same (all_at (λ a. P a.set) state.attempts i x all e)

    by : (i : ℕ) → set_in (slice_get state.attempts i) ≡ Some set → P set
    by i h = one i (slice_get state.attempts i) refl h

pub set_sound : (d : DagData) (s k : ℕ) (set : TaskSetData) → IsSoundDag d
    → set_at d s k ≡ Some set → IsSetOf (stage_at d s) set
set_sound d s k set sound at =
    set_holds (IsSetOf (stage_at d s)) (slice_get d.states s) k set
    (λ i x l. (sound.attempts s i x l).set) at

-- ---- what runs of one set

-- no more attempts of a partition run than its task knows
pub running_few : (c : CoreData) (test : Running → Bool) (s k p : ℕ) (set : TaskSetData)
    (task : TaskData) → IsSoundCore c
    → ((r : Running) → test r ≡ true → is_of_task s k p r.hand_out.attempt ≡ true)
    → set_at c.dag s k ≡ Some set → task_at p set.tasks ≡ Some task
    → count_by test c.running ≤ length task.copies
running_few c test s k p set task sound of at there =
    count_copies test c.running task.copies
    (All-weaker (RunsWell c)
    (λ r. test r ≡ true → copy_at r.hand_out.attempt.nth task.copies ≢ None) found
    c.running sound.job.running)
    (λ i j d lt l. apart (get_or c.running i d) (get_or c.running j d)
    (sound.job.apart i j d lt l))
  where
    found : (r : Running) → RunsWell c r → test r ≡ true
        → copy_at r.hand_out.attempt.nth task.copies ≢ None
    found r well e none =
        let is = of r e in
        let stage : r.hand_out.attempt.stage ≡ s = grind (arith, nat_tests, is) in
        let number : r.hand_out.attempt.stage_attempt ≡ k = grind (arith, nat_tests, is) in
        let part : r.hand_out.attempt.partition ≡ p = grind (arith, nat_tests, is) in
        let own : set_of c.dag r.hand_out.attempt ≡ Some set =
        subst (λ (n : ℕ). set_at c.dag n r.hand_out.attempt.stage_attempt ≡ Some set) (sym stage)
        (subst (λ (n : ℕ). set_at c.dag s n ≡ Some set) (sym number) at) in
        let task_is : task_at r.hand_out.attempt.partition set.tasks ≡ Some task =
        ap (λ (n : ℕ). task_at n set.tasks) part ∙ there in
        let runs : runner_among (Some task) r.hand_out.attempt.nth ≡ Some r.exec =
        ap (λ o. runner_among o r.hand_out.attempt.nth) (sym task_is)
        ∙ ap (λ o. runner_in o r.hand_out.attempt) (sym own) ∙ well.in_set in
        absurd (search (rules, runs, none))

    apart : (q r : Running) → AreTwo q r → test q ≡ true → test r ≡ true
        → q.hand_out.attempt.nth ≢ r.hand_out.attempt.nth
    apart q r two e f same =
        let is = of q e in
        let is_too = of r f in
        let differ = two.attempts in
        absurd (grind (arith, nat_tests, is, is_too, differ, same))

-- an attempt is of this task
abbrev runs_in : ℕ → ℕ → ℕ → Running → Bool
runs_in s k p r = is_of_task s k p r.hand_out.attempt

few_copies : (copies : List RunningCopy) → AreApart copies → length copies ≤ 2
few_copies [] h = omega arith
few_copies (c ∷ []) h = omega arith
few_copies (c ∷ d ∷ []) h = omega arith
few_copies (c ∷ d ∷ e ∷ copies) h = absurd h

-- so two of them at most
two_run : (c : CoreData) (s k p : ℕ) → IsSoundCore c → count_by (runs_in s k p) c.running ≤ 2
two_run c s k p sound = by (set_at c.dag s k) refl
  where
    nobody : ((r : Running) → RunsWell c r → runs_in s k p r ≡ true → ⊥)
        → count_by (runs_in s k p) c.running ≤ 2
    nobody none =
        let zero = count_none (runs_in s k p) c.running
        (All-weaker (RunsWell c) (λ r. runs_in s k p r ≡ false)
        (λ r well. not_so r well (runs_in s k p r) refl) c.running sound.job.running) in
        omega (arith, zero)
      where
        not_so : (r : Running) → RunsWell c r → (b : Bool) → runs_in s k p r ≡ b
            → runs_in s k p r ≡ false
        not_so r well false e = e
        not_so r well true e = absurd (none r well e)

    own : (r : Running) → runs_in s k p r ≡ true
        → set_of c.dag r.hand_out.attempt ≡ set_at c.dag s k
    own r e =
        let stage : r.hand_out.attempt.stage ≡ s = grind (arith, nat_tests, e) in
        let number : r.hand_out.attempt.stage_attempt ≡ k = grind (arith, nat_tests, e) in
        ap (λ (n : ℕ). set_at c.dag n r.hand_out.attempt.stage_attempt) stage
        ∙ ap (λ (n : ℕ). set_at c.dag s n) number

    task : (set : TaskSetData) → set_at c.dag s k ≡ Some set → (o : Option TaskData)
        → task_at p set.tasks ≡ o → count_by (runs_in s k p) c.running ≤ 2
    task set e None f = nobody gone
      where
        gone : (r : Running) → RunsWell c r → runs_in s k p r ≡ true → ⊥
        gone r well g =
            let part : r.hand_out.attempt.partition ≡ p = grind (arith, nat_tests, g) in
            let none : runner_among None r.hand_out.attempt.nth ≡ Some r.exec =
            ap (λ o. runner_among o r.hand_out.attempt.nth)
            (sym (ap (λ (n : ℕ). task_at n set.tasks) part ∙ f))
            ∙ ap (λ o. runner_in o r.hand_out.attempt) (sym (own r g ∙ e)) ∙ well.in_set in
            absurd (search (rules, none))
    task set e (Some t) f =
        let few = running_few c (runs_in s k p) s k p set t sound (λ r h. h) e f in
        let sound_task : IsSoundTask t =
        found_is IsSoundTask (λ u. u.partition == p) set.tasks t
        (set_sound c.dag s k set sound.job.dag e).sound.tasks f in
        let two = few_copies t.copies sound_task.apart in
        omega (arith, few, two)

    by : (o : Option TaskSetData) → set_at c.dag s k ≡ o
        → count_by (runs_in s k p) c.running ≤ 2
    by None e = nobody gone
      where
        gone : (r : Running) → RunsWell c r → runs_in s k p r ≡ true → ⊥
        gone r well g =
            let none : runner_in None r.hand_out.attempt ≡ Some r.exec =
            ap (λ o. runner_in o r.hand_out.attempt) (sym (own r g ∙ e)) ∙ well.in_set in
            absurd (search (rules, none))
    by (Some set) e = task set e (task_at p set.tasks) refl

-- ---- what runs of the older ones

-- an attempt is of this partition, in a set that is older than that of a number
abbrev pub is_older : ℕ → ℕ → ℕ → AttemptId → Bool
is_older s k p a = ((a.stage == s) && (a.partition == p)) && nat_lt a.stage_attempt k

abbrev pub runs_older : ℕ → ℕ → ℕ → Running → Bool
runs_older s k p r = is_older s k p r.hand_out.attempt

abbrev pub older_running : CoreData → ℕ → ℕ → ℕ → ℕ
older_running c s k p = count_by (runs_older s k p) c.running

-- those of one more set
older_next : (s k p : ℕ) (rs : List Running)
    → count_by (runs_older s (suc k) p) rs
    ≤ count_by (runs_older s k p) rs + count_by (runs_in s k p) rs
older_next s k p rs =
    count_sum (runs_older s (suc k) p) (runs_older s k p) (runs_in s k p) rs
    (λ r. each r.hand_out.attempt)
  where
    by : (x y u v w : Bool) → (u ≡ true → (v ≡ true) ⊎ (w ≡ true))
        → cond ((x && y) && u) 1 0 ≤ cond ((x && y) && v) 1 0 + cond (x && (w && y)) 1 0
    by false y u v w h = omega arith
    by true false u v w h = omega arith
    by true true false v w h = omega arith
    by true true true v w h = which (h refl)
      where
        which : (v ≡ true) ⊎ (w ≡ true) → 1 ≤ cond v 1 0 + cond (w && true) 1 0
        which (inl e) = rw e (omega arith)
        which (inr e) = rw e (omega arith)

    each : (a : AttemptId)
        → cond (is_older s (suc k) p a) 1 0
        ≤ cond (is_older s k p a) 1 0 + cond (is_of_task s k p a) 1 0
    each a =
        by (a.stage == s) (a.partition == p) (nat_lt a.stage_attempt (suc k))
        (nat_lt a.stage_attempt k) (a.stage_attempt == k)
        (λ e. lower e (nat_lt a.stage_attempt k) refl)
      where
        lower : nat_lt a.stage_attempt (suc k) ≡ true → (b : Bool)
            → nat_lt a.stage_attempt k ≡ b
            → (nat_lt a.stage_attempt k ≡ true) ⊎ ((a.stage_attempt == k) ≡ true)
        lower e true f = inl f
        lower e false f =
            let same : (a.stage_attempt == k) ≡ true = grind (arith, nat_tests, e, f) in inr same

-- two of each set, where they begin at this number
pub older_few : (c : CoreData) (s p b n : ℕ) → IsSoundCore c
    → ((k : ℕ) → is_some (set_at c.dag s k) ≡ true → b ≤ k)
    → count_by (runs_older s (b + n) p) c.running ≤ 2 * n
older_few c s p b zero sound begin =
    let none = count_none (runs_older s (b + 0) p) c.running
    (All-weaker (RunsWell c) (λ r. runs_older s (b + 0) p r ≡ false) each c.running
    sound.job.running) in
    omega (arith, none)
  where
    each : (r : Running) → RunsWell c r → runs_older s (b + 0) p r ≡ false
    each r well = by (runs_older s (b + 0) p r) refl
      where
        by : (x : Bool) → runs_older s (b + 0) p r ≡ x → runs_older s (b + 0) p r ≡ false
        by false e = e
        by true e =
            let stage : r.hand_out.attempt.stage ≡ s = grind (arith, nat_tests, e) in
            let low : r.hand_out.attempt.stage_attempt < b + 0 = grind (arith, nat_tests, e) in
            let le = begin r.hand_out.attempt.stage_attempt
            (ap (λ (n : ℕ). is_some (set_at c.dag n r.hand_out.attempt.stage_attempt)) (sym stage)
            ∙ runs_there c.dag r.hand_out.attempt r.exec well.in_set) in
            absurd (omega (arith, low, le))
older_few c s p b (suc n) sound begin =
    let same : suc (b + n) ≡ b + suc n = omega arith in
    let next = older_next s (b + n) p c.running in
    let rest = older_few c s p b n sound begin in
    let two = two_run c s (b + n) p sound in
    subst (λ (k : ℕ). count_by (runs_older s k p) c.running ≤ 2 * suc n) same
    (omega (arith, next, rest, two))
