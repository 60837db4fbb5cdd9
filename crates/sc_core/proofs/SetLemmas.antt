-- Attempts that run in a task set, where one of its tasks is changed.
use Rattle.std.proofs.Common.{◌≡◌, ℕ, ◌<◌, ◌==◌, ◌&&◌, not, All, Bool, true, false, cond, if◌then◌else◌, List, [], ◌∷◌, ◌++◌, Option, Some, None, option_map, refl, ap, sym, subst, ◌∙◌, arith}
use Rattle.std.proofs.lemmas.Bool.Decides.{nat_tests}
use Rattle.std.proofs.lemmas.List.Elements.{All-head, All-tail}
use Rattle.sc_ids.specs.declared.attempts.AttemptId.{AttemptId}
use Rattle.sc_taskset.specs.Lookups.{copy_at, is_task_of, task_at, with_task, without_copy}
use Rattle.sc_taskset.specs.Offers.{running}
use Rattle.sc_taskset.specs.TaskSetData.{TaskData, TaskSetData}
use Rattle.sc_taskset.specs.declared.tasks.RunningCopy.{RunningCopy}
use Rattle.sc_taskset.proofs.ChangeLemmas.{find_changed, find_other}
use Rattle.sc_dag.specs.Sound.{runner_among, runner_in}
use Rattle.sc_core.specs.Sound.{given_among, given_in}

-- an attempt is of these numbers in its set
abbrev pub is_copy_of : AttemptId → AttemptId → Bool
is_copy_of a b = (a.partition == b.partition) && (a.nth == b.nth)

-- What a change of a set does: the attempts that pass a test run somewhere else then, or nowhere,
-- and all others as before.
pub record MovesIn (test : AttemptId → Bool) (new : Option ℕ) (old now : TaskSetData)
    : Type 0 where
  pub runners : (b : AttemptId)
      → runner_in (Some now) b ≡ (if test b then new else runner_in (Some old) b)
  -- what was handed out stays so
  pub given : (b : AttemptId) → given_in (Some old) b ≡ true → given_in (Some now) b ≡ true

abbrev pub nothing : AttemptId → Bool
nothing b = false

-- ---- running attempts by their numbers

abbrev pub exec_in : Option RunningCopy → Option ℕ
exec_in o = option_map (λ c. c.exec) o

abbrev is_same_option : (A : Type 0) → Option A → Option A → Type 0
is_same_option A x y = x ≡ y

none_if : (A : Type 0) (b : Bool) → is_same_option A None (if b then None else None)
none_if A true = refl
none_if A false = refl

-- an attempt taken away
find_without :
    (nth m : ℕ) (copies : List RunningCopy)
    → copy_at m (without_copy nth copies) ≡ (if nth == m then None else copy_at m copies)
find_without nth m [] = none_if RunningCopy (nth == m)
find_without nth m (c ∷ copies) =
    by (c.nth == nth) (c.nth == m) (nth == m) refl refl refl (find_without nth m copies)
  where
    by : (x y z : Bool) → (c.nth == nth) ≡ x → (c.nth == m) ≡ y → (nth == m) ≡ z
        → copy_at m (without_copy nth copies) ≡ (if z then None else copy_at m copies)
        → copy_at m (cond (not x) (c ∷ without_copy nth copies) (without_copy nth copies))
        ≡ (if z then None else (cond y (Some c) (copy_at m copies)))
    by true y true a b e h = h
    by true true false a b e h = absurd (grind (arith, nat_tests, a, b, e))
    by true false false a b e h = h
    by false true true a b e h = absurd (grind (arith, nat_tests, a, b, e))
    by false false true a b e h = rw b h
    by false true false a b e h = rw b refl
    by false false false a b e h = rw b h

-- one more attempt, of a number above all others
pub find_push :
    (given exec now m : ℕ) (copies : List RunningCopy) → All (λ c. c.nth < given) copies
    → exec_in (copy_at m (copies ++ running given exec now ∷ []))
    ≡ (if given == m then Some exec else exec_in (copy_at m copies))
find_push given exec now m [] all = by (given == m)
  where
    by : (b : Bool) → exec_in (cond b (Some (running given exec now)) None)
        ≡ (if b then Some exec else None)
    by true = refl
    by false = refl
find_push given exec now m (c ∷ copies) all =
    by (c.nth == m) (given == m) refl refl
    (find_push given exec now m copies (All-tail (λ d. d.nth < given) c copies all))
  where
    below : c.nth < given
    below = All-head (λ d. d.nth < given) c copies all

    by : (y z : Bool) → (c.nth == m) ≡ y → (given == m) ≡ z
        → exec_in (copy_at m (copies ++ running given exec now ∷ []))
        ≡ (if z then Some exec else exec_in (copy_at m copies))
        → exec_in (cond y (Some c) (copy_at m (copies ++ running given exec now ∷ [])))
        ≡ (if z then Some exec else exec_in (cond y (Some c) (copy_at m copies)))
    by true true a b h = absurd (grind (arith, nat_tests, a, b, below))
    by true false a b h = refl
    by false z a b h = h

-- ---- what was handed out

-- a change under which what was handed out stays so
abbrev pub KeepsGiven : (TaskData → TaskData) → Type 0
KeepsGiven f =
    (t : TaskData) (m : ℕ) → given_among (Some t) m ≡ true → given_among (Some (f t)) m ≡ true

given_task :
    (p : ℕ) (f : TaskData → TaskData) (tasks : List TaskData)
    → ((t : TaskData) → (f t).partition ≡ t.partition) → KeepsGiven f → (q m : ℕ)
    → given_among (task_at q tasks) m ≡ true
    → given_among (task_at q (with_task p f tasks)) m ≡ true
given_task p f tasks same keeps q m given = by (p == q) refl
  where
    one : (o : Option TaskData) → given_among o m ≡ true → given_among (option_map f o) m ≡ true
    one None h = h
    one (Some t) h = keeps t m h

    by : (x : Bool) → (p == q) ≡ x → given_among (task_at q (with_task p f tasks)) m ≡ true
    by true e =
        let is : p ≡ q = grind (arith, nat_tests, e) in
        ap (λ (r : ℕ). given_among (task_at r (with_task p f tasks)) m) (sym is)
        ∙ ap (λ o. given_among o m)
        (find_changed (is_task_of p) f (λ t. ap (λ (r : ℕ). r == p) (same t)) tasks)
        ∙ one (task_at p tasks) (ap (λ (r : ℕ). given_among (task_at r tasks) m) is ∙ given)
    by false e =
        ap (λ o. given_among o m)
        (find_other (is_task_of p) (is_task_of q) f
        (λ t h. (let is : t.partition ≡ p = grind (arith, nat_tests, h) in rw is e))
        (λ t h. (let is : t.partition ≡ p = grind (arith, nat_tests, h) in
        rw (same t, is) e))
        tasks)
        ∙ given

-- ---- a task changed

-- a task changed, where its change is told
pub changed_task :
    (a : AttemptId) (new : Option ℕ) (f : TaskData → TaskData) (old now : TaskSetData)
    → ((t : TaskData) → (f t).partition ≡ t.partition)
    → ((m : ℕ) → runner_among (option_map f (task_at a.partition old.tasks)) m
    ≡ (if a.nth == m then new else runner_among (task_at a.partition old.tasks) m))
    → KeepsGiven f → now.tasks ≡ with_task a.partition f old.tasks
    → MovesIn (is_copy_of a) new old now
changed_task a new f old now same told keeps is =
    record {
      runners = λ b. ap (λ tasks. runner_among (task_at b.partition tasks) b.nth) is
          ∙ by b (a.partition == b.partition) refl;
      given = λ b h. rw is (given_task a.partition f old.tasks same keeps b.partition b.nth h);
    }
  where
    at : task_at a.partition (with_task a.partition f old.tasks)
        ≡ option_map f (task_at a.partition old.tasks)
    at =
        find_changed (is_task_of a.partition) f (λ t. ap (λ (p : ℕ). p == a.partition) (same t))
        old.tasks

    by : (b : AttemptId) (x : Bool) → (a.partition == b.partition) ≡ x
        → runner_among (task_at b.partition (with_task a.partition f old.tasks)) b.nth
        ≡ (if x && (a.nth == b.nth) then new
        else runner_among (task_at b.partition old.tasks) b.nth)
    by b true e =
        let p : a.partition ≡ b.partition = grind (arith, nat_tests, e) in
        subst (λ (q : ℕ). runner_among (task_at q (with_task a.partition f old.tasks)) b.nth
        ≡ (if a.nth == b.nth then new else runner_among (task_at q old.tasks) b.nth)) p
        (ap (λ o. runner_among o b.nth) at ∙ told b.nth)
    by b false e =
        ap (λ o. runner_among o b.nth)
        (find_other (is_task_of a.partition) (is_task_of b.partition) f
        (λ t h. (let is : t.partition ≡ a.partition = grind (arith, nat_tests, h) in
        rw is e))
        (λ t h. (let is : t.partition ≡ a.partition = grind (arith, nat_tests, h) in
        rw (same t, is) e))
        old.tasks)

-- a change that leaves the attempts of a task as they are
pub calm_task :
    (p : ℕ) (f : TaskData → TaskData) (old now : TaskSetData)
    → ((t : TaskData) → (f t).partition ≡ t.partition)
    → ((t : TaskData) → (f t).copies ≡ t.copies) → KeepsGiven f
    → now.tasks ≡ with_task p f old.tasks
    → MovesIn nothing None old now
calm_task p f old now same copies keeps is =
    record {
      runners = λ b. ap (λ tasks. runner_among (task_at b.partition tasks) b.nth) is
          ∙ by b (p == b.partition) refl;
      given = λ b h. rw is (given_task p f old.tasks same keeps b.partition b.nth h);
    }
  where
    one : (o : Option TaskData) (m : ℕ) → runner_among (option_map f o) m ≡ runner_among o m
    one None m = refl
    one (Some t) m = ap (λ cs. exec_in (copy_at m cs)) (copies t)

    at : task_at p (with_task p f old.tasks) ≡ option_map f (task_at p old.tasks)
    at = find_changed (is_task_of p) f (λ t. ap (λ (q : ℕ). q == p) (same t)) old.tasks

    by : (b : AttemptId) (x : Bool) → (p == b.partition) ≡ x
        → runner_among (task_at b.partition (with_task p f old.tasks)) b.nth
        ≡ runner_among (task_at b.partition old.tasks) b.nth
    by b true e =
        let q : p ≡ b.partition = grind (arith, nat_tests, e) in
        subst (λ (q : ℕ). runner_among (task_at q (with_task p f old.tasks)) b.nth
        ≡ runner_among (task_at q old.tasks) b.nth) q
        (ap (λ o. runner_among o b.nth) at ∙ one (task_at p old.tasks) b.nth)
    by b false e =
        ap (λ o. runner_among o b.nth)
        (find_other (is_task_of p) (is_task_of b.partition) f
        (λ t h. (let is : t.partition ≡ p = grind (arith, nat_tests, h) in rw is e))
        (λ t h. (let is : t.partition ≡ p = grind (arith, nat_tests, h) in
        rw (same t, is) e))
        old.tasks)

-- an attempt that ends
pub ends_task :
    (a : AttemptId) (f : TaskData → TaskData) (old now : TaskSetData)
    → ((t : TaskData) → (f t).partition ≡ t.partition)
    → ((t : TaskData) → (f t).copies ≡ without_copy a.nth t.copies) → KeepsGiven f
    → now.tasks ≡ with_task a.partition f old.tasks
    → MovesIn (is_copy_of a) None old now
ends_task a f old now same copies keeps is =
    changed_task a None f old now same (λ m. by m (task_at a.partition old.tasks)) keeps is
  where
    exec_of : (b : Bool) (o : Option RunningCopy)
        → exec_in (if b then None else o) ≡ (if b then None else exec_in o)
    exec_of true o = refl
    exec_of false o = refl

    by : (m : ℕ) (o : Option TaskData) → runner_among (option_map f o) m
        ≡ (if a.nth == m then None else runner_among o m)
    by m None = none_if ℕ (a.nth == m)
    by m (Some t) =
        ap (λ cs. exec_in (copy_at m cs)) (copies t)
        ∙ ap exec_in (find_without a.nth m t.copies)
        ∙ exec_of (a.nth == m) (copy_at m t.copies)
