-- Tasks that are held back by flags of their partitions.
use Rattle.std.proofs.Common.{◌≡◌, ℕ, ◌+◌, ◌<◌, ◌==◌, ◌&&◌, Bool, true, false, cond, List, [], ◌∷◌, All, get_or, map, nat_lt, refl, ap, sym, subst, ◌∙◌, arith}
use Rattle.std.proofs.lemmas.Bool.Decides.{nat_tests}
use Rattle.std.proofs.lemmas.List.Elements.{All-head, All-tail}
use Rattle.sc_base.specs.Lists.{at_or}
use Rattle.sc_taskset.specs.Lookups.{with_task}
use Rattle.sc_taskset.specs.Reports.{after_held, held_task}
use Rattle.sc_taskset.specs.Sound.{AreRising}
use Rattle.sc_taskset.specs.TaskSetData.{TaskData, TaskSetData, with_tasks}
use Rattle.sc_dag.proofs.Items.{all_unmapped, pairs_head, pairs_tail}

-- tasks held back as a test of their partitions says
abbrev pub held_as : (ℕ → Bool) → List TaskData → List TaskData
held_as test tasks = map (λ t. held_task (test t.partition) t) tasks

-- tests that agree hold the same tasks back
pub held_alike :
    (f g : ℕ → Bool) (tasks : List TaskData) → All (λ t. f t.partition ≡ g t.partition) tasks
    → held_as f tasks ≡ held_as g tasks
held_alike f g [] same = refl
held_alike f g (t ∷ tasks) same =
    ap (λ b. held_task b t ∷ held_as f tasks)
    (All-head (λ s. f s.partition ≡ g s.partition) t tasks same)
    ∙ ap (λ ts. held_task (g t.partition) t ∷ ts)
    (held_alike f g tasks (All-tail (λ s. f s.partition ≡ g s.partition) t tasks same))

-- a test that nothing passes leaves tasks free that were
held_none :
    (f : ℕ → Bool) (tasks : List TaskData) → ((p : ℕ) → f p ≡ false)
    → All (λ t. t.denied ≡ false) tasks → held_as f tasks ≡ tasks
held_none f [] none free = refl
held_none f (t ∷ tasks) none free =
    ap (λ b. held_task b t ∷ held_as f tasks)
    (none t.partition ∙ sym (All-head (λ s. s.denied ≡ false) t tasks free))
    ∙ ap (λ ts. t ∷ ts)
    (held_none f tasks none (All-tail (λ s. s.denied ≡ false) t tasks free))

-- partitions above one are others
above_other : (q k : ℕ) → k < q → (q == k) ≡ false
above_other q k lt = grind (arith, nat_tests, lt)

-- one task more is held back, where partitions rise
pub held_one :
    (f : ℕ → Bool) (k : ℕ) (tasks : List TaskData) → AreRising (map (λ t. t.partition) tasks)
    → with_task k (held_task true) (held_as f tasks)
    ≡ held_as (λ p. cond (p == k) true (f p)) tasks
held_one f k [] rising = refl
held_one f k (t ∷ tasks) rising =
    by (t.partition == k) refl
    (held_one f k tasks
    (pairs_tail (λ p q. p < q) t.partition (map (λ s. s.partition) tasks) rising))
  where
    more : ℕ → Bool
    more p = cond (p == k) true (f p)

    above : All (λ s. t.partition < s.partition) tasks
    above = all_unmapped (λ q. t.partition < q) (λ s. s.partition) tasks
        (pairs_head (λ p q. p < q) t.partition (map (λ s. s.partition) tasks) rising)

    rest : t.partition ≡ k → held_as f tasks ≡ held_as more tasks
    rest is = held_alike f more tasks (λ i d l.
        other (get_or tasks i d).partition (subst (λ n. n < (get_or tasks i d).partition) is
        (above i d l)))
      where
        other : (q : ℕ) → k < q → f q ≡ more q
        other q lt = rw (above_other q k lt) refl

    by : (b : Bool) → (t.partition == k) ≡ b
        → with_task k (held_task true) (held_as f tasks) ≡ held_as more tasks
        → cond b (held_task true (held_task (f t.partition) t) ∷ held_as f tasks)
        (held_task (f t.partition) t ∷ with_task k (held_task true) (held_as f tasks))
        ≡ held_task (cond b true (f t.partition)) t ∷ held_as more tasks
    by true e h =
        ap (λ ts. held_task true t ∷ ts) (rest (grind (arith, nat_tests, e)))
    by false e h = ap (λ ts. held_task (f t.partition) t ∷ ts) h

-- ---- flags

-- the flags of the partitions below a bound
abbrev pub flags_below : List Bool → ℕ → ℕ → Bool
flags_below flags k p = nat_lt p k && at_or flags p false

abbrev pub held_below : List Bool → ℕ → TaskSetData → TaskSetData
held_below flags k set = with_tasks set (held_as (flags_below flags k) set.tasks)

-- below none nothing is held back
pub below_none :
    (flags : List Bool) (set : TaskSetData) → All (λ t. t.denied ≡ false) set.tasks
    → held_below flags 0 set ≡ set
below_none flags set free =
    ap (with_tasks set)
    (held_none (flags_below flags 0) set.tasks (λ p. none p (nat_lt p 0) refl) free)
  where
    none : (p : ℕ) (b : Bool) → nat_lt p 0 ≡ b → (b && at_or flags p false) ≡ false
    none p true e = absurd (grind (arith, nat_tests, e))
    none p false e = refl

-- one bound further
pub below_taken :
    (flags : List Bool) (k : ℕ) (set now after : TaskSetData)
    → AreRising (map (λ t. t.partition) set.tasks) → now ≡ held_below flags k set
    → at_or flags k false ≡ true → after ≡ after_held now k true
    → after ≡ held_below flags (k + 1) set
below_taken flags k set now after rising is flag held =
    held ∙ ap (λ s. after_held s k true) is
    ∙ ap (with_tasks set)
    (held_one (flags_below flags k) k set.tasks rising
    ∙ held_alike (λ p. cond (p == k) true (flags_below flags k p)) (flags_below flags (k + 1))
    set.tasks (λ i d l. same (get_or set.tasks i d).partition))
  where
    same : (p : ℕ) → cond (p == k) true (flags_below flags k p) ≡ flags_below flags (k + 1) p
    same p = by (p == k) refl
      where
        by : (b : Bool) → (p == k) ≡ b
            → cond b true (flags_below flags k p) ≡ flags_below flags (k + 1) p
        by true e =
            let is : p ≡ k = grind (arith, nat_tests, e) in
            let below : nat_lt p (k + 1) ≡ true = grind (arith, nat_tests, is) in
            rw below (sym (ap (λ n. at_or flags n false) is ∙ flag))
        by false e =
            let alike : nat_lt p k ≡ nat_lt p (k + 1) = grind (arith, nat_tests, e) in
            ap (λ b. b && at_or flags p false) alike

pub below_left :
    (flags : List Bool) (k : ℕ) (set now : TaskSetData) → now ≡ held_below flags k set
    → at_or flags k false ≡ false → now ≡ held_below flags (k + 1) set
below_left flags k set now is flag =
    is ∙ ap (with_tasks set)
    (held_alike (flags_below flags k) (flags_below flags (k + 1)) set.tasks
    (λ i d l. same (get_or set.tasks i d).partition))
  where
    same : (p : ℕ) → flags_below flags k p ≡ flags_below flags (k + 1) p
    same p = by (p == k) refl
      where
        by : (b : Bool) → (p == k) ≡ b → flags_below flags k p ≡ flags_below flags (k + 1) p
        by true e =
            let is : p ≡ k = grind (arith, nat_tests, e) in
            let below : nat_lt p (k + 1) ≡ true = grind (arith, nat_tests, is) in
            let none : nat_lt p k ≡ false = grind (arith, nat_tests, is) in
            rw (below, none) (sym (ap (λ n. at_or flags n false) is ∙ flag))
        by false e =
            let alike : nat_lt p k ≡ nat_lt p (k + 1) = grind (arith, nat_tests, e) in
            ap (λ b. b && at_or flags p false) alike

-- all partitions are below the bound in the end
pub below_all :
    (flags : List Bool) (k : ℕ) (set now : TaskSetData) → now ≡ held_below flags k set
    → All (λ t. t.partition < k) set.tasks
    → now ≡ with_tasks set (held_as (λ p. at_or flags p false) set.tasks)
below_all flags k set now is within =
    is ∙ ap (with_tasks set)
    (held_alike (flags_below flags k) (λ p. at_or flags p false) set.tasks
    (λ i d l. same (get_or set.tasks i d).partition (within i d l)))
  where
    same : (p : ℕ) → p < k → flags_below flags k p ≡ at_or flags p false
    same p lt =
        let below : nat_lt p k ≡ true = grind (arith, nat_tests, lt) in
        ap (λ b. b && at_or flags p false) below
