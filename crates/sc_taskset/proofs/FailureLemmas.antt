-- What a failure leaves.
use Rattle.std.proofs.Common.{◌≡◌, ℕ, ◌+◌, ◌<◌, ◌≤◌, ◌==◌, Bool, true, false, cond, not, ◌&&◌, ◌||◌, List, [], ◌∷◌, ◌++◌, length, map, Option, Some, None, nat_le, suc, refl, ap, sym, ◌∙◌, arith, rules}
use Rattle.std.specs.List.{All, filter}
use Rattle.std.proofs.lemmas.List.{length-map, length-append, append-nil}
use Rattle.std.proofs.lemmas.List.Elements.{All-head, All-tail}
use Rattle.std.proofs.lemmas.Bool.Decides.{nat_tests}
use Rattle.sc_taskset.specs.declared.rows.Row.{Row}
use Rattle.sc_taskset.specs.declared.rows.Failure.{Failure}
use Rattle.sc_taskset.specs.declared.tasks.RunningCopy.{RunningCopy}
use Rattle.sc_taskset.specs.TaskSetData.{TaskData, TaskSetData, with_tasks}
use Rattle.sc_taskset.specs.Lookups.{is_there_and, task_at, with_task, is_task_of, is_nth, is_running, without_copy}
use Rattle.sc_taskset.specs.Reports.{ended_task, failed_task, is_failure, is_last_failure, noted_task}
use Rattle.sc_taskset.specs.Sound.{AreRising}
use Rattle.sc_taskset.specs.Rows.{IsHeld, failures_of, is_failure_of, noted, running_count, task_of, tasks_of}
use Rattle.sc_taskset.proofs.ChangeLemmas.{map_kept, changed_alike, changed_twice}
use Rattle.sc_taskset.proofs.FindLemmas.{pairs_head, pairs_tail}
use Rattle.sc_taskset.proofs.SetLemmas.{fewer, held_kept, keeps_failed}

-- one more failure is the last of its partition, and of no other
failures_push :
    (p : ℕ) (failures : List Failure) (f : Failure)
    → failures_of p (failures ++ f ∷ [])
    ≡ failures_of p failures ++ cond (f.partition == p) (f.nth ∷ []) []
failures_push p [] f = by (f.partition == p)
  where
    by : (b : Bool) → map (λ g. g.nth) (cond b (f ∷ []) []) ≡ cond b (f.nth ∷ []) []
    by true = refl
    by false = refl
failures_push p (g ∷ failures) f = by (g.partition == p) (failures_push p failures f)
  where
    last : List ℕ
    last = cond (f.partition == p) (f.nth ∷ []) []

    by : (b : Bool) → failures_of p (failures ++ f ∷ []) ≡ failures_of p failures ++ last
        → map (λ h. h.nth) (cond b (g ∷ filter (is_failure_of p) (failures ++ f ∷ []))
        (filter (is_failure_of p) (failures ++ f ∷ [])))
        ≡ map (λ h. h.nth) (cond b (g ∷ filter (is_failure_of p) failures)
        (filter (is_failure_of p) failures)) ++ last
    by true rest = ap (λ ns. g.nth ∷ ns) rest
    by false rest = rest

-- a task with these failures
with_failures : List Failure → Row → List ℕ → TaskData
with_failures failures r ns = record (task_of failures r) { failures = ns }

-- a failure of another partition changes nothing of a task
other_noted :
    (failures : List Failure) (f : Failure) (r : Row) → (f.partition == r.partition) ≡ false
    → task_of (failures ++ f ∷ []) r ≡ task_of failures r
unfolding with_failures
other_noted failures f r other =
    ap (with_failures failures r)
    (rw other at (failures_push r.partition failures f)
    ∙ append-nil (failures_of r.partition failures))

-- nor of any
none_noted :
    (failures : List Failure) (f : Failure) (rows : List Row)
    → All (λ q. f.partition < q) (map (λ r. r.partition) rows)
    → tasks_of (failures ++ f ∷ []) rows ≡ tasks_of failures rows
none_noted failures f [] above = refl
none_noted failures f (r ∷ rows) above =
    let h : f.partition < r.partition =
    All-head (λ q. f.partition < q) r.partition (map (λ s. s.partition) rows) above in
    rw (
      other_noted failures f r (grind (arith, nat_tests, h)),
      none_noted failures f rows
          (All-tail (λ q. f.partition < q) r.partition (map (λ s. s.partition) rows) above),
    )

-- one more failure is noted at its task
view_noted :
    (failures : List Failure) (f : Failure) (rows : List Row)
    → AreRising (map (λ r. r.partition) rows)
    → tasks_of (failures ++ f ∷ []) rows
    ≡ with_task f.partition (noted_task f.nth) (tasks_of failures rows)
unfolding with_failures
view_noted failures f [] rising = refl
view_noted failures f (r ∷ rows) rising =
    by (r.partition == f.partition) refl
    (view_noted failures f rows
    (pairs_tail (λ p q. p < q) r.partition (map (λ s. s.partition) rows) rising))
  where
    one : (f.partition == r.partition) ≡ true
        → task_of (failures ++ f ∷ []) r ≡ noted_task f.nth (task_of failures r)
    one here =
        ap (with_failures failures r) (rw here at (failures_push r.partition failures f))

    by : (b : Bool) → (r.partition == f.partition) ≡ b
        → tasks_of (failures ++ f ∷ []) rows
        ≡ with_task f.partition (noted_task f.nth) (tasks_of failures rows)
        → task_of (failures ++ f ∷ []) r ∷ tasks_of (failures ++ f ∷ []) rows
        ≡ cond b (noted_task f.nth (task_of failures r) ∷ tasks_of failures rows)
        (task_of failures r ∷ with_task f.partition (noted_task f.nth) (tasks_of failures rows))
    by true is rest =
        let same : r.partition ≡ f.partition = grind (arith, nat_tests, is) in
        let here : (f.partition == r.partition) ≡ true = grind (arith, nat_tests, same) in
        let above : All (λ q. f.partition < q) (map (λ s. s.partition) rows) =
        rw same at (pairs_head (λ p q. p < q) r.partition (map (λ s. s.partition) rows) rising) in
        rw (one here, none_noted failures f rows above) refl
    by false is rest =
        rw (other_noted failures f r (grind (arith, nat_tests, is)), rest)

-- the partitions of rows are those of their tasks
partitions_seen :
    (failures : List Failure) (rows : List Row)
    → map (λ t. t.partition) (tasks_of failures rows) ≡ map (λ r. r.partition) rows
partitions_seen failures [] = refl
partitions_seen failures (r ∷ rows) = ap (λ ps. r.partition ∷ ps) (partitions_seen failures rows)

-- a failure of a partition whose attempt was ended, noted if it counts
pub view_failed :
    (failures : List Failure) (rows rows' : List Row) (partition nth : ℕ) (counts fails : Bool)
    → AreRising (map (λ t. t.partition) (tasks_of failures rows))
    → ((fs : List Failure)
    → tasks_of fs rows' ≡ with_task partition (ended_task nth) (tasks_of fs rows))
    → fails ≡ is_there_and (is_failure counts nth) (task_at partition (tasks_of failures rows))
    → tasks_of (noted fails partition nth failures) rows'
    ≡ with_task partition (failed_task counts nth) (tasks_of failures rows)
view_failed failures rows rows' partition nth counts fails rising ended is = by fails is
  where
    q : TaskData → Bool
    q = is_task_of partition

    tasks : List TaskData
    tasks = tasks_of failures rows

    f : Failure
    f = record { partition = partition; nth = nth }

    after : Bool → TaskData → TaskData
    after b t = cond b (noted_task nth (ended_task nth t)) (ended_task nth t)

    same_rows : map (λ r. r.partition) rows' ≡ map (λ r. r.partition) rows
    same_rows =
        sym (partitions_seen [] rows') ∙ ap (map (λ t. t.partition)) (ended [])
        ∙ map_kept (λ t. t.partition) q (ended_task nth) (λ t. refl) (tasks_of [] rows)
        ∙ partitions_seen [] rows

    by : (b : Bool) → b ≡ is_there_and (is_failure counts nth) (task_at partition tasks)
        → tasks_of (noted b partition nth failures) rows'
        ≡ with_task partition (failed_task counts nth) tasks
    by true e =
        view_noted failures f rows' (rw (same_rows, ← partitions_seen failures rows) rising)
        ∙ ap (with_task partition (noted_task nth)) (ended failures)
        ∙ changed_twice q (ended_task nth) (noted_task nth) (λ t. refl) tasks
        ∙ changed_alike q (λ t. noted_task nth (ended_task nth t)) (failed_task counts nth) tasks
        (λ t found. ap (λ b. after b t) (e ∙ ap (is_there_and (is_failure counts nth)) found))
    by false e =
        ended failures
        ∙ changed_alike q (ended_task nth) (failed_task counts nth) tasks
        (λ t found. ap (λ b. after b t) (e ∙ ap (is_there_and (is_failure counts nth)) found))

-- the failures of a task that was found
found_failures :
    (failures : List Failure) (rows : List Row) (partition : ℕ) (t : TaskData)
    → task_at partition (tasks_of failures rows) ≡ Some t
    → t.failures ≡ failures_of partition failures
found_failures failures [] partition t found = absurd (search (rules, found))
found_failures failures (r ∷ rows) partition t found =
    by (r.partition == partition) refl found (λ f. found_failures failures rows partition t f)
  where
    by : (b : Bool) → (r.partition == partition) ≡ b
        → cond b (Some (task_of failures r)) (task_at partition (tasks_of failures rows)) ≡ Some t
        → (task_at partition (tasks_of failures rows) ≡ Some t
        → t.failures ≡ failures_of partition failures)
        → t.failures ≡ failures_of partition failures
    by true is f rest =
        let same : task_of failures r ≡ t = search (rules, f) in
        let at : r.partition ≡ partition = grind (arith, nat_tests, is) in
        rw (← same) (ap (λ p. failures_of p failures) at)
    by false is f rest = rest f

-- the limit is reached where the failures noted are as many
pub limit_noted :
    (failures : List Failure) (rows : List Row) (partition nth limit : ℕ) (counts fails : Bool)
    → fails ≡ is_there_and (is_failure counts nth) (task_at partition (tasks_of failures rows))
    → (fails
    && nat_le limit
    (length (filter (is_failure_of partition) (noted fails partition nth failures))))
    ≡ is_there_and (is_last_failure limit counts nth) (task_at partition (tasks_of failures rows))
limit_noted failures rows partition nth limit counts fails is =
    by (task_at partition (tasks_of failures rows)) refl fails is
  where
    f : Failure
    f = record { partition = partition; nth = nth }

    count :
        (fs : List Failure)
        → length (filter (is_failure_of partition) fs) ≡ length (failures_of partition fs)
    count fs = sym (length-map (filter (is_failure_of partition) fs) (λ g. g.nth))

    here : (partition == partition) ≡ true
    here = grind (arith, nat_tests)

    by : (o : Option TaskData) → task_at partition (tasks_of failures rows) ≡ o → (b : Bool)
        → b ≡ is_there_and (is_failure counts nth) o
        → (b && nat_le limit
        (length (filter (is_failure_of partition) (noted b partition nth failures))))
        ≡ is_there_and (is_last_failure limit counts nth) o
    by None found b e = rw e refl
    by (Some t) found false e = rw (← e) refl
    by (Some t) found true e =
        let more : length (failures_of partition (failures ++ f ∷ []))
        ≡ length t.failures + 1 =
        ap length (rw here at (failures_push partition failures f))
        ∙ length-append (failures_of partition failures) (nth ∷ [])
        ∙ ap (λ ns. length ns + 1) (sym (found_failures failures rows partition t found)) in
        rw (← e) (ap (nat_le limit) (count (failures ++ f ∷ []) ∙ more))

-- one attempt less is left of those with one that runs
pub without_less :
    (nth : ℕ) (copies : List RunningCopy) → is_running nth copies ≡ true
    → length (without_copy nth copies) + 1 ≤ length copies
without_less nth [] is = absurd (search (rules, is))
without_less nth (c ∷ copies) is = by (is_nth nth c) is (λ i. without_less nth copies i)
  where
    rest : List RunningCopy
    rest = without_copy nth copies

    by : (b : Bool) → (b || is_running nth copies) ≡ true
        → (is_running nth copies ≡ true → length rest + 1 ≤ length copies)
        → length (cond (not b) (c ∷ rest) rest) + 1 ≤ suc (length copies)
    by true i less = omega (arith, fewer (λ d. not (is_nth nth d)) copies)
    by false i less = omega (arith, less i)

-- a failure that counts leaves one attempt less
failed_running :
    (partition nth : ℕ) (counts : Bool) (tasks : List TaskData)
    → is_there_and (is_failure counts nth) (task_at partition tasks) ≡ true
    → running_count (with_task partition (failed_task counts nth) tasks) + 1 ≤ running_count tasks
failed_running partition nth counts [] is = absurd (search (rules, is))
failed_running partition nth counts (t ∷ tasks) is =
    by (is_task_of partition t) is (λ i. failed_running partition nth counts tasks i)
  where
    change : TaskData → TaskData
    change = failed_task counts nth

    less : is_failure counts nth t ≡ true → length (change t).copies + 1 ≤ length t.copies
    less i =
        let r : is_running nth t.copies ≡ true = grind (arith, nat_tests, i) in
        rw i (without_less nth t.copies r)

    by : (b : Bool)
        → is_there_and (is_failure counts nth) (cond b (Some t) (task_at partition tasks)) ≡ true
        → (is_there_and (is_failure counts nth) (task_at partition tasks) ≡ true
        → running_count (with_task partition change tasks) + 1 ≤ running_count tasks)
        → running_count (cond b (change t ∷ tasks) (t ∷ with_task partition change tasks)) + 1
        ≤ length t.copies + running_count tasks
    by true i rest = omega (arith, less i)
    by false i rest = omega (arith, rest i)

-- a set after a failure
pub held_failed :
    {failed taken timed kept : ℕ} (s : TaskSetData) (partition nth : ℕ) (counts fails : Bool)
    → fails ≡ is_there_and (is_failure counts nth) (task_at partition s.tasks)
    → IsHeld s failed taken timed kept
    → IsHeld (with_tasks s (with_task partition (failed_task counts nth) s.tasks))
    (cond fails (failed + 1) failed) taken timed kept
held_failed {failed = failed} {taken = taken} s partition nth counts fails is held =
    let h = held_kept s partition (failed_task counts nth) (keeps_failed counts nth) held in
    record {
      sound = h.sound;
      room = record {
        failures_fit = by fails is h.room.failures_fit;
        durations_fit = h.room.durations_fit;
      };
    }
  where
    after : ℕ
    after = running_count (with_task partition (failed_task counts nth) s.tasks)

    by : (b : Bool) → b ≡ is_there_and (is_failure counts nth) (task_at partition s.tasks)
        → failed + after ≤ taken → cond b (failed + 1) failed + after ≤ taken
    by true e h =
        omega (
          arith,
          held.room.failures_fit,
          failed_running partition nth counts s.tasks (sym e),
        )
    by false e h = h

-- there is room for a failure that counts
pub failure_room :
    {failed taken timed kept : ℕ} (s : TaskSetData) (partition nth : ℕ) (counts fails : Bool)
    → fails ≡ is_there_and (is_failure counts nth) (task_at partition s.tasks)
    → IsHeld s failed taken timed kept → fails ≡ true → failed < taken
failure_room s partition nth counts fails is held yes' =
    omega (
      arith,
      held.room.failures_fit,
      failed_running partition nth counts s.tasks (sym is ∙ yes'),
    )
