-- What a success leaves.
use Rattle.std.proofs.Common.{◌≡◌, ℕ, ◌+◌, ◌<◌, ◌≤◌, Bool, true, false, cond, not, ◌||◌, List, [], ◌∷◌, length, get_or, Option, Some, None, IfSome, nat_le, suc, refl, arith, rules}
use Rattle.std.specs.List.{prefix_len}
use Rattle.std.specs.List.Sorted.{IsNonDecreasing}
use Rattle.std.specs.Option.{option_map, option_to_list}
use Rattle.std.proofs.lemmas.List.Sorted.{IsNonDecreasingBy-insert}
use Rattle.std.proofs.lemmas.List.Sums.{prefix_len-le-length, prefix_len_passes, prefix_len_stops}
use Rattle.std.proofs.lemmas.Bool.Decides.{nat_tests}
use Rattle.sc_taskset.specs.declared.tasks.RunningCopy.{RunningCopy}
use Rattle.sc_taskset.specs.TaskSetData.{TaskData, TaskSetData}
use Rattle.sc_taskset.specs.Lookups.{task_at, with_task, is_task_of, is_nth, is_finished, are_finished, copy_at, without_copy}
use Rattle.sc_taskset.specs.Reports.{after_success, duration, duration_in, succeeded_task, task_duration, with_duration}
use Rattle.sc_taskset.specs.Sound.{IsSoundTask}
use Rattle.sc_taskset.specs.Rows.{IsHeld, running_count}
use Rattle.sc_taskset.proofs.ChangeLemmas.{map_kept, length_kept, all_kept}
use Rattle.sc_taskset.proofs.SetLemmas.{fewer}
use Rattle.sc_taskset.proofs.TaskLemmas.{sound_succeeded}

-- one more duration keeps them rising
durations_rise :
    (d : Option ℕ) (durations : List ℕ) → IsNonDecreasing durations
    → IsNonDecreasing (with_duration d durations)
durations_rise None durations rise = rise
durations_rise (Some d) durations rise =
    IsNonDecreasingBy-insert (λ x. x) durations at d rise (prefix_len-le-length test durations)
    (λ k e l. (let h = prefix_len_passes test durations k e l in grind (arith, nat_tests, h)))
    (λ k e le l. above k e le l)
  where
    test : ℕ → Bool
    test e = nat_le e d

    at : ℕ
    at = prefix_len test durations

    above : (k e : ℕ) → at ≤ k → k < length durations → d ≤ get_or durations k e
    above k e le l =
        let h : nat_le (get_or durations at e) d ≡ false =
        prefix_len_stops test durations e (omega (arith, le, l)) in
        let r : get_or durations at e ≤ get_or durations k e = rise at k e le l in
        grind (arith, nat_tests, h, r)

-- one attempt less is left where the one of a number was found
found_less :
    (nth : ℕ) (copies : List RunningCopy) (c : RunningCopy) → copy_at nth copies ≡ Some c
    → length (without_copy nth copies) + 1 ≤ length copies
found_less nth [] c found = absurd (search (rules, found))
found_less nth (d ∷ copies) c found = by (is_nth nth d) found (λ f. found_less nth copies c f)
  where
    rest : List RunningCopy
    rest = without_copy nth copies

    by : (b : Bool) → cond b (Some d) (copy_at nth copies) ≡ Some c
        → (copy_at nth copies ≡ Some c → length rest + 1 ≤ length copies)
        → length (cond (not b) (d ∷ rest) rest) + 1 ≤ suc (length copies)
    by true f less = omega (arith, fewer (λ e. not (is_nth nth e)) copies)
    by false f less = omega (arith, less f)

-- a task that gives a duration has one attempt less
task_less :
    (nth : Option ℕ) (now : ℕ) (t : TaskData)
    → length (option_to_list (task_duration nth now t)) + length (succeeded_task nth t).copies
    ≤ length t.copies
task_less None now t = omega arith
task_less (Some nth) now t = by (is_finished t) (copy_at nth t.copies) refl
  where
    rest : List RunningCopy
    rest = without_copy nth t.copies

    by : (b : Bool) (o : Option RunningCopy) → copy_at nth t.copies ≡ o
        → length (option_to_list (cond b None (option_map (duration now) o))) + length rest
        ≤ length t.copies
    by true o e = omega (arith, fewer (λ c. not (is_nth nth c)) t.copies)
    by false None e = omega (arith, fewer (λ c. not (is_nth nth c)) t.copies)
    by false (Some c) e = omega (arith, found_less nth t.copies c e)

-- a success that gives a duration leaves one attempt less
success_running :
    (partition : ℕ) (nth : Option ℕ) (now : ℕ) (tasks : List TaskData)
    → length (option_to_list (duration_in nth now (task_at partition tasks)))
    + running_count (with_task partition (succeeded_task nth) tasks)
    ≤ running_count tasks
success_running partition nth now [] = omega arith
success_running partition nth now (t ∷ tasks) =
    by (is_task_of partition t) (success_running partition nth now tasks)
  where
    change : TaskData → TaskData
    change = succeeded_task nth

    by : (b : Bool)
        → length (option_to_list (duration_in nth now (task_at partition tasks)))
        + running_count (with_task partition change tasks) ≤ running_count tasks
        → length (option_to_list (duration_in nth now (cond b (Some t) (task_at partition tasks))))
        + running_count (cond b (change t ∷ tasks) (t ∷ with_task partition change tasks))
        ≤ length t.copies + running_count tasks
    by true h = omega (arith, task_less nth now t)
    by false h = omega (arith, h)

-- no success makes more attempts run
success_fewer :
    (partition : ℕ) (nth : Option ℕ) (tasks : List TaskData)
    → running_count (with_task partition (succeeded_task nth) tasks) ≤ running_count tasks
success_fewer partition nth tasks = omega (arith, success_running partition nth 0 tasks)

-- a set after a success
pub held_success :
    {failed taken timed kept : ℕ} (s : TaskSetData) (partition : ℕ) (nth : Option ℕ)
    (now kept' : ℕ) → kept ≤ kept' → IsHeld s failed taken timed kept
    → IsHeld (after_success s partition nth now) failed taken
    (timed + length (option_to_list (duration_in nth now (task_at partition s.tasks)))) kept'
held_success s partition nth now kept' more held =
    record {
      sound = record {
        rising = rw (map_kept (λ t. t.partition) (is_task_of partition) (succeeded_task nth)
            (λ t. refl) s.tasks) held.sound.rising;
        some = omega (
          arith,
          held.sound.some,
          length_kept (is_task_of partition) (succeeded_task nth) s.tasks,
        );
        tasks = all_kept IsSoundTask (is_task_of partition) (succeeded_task nth) s.tasks
            held.sound.tasks (λ t found is. sound_succeeded nth t is);
        ends = λ all. ended s.is_zombie
            (are_finished (with_task partition (succeeded_task nth) s.tasks)) all;
        durations = durations_rise (duration_in nth now (task_at partition s.tasks)) s.durations
            held.sound.durations;
      };
      room = record {
        failures_fit = omega (arith, held.room.failures_fit, success_fewer partition nth s.tasks);
        durations_fit = omega (
          arith,
          held.room.durations_fit,
          more,
          success_running partition nth now s.tasks,
        );
      };
    }
  where
    ended : (z a : Bool) → a ≡ true → (z || a) ≡ true
    ended true a is = refl
    ended false a is = is

-- there is room for the duration of a success
pub duration_room :
    {failed taken timed kept : ℕ} (s : TaskSetData) (partition : ℕ) (nth : Option ℕ) (now : ℕ)
    → IsHeld s failed taken timed kept
    → IfSome (duration_in nth now (task_at partition s.tasks)) (λ d. timed < kept)
duration_room {timed = timed} {kept = kept} s partition nth now held =
    by (duration_in nth now (task_at partition s.tasks)) (success_running partition nth now s.tasks)
  where
    after : ℕ
    after = running_count (with_task partition (succeeded_task nth) s.tasks)

    by : (o : Option ℕ) → length (option_to_list o) + after ≤ running_count s.tasks
        → IfSome o (λ d. timed < kept)
    by None h = tt
    by (Some d) h = omega (arith, held.room.durations_fit, h)
