-- What a hand-out keeps.
use Rattle.std.proofs.Common.{◌≡◌, ℕ, ◌+◌, ◌*◌, ◌<◌, ◌≤◌, Bool, true, false, cond, List, [], ◌∷◌, ◌++◌, length, Option, Some, None, IfSome, refl, sym, ◌∙◌, arith}
use Rattle.std.specs.List.{All, find}
use Rattle.std.specs.Option.{option_map}
use Rattle.std.proofs.lemmas.List.{length-append}
use Rattle.std.proofs.lemmas.List.Elements.{All-head, All-tail}
use Rattle.sc_taskset.specs.declared.rows.Row.{Row}
use Rattle.sc_taskset.specs.declared.rows.Failure.{Failure}
use Rattle.sc_taskset.specs.declared.tasks.RunningCopy.{RunningCopy}
use Rattle.sc_taskset.specs.TaskSetData.{TaskData, TaskSetData}
use Rattle.sc_taskset.specs.Lookups.{task_at, with_task, is_task_of, is_finished}
use Rattle.sc_taskset.specs.Offers.{handed, handed_task, may_be_given, running}
use Rattle.sc_taskset.specs.Sound.{AreApart, IsSoundTask}
use Rattle.sc_taskset.specs.Rows.{IsHeld, copies_of, is_row_of, running_count, task_of, tasks_of}
use Rattle.sc_taskset.proofs.ChangeLemmas.{map_kept, length_kept, tests_kept, all_kept}
use Rattle.sc_taskset.proofs.OfferLemmas.{joins_given, joins_short}
use Rattle.sc_taskset.proofs.TaskLemmas.{may_join, sound_handed}
use Rattle.sc_taskset.proofs.ViewLemmas.{find_viewed}

-- one attempt more runs after a hand-out
handed_running :
    (partition exec now : ℕ) (tasks : List TaskData)
    → running_count (with_task partition (handed_task exec now) tasks) ≤ running_count tasks + 1
handed_running partition exec now [] = omega arith
handed_running partition exec now (t ∷ tasks) =
    by (is_task_of partition t) (handed_running partition exec now tasks)
  where
    more : length (t.copies ++ running t.given exec now ∷ []) ≡ length t.copies + 1
    more = length-append t.copies (running t.given exec now ∷ [])

    by : (b : Bool)
        → running_count (with_task partition (handed_task exec now) tasks) ≤ running_count tasks + 1
        → running_count (cond b (handed_task exec now t ∷ tasks)
        (t ∷ with_task partition (handed_task exec now) tasks))
        ≤ length t.copies + running_count tasks + 1
    by true h = omega (arith, more)
    by false h = omega (arith, h)

-- a set after a hand-out
pub held_handed :
    {failed taken timed kept : ℕ} (s : TaskSetData) (partition exec now taken' kept' : ℕ)
    → may_be_given s exec now partition ≡ true → taken + 1 ≤ taken' → kept + 1 ≤ kept'
    → IsHeld s failed taken timed kept
    → IsHeld (handed s partition exec now) failed taken' timed kept'
held_handed s partition exec now taken' kept' may more longer held =
    record {
      sound = record {
        rising = rw (map_kept (λ t. t.partition) (is_task_of partition) (handed_task exec now)
            (λ t. refl) s.tasks) held.sound.rising;
        some = omega (
          arith,
          held.sound.some,
          length_kept (is_task_of partition) (handed_task exec now) s.tasks,
        );
        tasks = all_kept IsSoundTask (is_task_of partition) (handed_task exec now) s.tasks
            held.sound.tasks
            (λ t found is.
            sound_handed exec now t (rw found at (joins_given s exec now partition may)) is);
        ends = λ all. held.sound.ends
            (sym (tests_kept is_finished (is_task_of partition) (handed_task exec now) (λ t. refl)
            s.tasks) ∙ all);
        durations = held.sound.durations;
      };
      room = record {
        failures_fit = omega (
          arith,
          held.room.failures_fit,
          more,
          handed_running partition exec now s.tasks,
        );
        durations_fit = omega (
          arith,
          held.room.durations_fit,
          longer,
          handed_running partition exec now s.tasks,
        );
      };
    }

-- at most two attempts of each task run
few_run :
    (tasks : List TaskData) → All IsSoundTask tasks → running_count tasks ≤ 2 * length tasks
few_run [] sound = omega arith
few_run (t ∷ tasks) sound =
    omega (
      arith,
      few t.copies (All-head IsSoundTask t tasks sound).apart,
      few_run tasks (All-tail IsSoundTask t tasks sound),
    )
  where
    few : (copies : List RunningCopy) → AreApart copies → length copies ≤ 2
    few [] apart = omega arith
    few (c ∷ []) apart = omega arith
    few (c ∷ d ∷ []) apart = omega arith
    few (c ∷ d ∷ e ∷ copies) apart = absurd apart

-- the same where there is room for two attempts of each task
pub held_roomy :
    {failed taken timed kept : ℕ} (s : TaskSetData) (partition exec now taken' kept' : ℕ)
    → may_be_given s exec now partition ≡ true
    → failed + 2 * length s.tasks ≤ taken' → timed + 2 * length s.tasks ≤ kept'
    → IsHeld s failed taken timed kept
    → IsHeld (handed s partition exec now) failed taken' timed kept'
held_roomy {failed = failed} {taken = taken} {timed = timed} {kept = kept} s partition exec now
    taken' kept' may more longer held =
    record {
      sound = after.sound;
      room = record {
        failures_fit = omega (arith, more, few_run tasks after.sound.tasks, many);
        durations_fit = omega (arith, longer, few_run tasks after.sound.tasks, many);
      };
    }
  where
    tasks : List TaskData
    tasks = with_task partition (handed_task exec now) s.tasks

    after : IsHeld (handed s partition exec now) failed (taken + 1) timed (kept + 1)
    after = held_handed s partition exec now (taken + 1) (kept + 1) may (omega arith)
        (omega arith) held

    many : length tasks ≡ length s.tasks
    many = length_kept (is_task_of partition) (handed_task exec now) s.tasks

-- the row of what may be handed out has room
pub row_room :
    (failures : List Failure) (rows : List Row) (s : TaskSetData) (exec now partition : ℕ)
    → s.tasks ≡ tasks_of failures rows → may_be_given s exec now partition ≡ true
    → IfSome (find (is_row_of partition) rows) (λ r. length (copies_of r) < 2)
row_room failures rows s exec now partition same may =
    by (find (is_row_of partition) rows)
    (find_viewed (task_of failures) (is_row_of partition) (is_task_of partition) (λ r. refl) rows)
  where
    joins : IfSome (task_at partition (tasks_of failures rows)) (λ t. may_join exec t ≡ true)
    joins = rw same at (joins_given s exec now partition may)

    by : (o : Option Row)
        → option_map (task_of failures) o ≡ task_at partition (tasks_of failures rows)
        → IfSome o (λ r. length (copies_of r) < 2)
    by None e = tt
    by (Some r) e = joins_short exec (task_of failures r) (rw (sym e) at joins)
