-- What every change of a set keeps.
use Rattle.std.proofs.Common.{◌≡◌, ℕ, ◌+◌, ◌≤◌, ◌==◌, Bool, true, false, cond, not, ◌&&◌, List, [], ◌∷◌, length, map, suc, refl, ap, sym, ◌∙◌, arith, rules}
use Rattle.std.specs.List.{All, filter}
use Rattle.std.proofs.lemmas.List.{length-map}
use Rattle.std.proofs.lemmas.List.Elements.{All-map, All-weaker}
use Rattle.sc_taskset.specs.declared.tasks.Finish.TheVariants.{Unfinished}
use Rattle.sc_taskset.specs.TaskSetData.{TaskData, TaskSetData, with_tasks, partitions_of}
use Rattle.sc_taskset.specs.Lookups.{change_first, with_task, is_task_of, is_nth, is_finished, is_finish, is_finish_on, are_finished}
use Rattle.sc_taskset.specs.Reports.{after_loss, ended_task, failed_task, held_task, lost_task, noted_task, is_failure, redoes_lost}
use Rattle.sc_taskset.specs.Sound.{IsSoundTask}
use Rattle.sc_taskset.specs.Rows.{IsHeld, running_count}
use Rattle.sc_taskset.proofs.ChangeLemmas.{map_kept, tests_kept, all_kept}
use Rattle.sc_taskset.proofs.TaskLemmas.{sound_ended, sound_failed, sound_held, sound_lost}

-- a filter keeps no more than there was
pub fewer : {A : Type 0} (p : A → Bool) (xs : List A) → length (filter p xs) ≤ length xs
fewer p [] = omega arith
fewer p (x ∷ xs) = by (p x) (fewer p xs)
  where
    by : (b : Bool) → length (filter p xs) ≤ length xs
        → length (cond b (x ∷ filter p xs) (filter p xs)) ≤ suc (length xs)
    by true h = omega (arith, h)
    by false h = omega (arith, h)

-- a change of a task that is to keep its set as it is
pub record KeepsTasks (f : TaskData → TaskData) : Type 0 where
  pub partition : (t : TaskData) → (f t).partition ≡ t.partition
  pub sound : (t : TaskData) → IsSoundTask t → IsSoundTask (f t)
  pub finished : (t : TaskData) → is_finished (f t) ≡ is_finished t
  pub fewer : (t : TaskData) → length (f t).copies ≤ length t.copies

-- a change of one task leaves no more attempts than there were
running_first :
    (q : TaskData → Bool) (f : TaskData → TaskData)
    → ((t : TaskData) → length (f t).copies ≤ length t.copies) → (tasks : List TaskData)
    → running_count (change_first q f tasks) ≤ running_count tasks
running_first q f less [] = omega arith
running_first q f less (t ∷ tasks) = by (q t) (running_first q f less tasks)
  where
    by : (b : Bool) → running_count (change_first q f tasks) ≤ running_count tasks
        → running_count (cond b (f t ∷ tasks) (t ∷ change_first q f tasks))
        ≤ length t.copies + running_count tasks
    by true h = omega (arith, less t)
    by false h = omega (arith, h)

-- a set with other tasks of the same partitions
pub held_changed :
    {failed taken timed kept : ℕ} (s : TaskSetData) (tasks : List TaskData)
    → map (λ t. t.partition) tasks ≡ partitions_of s → All IsSoundTask tasks
    → (are_finished tasks ≡ true → are_finished s.tasks ≡ true)
    → running_count tasks ≤ running_count s.tasks → IsHeld s failed taken timed kept
    → IsHeld (with_tasks s tasks) failed taken timed kept
held_changed s tasks same sound finished less held =
    record {
      sound = record {
        rising = rw same held.sound.rising;
        some = omega (arith, held.sound.some, same_length);
        tasks = sound;
        ends = λ all. held.sound.ends (finished all);
        durations = held.sound.durations;
      };
      room = record {
        failures_fit = omega (arith, held.room.failures_fit, less);
        durations_fit = omega (arith, held.room.durations_fit, less);
      };
    }
  where
    same_length : length tasks ≡ length s.tasks
    same_length =
        sym (length-map tasks (λ t. t.partition)) ∙ ap length same
        ∙ length-map s.tasks (λ t. t.partition)

-- a set with one task changed
pub held_kept :
    {failed taken timed kept : ℕ} (s : TaskSetData) (partition : ℕ) (f : TaskData → TaskData)
    → KeepsTasks f → IsHeld s failed taken timed kept
    → IsHeld (with_tasks s (with_task partition f s.tasks)) failed taken timed kept
held_kept s partition f keeps held =
    held_changed s (with_task partition f s.tasks)
    (map_kept (λ t. t.partition) (is_task_of partition) f keeps.partition s.tasks)
    (all_kept IsSoundTask (is_task_of partition) f s.tasks held.sound.tasks
    (λ t found is. keeps.sound t is))
    (λ all. sym (tests_kept is_finished (is_task_of partition) f keeps.finished s.tasks) ∙ all)
    (running_first (is_task_of partition) f keeps.fewer s.tasks) held

-- an attempt's end keeps its set
pub keeps_ended : (nth : ℕ) → KeepsTasks (ended_task nth)
keeps_ended nth =
    record {
      partition = λ t. refl;
      sound = sound_ended nth;
      finished = λ t. refl;
      fewer = λ t. fewer (λ c. not (is_nth nth c)) t.copies;
    }

-- so does what is told of a grant
pub keeps_held : (denied : Bool) → KeepsTasks (held_task denied)
keeps_held denied =
    record {
      partition = λ t. refl;
      sound = sound_held denied;
      finished = λ t. refl;
      fewer = λ t. omega arith;
    }

-- and a failure
pub keeps_failed : (counts : Bool) (nth : ℕ) → KeepsTasks (failed_task counts nth)
keeps_failed counts nth =
    record {
      partition = λ t. part t (is_failure counts nth t);
      sound = sound_failed counts nth;
      finished = λ t. fin t (is_failure counts nth t);
      fewer = λ t. few t (is_failure counts nth t);
    }
  where
    after : TaskData → Bool → TaskData
    after t b = cond b (noted_task nth (ended_task nth t)) (ended_task nth t)

    part : (t : TaskData) (b : Bool) → (after t b).partition ≡ t.partition
    part t true = refl
    part t false = refl

    fin : (t : TaskData) (b : Bool) → is_finished (after t b) ≡ is_finished t
    fin t true = refl
    fin t false = refl

    few : (t : TaskData) (b : Bool) → length (after t b).copies ≤ length t.copies
    few t true = fewer (λ c. not (is_nth nth c)) t.copies
    few t false = fewer (λ c. not (is_nth nth c)) t.copies

-- what is finished after a loss was finished before
lost_finished :
    (exec : ℕ) (redoes : Bool) (tasks : List TaskData)
    → are_finished (map (lost_task exec redoes) tasks) ≡ true → are_finished tasks ≡ true
lost_finished exec redoes [] all = refl
lost_finished exec redoes (t ∷ tasks) all =
    by redoes (is_finish_on exec t.finish) all (lost_finished exec redoes tasks)
  where
    rest : List TaskData
    rest = map (lost_task exec redoes) tasks

    by : (a b : Bool)
        → (is_finish (cond (a && b) Unfinished t.finish) && are_finished rest) ≡ true
        → (are_finished rest ≡ true → are_finished tasks ≡ true)
        → (is_finish t.finish && are_finished tasks) ≡ true
    by true true h k = absurd (search (rules, h))
    by true false h k = both (is_finish t.finish) (are_finished rest) h k
      where
        both : (x y : Bool) → (x && y) ≡ true → (y ≡ true → are_finished tasks ≡ true)
            → (x && are_finished tasks) ≡ true
        both true y e g = g e
        both false y e g = e
    by false b h k = both (is_finish t.finish) (are_finished rest) h k
      where
        both : (x y : Bool) → (x && y) ≡ true → (y ≡ true → are_finished tasks ≡ true)
            → (x && are_finished tasks) ≡ true
        both true y e g = g e
        both false y e g = e

-- no more runs after a loss
lost_running :
    (exec : ℕ) (redoes : Bool) (tasks : List TaskData)
    → running_count (map (lost_task exec redoes) tasks) ≤ running_count tasks
lost_running exec redoes [] = omega arith
lost_running exec redoes (t ∷ tasks) =
    omega (arith, fewer (λ c. not (c.exec == exec)) t.copies, lost_running exec redoes tasks)

-- the partitions stay at a loss
lost_partitions :
    (exec : ℕ) (redoes : Bool) (tasks : List TaskData)
    → map (λ t. t.partition) (map (lost_task exec redoes) tasks) ≡ map (λ t. t.partition) tasks
lost_partitions exec redoes [] = refl
lost_partitions exec redoes (t ∷ tasks) =
    ap (λ ps. t.partition ∷ ps) (lost_partitions exec redoes tasks)

-- a set after a loss
pub held_loss :
    {failed taken timed kept : ℕ} (s : TaskSetData) (exec : ℕ) → IsHeld s failed taken timed kept
    → IsHeld (after_loss s exec) failed taken timed kept
held_loss s exec held =
    held_changed s (map (lost_task exec (redoes_lost s)) s.tasks)
    (lost_partitions exec (redoes_lost s) s.tasks)
    (All-map IsSoundTask (lost_task exec (redoes_lost s)) s.tasks
    (All-weaker IsSoundTask (λ t. IsSoundTask (lost_task exec (redoes_lost s) t))
    (sound_lost exec (redoes_lost s)) s.tasks held.sound.tasks))
    (lost_finished exec (redoes_lost s) s.tasks) (lost_running exec (redoes_lost s) s.tasks) held
