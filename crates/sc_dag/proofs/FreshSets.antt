-- Sets of which nothing was handed out, with tasks held back by flags.
use Rattle.std.proofs.Common.{◌≡◌, ℕ, zero, suc, ◌+◌, ◌<◌, ◌≤◌, ◌==◌, ◌||◌, ◌&&◌, not, Bool, true, false, cond, List, [], ◌∷◌, All, filter, get_or, length, map, Some, refl, ap, sym, ◌∙◌, arith}
use Rattle.std.proofs.lemmas.List.Elements.{All-cons, All-map, All-nil, All-weaker}
use Rattle.std.proofs.lemmas.List.Kept.{AllPairs-cons, AllPairs-filter}
use Rattle.sc_base.specs.Lists.{at_or, numbers_below, numbers_from}
use Rattle.sc_taskset.specs.Lookups.{are_finished, is_finished, is_there_and, task_at}
use Rattle.sc_taskset.specs.Reports.{held_task}
use Rattle.sc_taskset.specs.Rows.{running_count}
use Rattle.sc_taskset.specs.Sound.{AreRising, IsSoundSet, IsSoundTask}
use Rattle.sc_taskset.specs.TaskSetData.{TaskData, TaskSetData, fresh_task}
use Rattle.sc_taskset.specs.declared.tasks.Finish.TheVariants.{Unfinished}
use Rattle.sc_taskset.proofs.SetLemmas.{held_changed}
use Rattle.sc_taskset.proofs.TaskLemmas.{sound_held}
use Rattle.sc_dag.specs.Sound.{finish_among}
use Rattle.sc_dag.specs.Submission.{held_by}
use Rattle.sc_dag.proofs.NumberLemmas.{filter_below}
use Rattle.sc_dag.proofs.Tests.{is_in}

-- a task held back as its flag says
abbrev pub flagged : List Bool → TaskData → TaskData
flagged flags t = held_task (at_or flags t.partition false) t

-- ---- what flags leave of a set

pub flagged_partitions :
    (flags : List Bool) (tasks : List TaskData)
    → map (λ t. t.partition) (map (flagged flags) tasks) ≡ map (λ t. t.partition) tasks
flagged_partitions flags [] = refl
flagged_partitions flags (t ∷ tasks) =
    ap (λ ps. t.partition ∷ ps) (flagged_partitions flags tasks)

flagged_finished :
    (flags : List Bool) (tasks : List TaskData)
    → are_finished (map (flagged flags) tasks) ≡ are_finished tasks
flagged_finished flags [] = refl
flagged_finished flags (t ∷ tasks) =
    ap (λ b. is_finished t && b) (flagged_finished flags tasks)

flagged_running :
    (flags : List Bool) (tasks : List TaskData)
    → running_count (map (flagged flags) tasks) ≡ running_count tasks
flagged_running flags [] = refl
flagged_running flags (t ∷ tasks) =
    ap (λ n. length t.copies + n) (flagged_running flags tasks)

pub flagged_sound :
    (flags : List Bool) (set : TaskSetData) → IsSoundSet set → IsSoundSet (held_by flags set)
flagged_sound flags set sound =
    (held_changed set (map (flagged flags) set.tasks) (flagged_partitions flags set.tasks)
    (All-map IsSoundTask (flagged flags) set.tasks (λ i d l.
    sound_held (at_or flags (get_or set.tasks i d).partition false) (get_or set.tasks i d)
    (sound.tasks i d l)))
    (λ all. sym (flagged_finished flags set.tasks) ∙ all)
    (let same = flagged_running flags set.tasks in omega (arith, same))
    (record {
      sound = sound;
      room = record {
        failures_fit = let le : 0 + running_count set.tasks ≤ running_count set.tasks =
            omega arith in le;
        durations_fit = let le : 0 + running_count set.tasks ≤ running_count set.tasks =
            omega arith in le;
      };
    })).sound

-- ---- a fresh set

-- nothing of it is finished
pub fresh_finish :
    (flags : List Bool) (ps : List ℕ) (p : ℕ)
    → finish_among (task_at p (map (flagged flags) (map fresh_task ps))) ≡ Unfinished
fresh_finish flags [] p = refl
fresh_finish flags (q ∷ ps) p = by (q == p) (fresh_finish flags ps p)
  where
    by : (b : Bool)
        → finish_among (task_at p (map (flagged flags) (map fresh_task ps))) ≡ Unfinished
        → finish_among (cond b (Some (flagged flags (fresh_task q)))
        (task_at p (map (flagged flags) (map fresh_task ps)))) ≡ Unfinished
    by true h = refl
    by false h = h

-- and it wants what it has
pub fresh_wants :
    (flags : List Bool) (ps : List ℕ) (p : ℕ)
    → is_there_and (λ t. not (is_finished t))
    (task_at p (map (flagged flags) (map fresh_task ps))) ≡ is_in ps p
fresh_wants flags [] p = refl
fresh_wants flags (q ∷ ps) p = by (q == p) (fresh_wants flags ps p)
  where
    by : (b : Bool)
        → is_there_and (λ t. not (is_finished t))
        (task_at p (map (flagged flags) (map fresh_task ps))) ≡ is_in ps p
        → is_there_and (λ t. not (is_finished t))
        (cond b (Some (flagged flags (fresh_task q)))
        (task_at p (map (flagged flags) (map fresh_task ps)))) ≡ (b || is_in ps p)
    by true h = refl
    by false h = h

-- none of it is held back before flags are looked at
pub fresh_free : (ps : List ℕ) → All (λ t. t.denied ≡ false) (map fresh_task ps)
fresh_free ps = All-map (λ t. t.denied ≡ false) fresh_task ps (λ i d l. refl)

-- numbers rise
numbers_above : (first count : ℕ) → All (λ q. first ≤ q) (numbers_from first count)
numbers_above first zero = All-nil (λ q. first ≤ q)
numbers_above first (suc count) =
    All-cons (λ q. first ≤ q) first (numbers_from (suc first) count) (omega arith)
    (All-weaker (λ q. suc first ≤ q) (λ q. first ≤ q) (λ q h. omega (arith, h))
    (numbers_from (suc first) count) (numbers_above (suc first) count))

pub numbers_rise : (first count : ℕ) → AreRising (numbers_from first count)
numbers_rise first zero = λ i j d lt l. absurd (omega (arith, l))
numbers_rise first (suc count) =
    AllPairs-cons (λ p q. p < q) first (numbers_from (suc first) count)
    (numbers_above (suc first) count) (numbers_rise (suc first) count)

-- its partitions rise, and are those of its stage
pub fresh_rises :
    (done : ℕ → Bool) (tasks : ℕ)
    → AreRising (map (λ t. t.partition) (map fresh_task
    (filter (λ p. not (done p)) (numbers_below tasks))))
fresh_rises done tasks =
    rw (fresh_partitions (filter (λ p. not (done p)) (numbers_below tasks)))
    (AllPairs-filter (λ p q. p < q) (λ p. not (done p)) (numbers_below tasks)
    (numbers_rise 0 tasks))
  where
    fresh_partitions : (ps : List ℕ) → map (λ t. t.partition) (map fresh_task ps) ≡ ps
    fresh_partitions [] = refl
    fresh_partitions (p ∷ ps) = ap (λ qs. p ∷ qs) (fresh_partitions ps)

pub fresh_within :
    (done : ℕ → Bool) (tasks : ℕ)
    → All (λ t. t.partition < tasks)
    (map fresh_task (filter (λ p. not (done p)) (numbers_below tasks)))
fresh_within done tasks =
    All-map (λ t. t.partition < tasks) fresh_task
    (filter (λ p. not (done p)) (numbers_below tasks))
    (filter_below (λ p. not (done p)) tasks)
