-- Sets of which nothing was handed out.
use Rattle.std.proofs.Common.{◌≡◌, ℕ, zero, suc, ◌<◌, Bool, false, rules, true≢false, List, [], ◌∷◌, ◌++◌, length, get_or, map, take, refl, ap, sym, subst, ◌∙◌, arith}
use Rattle.std.specs.List.{All}
use Rattle.std.proofs.lemmas.List.{map-append, length-take, get_or-take}
use Rattle.std.proofs.lemmas.List.Elements.{All-nil, All-map, All-from_get_or}
use Rattle.std.proofs.lemmas.List.Quantifiers.{all_pairs_push}
use Rattle.sc_ids.specs.declared.limits.Limits.{Limits}
use Rattle.sc_taskset.specs.declared.rows.Row.{Row}
use Rattle.sc_taskset.specs.TaskSetData.{fresh_set, fresh_task}
use Rattle.sc_base.specs.Lists.{at_or}
use Rattle.sc_taskset.specs.declared.lists.Lists.{Lists}
use Rattle.sc_taskset.specs.Lists.{AreListed, is_row_on, list_of}
use Rattle.sc_taskset.specs.Looks.{is_task_on}
use Rattle.sc_taskset.specs.Sound.{AreRising, IsPast, IsSoundTask}
use Rattle.sc_taskset.specs.Rows.{IsHeld, running_count, task_of, tasks_of}
use Rattle.sc_taskset.specs.Rooms.{AreFresh, row_partitions}

-- one more row, above the others
pub fresh_push :
    (rows : List Row) (r : Row) (partition : ℕ) → AreFresh rows
    → All (λ q. q < partition) (row_partitions rows) → task_of [] r ≡ fresh_task partition
    → AreFresh (rows ++ r ∷ [])
fresh_push rows r partition fresh above is =
    let same : r.partition ≡ partition = ap (λ t. t.partition) is in
    let ps : row_partitions (rows ++ r ∷ []) ≡ row_partitions rows ++ partition ∷ [] =
    map-append (λ s. s.partition) rows (r ∷ [])
    ∙ ap (λ p. row_partitions rows ++ p ∷ []) same in
    record {
      rising = rw ps (all_pairs_push (λ p q. p < q) (row_partitions rows) partition fresh.rising
          (λ k d l. above k d l));
      fresh = map-append (task_of []) rows (r ∷ [])
          ∙ ap (λ ts. ts ++ task_of [] r ∷ []) fresh.fresh
          ∙ ap (λ t. map fresh_task (row_partitions rows) ++ t ∷ []) is
          ∙ sym (map-append fresh_task (row_partitions rows) (partition ∷ []))
          ∙ ap (map fresh_task) (sym ps);
    }

-- a task that was never handed out
fresh_sound : (partition : ℕ) → IsSoundTask (fresh_task partition)
fresh_sound partition =
    record {
      handed_out = All-nil (λ c. c.nth < 0);
      apart = tt;
      past = All-nil (IsPast (fresh_task partition));
      once = λ i j d lt l. absurd (omega (arith, l));
    }

-- nothing of it runs
fresh_running : (partitions : List ℕ) → running_count (map fresh_task partitions) ≡ 0
fresh_running [] = refl
fresh_running (p ∷ partitions) = omega (arith, fresh_running partitions)

-- the partitions of fresh tasks
fresh_partitions :
    (partitions : List ℕ) → map (λ t. t.partition) (map fresh_task partitions) ≡ partitions
fresh_partitions [] = refl
fresh_partitions (p ∷ partitions) = ap (λ ps. p ∷ ps) (fresh_partitions partitions)

-- a set of which nothing was handed out
pub held_fresh :
    (partitions : List ℕ) (is_map : Bool) (limits : Limits) (born taken kept : ℕ)
    → AreRising partitions → 0 < length partitions
    → IsHeld (fresh_set partitions is_map limits born) 0 taken 0 kept
held_fresh [] is_map limits born taken kept rising some = absurd (omega (arith, some))
held_fresh (p ∷ partitions) is_map limits born taken kept rising some =
    record {
      sound = record {
        rising = subst AreRising (sym (fresh_partitions (p ∷ partitions))) rising;
        some = omega arith;
        tasks = All-map IsSoundTask fresh_task (p ∷ partitions)
            (λ k d l. fresh_sound (get_or (p ∷ partitions) k d));
        ends = λ all. all;
        durations = λ i j d le l. absurd (omega (arith, l));
      };
      room = record {
        failures_fit = omega (arith, fresh_running partitions);
        durations_fit = omega (arith, fresh_running partitions);
      };
    }

-- each of some rising numbers is above those before it
pub before_below :
    (partitions : List ℕ) (i : ℕ) → AreRising partitions → i < length partitions
    → All (λ q. q < get_or partitions i 0) (take i partitions)
before_below partitions i rising l =
    All-from_get_or (λ q. q < get_or partitions i 0) (take i partitions) 0
    (λ k m. (let h : k < i = omega (arith, m, length-take i partitions) in
    rw (get_or-take i partitions k 0 h) (rising k i 0 h l)))

-- no row is on an executor
pub fresh_listed : (lists : Lists) (rows : List Row) → lists.places.items ≡ [] → AreFresh rows
    → AreListed lists rows
fresh_listed lists rows none fresh exec =
    let list : list_of lists exec ≡ [] =
    ap (λ vs. at_or (map (λ v. v.items) vs) exec []) none in
    rw list (record {
      all = λ k on. absurd (true≢false (sym on ∙ off rows k fresh.fresh));
      few = omega arith;
      within = λ k has. absurd (true≢false (sym has));
    })
  where
    off : (xs : List Row) (k : ℕ) → tasks_of [] xs ≡ map fresh_task (row_partitions xs)
        → at_or (map (is_row_on exec) xs) k false ≡ false
    off [] k is = refl
    off (x ∷ xs) zero is =
        let here : task_of [] x ≡ fresh_task x.partition = search (rules, is) in
        ap (is_task_on exec) here
    off (x ∷ xs) (suc k) is =
        let rest : tasks_of [] xs ≡ map fresh_task (row_partitions xs) = search (rules, is) in
        off xs k rest
