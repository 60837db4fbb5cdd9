-- What each change of a task set leaves of what it hands out.
use Rattle.std.proofs.Common.{◌≡◌, ℕ, ◌+◌, ◌≤◌, ◌==◌, ◌&&◌, ◌||◌, not, Bool, true, false, cond, if◌then◌else◌, List, [], ◌∷◌, length, map, Option, Some, None, option_map, refl, ap, sym, subst, ◌∙◌, arith, true≢false}
use Rattle.std.specs.List.{list_any}
use Rattle.std.specs.Option.{unwrap_or}
use Rattle.std.proofs.lemmas.Bool.{and_parts}
use Rattle.std.proofs.lemmas.Bool.Decides.{nat_tests}
use Rattle.sc_ids.specs.declared.failures.FailureCause.{FailureCause}
use Rattle.sc_taskset.specs.Lookups.{is_finish, is_finished, is_idle, is_one_elsewhere, is_task_of, is_there_and, task_at, with_task}
use Rattle.sc_taskset.specs.Offers.{given_in, given_of, handed, handed_task, is_copyable_task, is_pending_task, is_slow, may_be_given}
use Rattle.sc_taskset.specs.Reports.{after_end, after_failure, after_held, after_loss, after_success, as_zombie, ended_task, failed_task, finish_by, held_task, is_counted_in, is_failure, lost_task, noted_task, redoes_lost, succeeded_task}
use Rattle.sc_taskset.specs.TaskSetData.{TaskData, TaskSetData}
use Rattle.sc_taskset.specs.declared.tasks.RunningCopy.{RunningCopy}
use Rattle.sc_taskset.proofs.LawLemmas.{task_changed, task_other}
use Rattle.sc_bound.specs.Sets.{is_open, is_wanted_task}

-- ---- a change that hands nothing out

-- of a partition nothing more is handed out, and nothing that wasn't may be
pub record Fewer (p : ℕ) (x y : TaskSetData) : Type 0 where
  pub given : given_of y p ≡ given_of x p
  pub opens_none : is_open (Some y) p ≡ true → is_open (Some x) p ≡ true

-- a zombie stays one, and what isn't wanted stays so
shuts : (x y u v : Bool) → (x ≡ true → y ≡ true) → (v ≡ true → u ≡ true)
    → (not y && v) ≡ true → (not x && u) ≡ true
shuts true true u v z w h = absurd (true≢false (sym h))
shuts true false u v z w h = absurd (true≢false (sym (z refl)))
shuts false true u v z w h = absurd (true≢false (sym h))
shuts false false u v z w h = w h

-- a task that is changed
KeepsShut : (TaskData → TaskData) → Type 0
KeepsShut f =
    (t : TaskData) → is_wanted_task (Some (f t)) ≡ true → is_wanted_task (Some t) ≡ true

wanted_with : (q p : ℕ) (f : TaskData → TaskData) → ((t : TaskData) → (f t).partition ≡ t.partition)
    → KeepsShut f → (tasks : List TaskData)
    → is_wanted_task (task_at p (with_task q f tasks)) ≡ true
    → is_wanted_task (task_at p tasks) ≡ true
unfolding KeepsShut
wanted_with q p f same shut tasks h = by (q == p) refl
  where
    mapped : (o : Option TaskData) → is_wanted_task (option_map f o) ≡ true
        → is_wanted_task o ≡ true
    mapped None k = k
    mapped (Some t) k = shut t k

    by : (b : Bool) → (q == p) ≡ b → is_wanted_task (task_at p tasks) ≡ true
    by true e =
        let is : q ≡ p = grind (arith, nat_tests, e) in
        subst (λ n. is_wanted_task (task_at n (with_task q f tasks)) ≡ true
        → is_wanted_task (task_at n tasks) ≡ true) is
        (λ k. mapped (task_at q tasks)
        (sym (ap is_wanted_task (task_changed q f same tasks)) ∙ k)) h
    by false e = sym (ap is_wanted_task (task_other q p f e same tasks)) ∙ h

given_with : (q p : ℕ) (f : TaskData → TaskData) → ((t : TaskData) → (f t).partition ≡ t.partition)
    → ((t : TaskData) → (f t).given ≡ t.given) → (tasks : List TaskData)
    → given_in (task_at p (with_task q f tasks)) ≡ given_in (task_at p tasks)
given_with q p f same given tasks = by (q == p) refl
  where
    mapped : (o : Option TaskData) → given_in (option_map f o) ≡ given_in o
    mapped None = refl
    mapped (Some t) = given t

    by : (b : Bool) → (q == p) ≡ b
        → given_in (task_at p (with_task q f tasks)) ≡ given_in (task_at p tasks)
    by true e =
        let is : q ≡ p = grind (arith, nat_tests, e) in
        subst (λ n. given_in (task_at n (with_task q f tasks)) ≡ given_in (task_at n tasks)) is
        (ap given_in (task_changed q f same tasks) ∙ mapped (task_at q tasks))
    by false e = ap given_in (task_other q p f e same tasks)

-- a success finishes, or leaves what was finished so
success_shut : (nth : Option ℕ) (t : TaskData)
    → is_wanted_task (Some (succeeded_task nth t)) ≡ true → is_wanted_task (Some t) ≡ true
success_shut nth t h = by (is_finished t) refl h
  where
    by : (b : Bool) → is_finished t ≡ b
        → (not (is_finish (if b then t.finish else unwrap_or (finish_by nth t) t.finish))
        && not t.denied) ≡ true
        → (not (is_finished t) && not t.denied) ≡ true
    by true e k = k
    by false e k = rw e (and_parts _ (not t.denied) k).1

pub success_fewer : (set : TaskSetData) (q : ℕ) (nth : Option ℕ) (now p : ℕ)
    → Fewer p set (after_success set q nth now)
unfolding KeepsShut
success_fewer set q nth now p =
    record {
      given = given_with q p (succeeded_task nth) (λ t. refl) (λ t. refl) set.tasks;
      opens_none = shuts set.is_zombie (after_success set q nth now).is_zombie
          (is_wanted_task (task_at p set.tasks))
          (is_wanted_task (task_at p (after_success set q nth now).tasks))
          (λ z. rw z refl)
          (wanted_with q p (succeeded_task nth) (λ t. refl) (success_shut nth) set.tasks);
    }

pub end_fewer : (set : TaskSetData) (q nth p : ℕ) → Fewer p set (after_end set q nth)
unfolding KeepsShut
end_fewer set q nth p =
    record {
      given = given_with q p (ended_task nth) (λ t. refl) (λ t. refl) set.tasks;
      opens_none = shuts set.is_zombie set.is_zombie (is_wanted_task (task_at p set.tasks))
          (is_wanted_task (task_at p (after_end set q nth).tasks)) (λ z. z)
          (wanted_with q p (ended_task nth) (λ t. refl) (λ t h. h) set.tasks);
    }

-- a failure leaves all but the attempts and the failures as they were
failed : Bool → ℕ → TaskData → TaskData
failed b nth t = if b then noted_task nth (ended_task nth t) else ended_task nth t

failed_part : (b : Bool) (nth : ℕ) (t : TaskData) → (failed b nth t).partition ≡ t.partition
unfolding failed
failed_part true nth t = refl
failed_part false nth t = refl

failed_given : (b : Bool) (nth : ℕ) (t : TaskData) → (failed b nth t).given ≡ t.given
unfolding failed
failed_given true nth t = refl
failed_given false nth t = refl

failed_shut : (b : Bool) (nth : ℕ) (t : TaskData)
    → is_wanted_task (Some (failed b nth t)) ≡ true → is_wanted_task (Some t) ≡ true
unfolding failed
failed_shut true nth t h = h
failed_shut false nth t h = h

pub failure_fewer : (set : TaskSetData) (q nth : ℕ) (cause : FailureCause) (p : ℕ)
    → Fewer p set (after_failure set q nth cause)
unfolding KeepsShut failed
failure_fewer set q nth cause p =
    record {
      given = given_with q p f (λ t. failed_part (fails t) nth t)
          (λ t. failed_given (fails t) nth t)
          set.tasks;
      opens_none = shuts set.is_zombie set.is_zombie (is_wanted_task (task_at p set.tasks))
          (is_wanted_task (task_at p (after_failure set q nth cause).tasks)) (λ z. z)
          (wanted_with q p f (λ t. failed_part (fails t) nth t)
          (λ t h. failed_shut (fails t) nth t h) set.tasks);
    }
  where
    fails : TaskData → Bool
    fails t = is_failure (is_counted_in set cause) nth t

    f : TaskData → TaskData
    f = failed_task (is_counted_in set cause) nth

pub zombie_fewer : (set : TaskSetData) (p : ℕ) → Fewer p set (as_zombie set)
zombie_fewer set p = record { given = refl; opens_none = λ h. absurd (true≢false (sym h)) }

pub same_fewer : (set : TaskSetData) (p : ℕ) → Fewer p set set
same_fewer set p = record { given = refl; opens_none = λ h. h }

pub then_fewer : (x y z : TaskSetData) (p : ℕ) → Fewer p x y → Fewer p y z → Fewer p x z
then_fewer x y z p h k =
    record { given = k.given ∙ h.given; opens_none = λ o. h.opens_none (k.opens_none o) }

-- a partition is held back
pub held_fewer : (set : TaskSetData) (q p : ℕ) → Fewer p set (after_held set q true)
unfolding KeepsShut
held_fewer set q p =
    record {
      given = given_with q p (held_task true) (λ t. refl) (λ t. refl) set.tasks;
      opens_none = shuts set.is_zombie set.is_zombie (is_wanted_task (task_at p set.tasks))
          (is_wanted_task (task_at p (after_held set q true).tasks)) (λ z. z)
          (wanted_with q p (held_task true) (λ t. refl) (λ t h. none (not (is_finished t)) t h)
          set.tasks);
    }
  where
    none : (b : Bool) (t : TaskData) → (b && false) ≡ true → is_wanted_task (Some t) ≡ true
    none true t h = absurd (true≢false (sym h))
    none false t h = absurd (true≢false (sym h))

-- whether another partition is held back doesn't matter
pub other_fewer : (set : TaskSetData) (q : ℕ) (denied : Bool) (p : ℕ) → (q == p) ≡ false
    → Fewer p set (after_held set q denied)
other_fewer set q denied p apart =
    let same = task_other q p (held_task denied) apart (λ t. refl) set.tasks in
    record {
      given = ap given_in same;
      opens_none = λ h. sym (ap (λ o. not set.is_zombie && is_wanted_task o) same) ∙ h;
    }

-- how often a partition was handed out stays so, whatever is held back or lost
pub held_given : (set : TaskSetData) (q : ℕ) (denied : Bool) (p : ℕ)
    → given_of (after_held set q denied) p ≡ given_of set p
held_given set q denied p =
    given_with q p (held_task denied) (λ t. refl) (λ t. refl) set.tasks

-- nor does a loss change it
pub lost_given : (set : TaskSetData) (exec p : ℕ)
    → given_of (after_loss set exec) p ≡ given_of set p
lost_given set exec p = by set.tasks
  where
    f : TaskData → TaskData
    f = lost_task exec (redoes_lost set)

    by : (tasks : List TaskData)
        → given_in (task_at p (map (lost_task exec (redoes_lost set)) tasks))
        ≡ given_in (task_at p tasks)
    by [] = refl
    by (t ∷ tasks) = one (is_task_of p t) (by tasks)
      where
        one : (b : Bool)
            → given_in (task_at p (map (lost_task exec (redoes_lost set)) tasks))
            ≡ given_in (task_at p tasks)
            → given_in (cond b (Some (lost_task exec (redoes_lost set) t))
            (task_at p (map (lost_task exec (redoes_lost set)) tasks)))
            ≡ given_in (cond b (Some t) (task_at p tasks))
        one true h = refl
        one false h = h

-- a success in an older set finishes the partition
pub older_shut : (set : TaskSetData) (p now : ℕ)
    → is_open (Some (after_success set p None now)) p ≡ false
older_shut set p now =
    ap (λ o. not (after_success set p None now).is_zombie && is_wanted_task o)
    (task_changed p (succeeded_task None) (λ t. refl) set.tasks)
    ∙ by (not (after_success set p None now).is_zombie) (task_at p set.tasks)
  where
    none : (b : Bool) → (b && false) ≡ false
    none true = refl
    none false = refl

    done : (t : TaskData) → is_wanted_task (Some (succeeded_task None t)) ≡ false
    done t = one (is_finished t) refl
      where
        one : (b : Bool) → is_finished t ≡ b
            → (not (is_finish (if b then t.finish else unwrap_or (finish_by None t) t.finish))
            && not t.denied) ≡ false
        one true e = rw e refl
        one false e = refl

    by : (b : Bool) (o : Option TaskData)
        → (b && is_wanted_task (option_map (succeeded_task None) o)) ≡ false
    by b None = none b
    by b (Some t) = ap (λ x. b && x) (done t) ∙ none b

-- ---- a hand-out

-- what may be handed out is open, and at most one attempt of it runs
pub record MayBe (set : TaskSetData) (p : ℕ) : Type 0 where
  pub task : TaskData
  pub there : task_at p set.tasks ≡ Some task
  pub is_open_now : is_open (Some set) p ≡ true
  pub few : length task.copies ≤ 1

pub may_be : (set : TaskSetData) (exec now p : ℕ) → may_be_given set exec now p ≡ true
    → MayBe set p
may_be set exec now p may = by set.is_zombie refl (task_at p set.tasks) refl may
  where
    idle : (cs : List RunningCopy) → is_idle cs ≡ true → length cs ≤ 1
    idle [] e = omega arith
    idle (c ∷ cs) e = absurd (true≢false (sym e))

    single : (cs : List RunningCopy) → is_one_elsewhere exec cs ≡ true → length cs ≤ 1
    single [] e = omega arith
    single (c ∷ []) e = omega arith
    single (c ∷ d ∷ cs) e = absurd (true≢false (sym e))

    few : (a b : Bool) (cs : List RunningCopy) (d w x : Bool) → is_idle cs ≡ a
        → is_one_elsewhere exec cs ≡ b
        → ((not d && (a && not w)) || (not d && (b && (not w && x)))) ≡ true
        → length cs ≤ 1
    few true b cs d w x e f h = idle cs e
    few false true cs d w x e f h = single cs f
    few false false cs d w x e f h = absurd (grind (arith, nat_tests, h))

    wanted : (d w a b x : Bool)
        → ((not d && (a && not w)) || (not d && (b && (not w && x)))) ≡ true
        → (not d && not w) ≡ true
    wanted false false a b x h = refl
    wanted false true a b x h = absurd (grind (arith, nat_tests, h))
    wanted true w a b x h = absurd (true≢false (sym h))

    drop_first : (c y z : Bool) → (y || (c && z)) ≡ true → (y || z) ≡ true
    drop_first true y z h = h
    drop_first false true z h = refl
    drop_first false false z h = absurd (true≢false (sym h))

    by : (z : Bool) → set.is_zombie ≡ z → (o : Option TaskData) → task_at p set.tasks ≡ o
        → ((not z && is_there_and is_pending_task o)
        || (set.limits.speculation
        && (not z && is_there_and (is_copyable_task (is_slow set now) exec) o))) ≡ true
        → MayBe set p
    by true e o f h = absurd (grind (arith, nat_tests, h))
    by false e None f h = absurd (grind (arith, nat_tests, h))
    by false e (Some t) f h =
        let one = drop_first set.limits.speculation (is_pending_task t)
        (is_copyable_task (is_slow set now) exec t) h in
        record {
          task = t;
          there = f;
          is_open_now = rw (e, f)
              (wanted (is_finished t) t.denied (is_idle t.copies)
              (is_one_elsewhere exec t.copies) (list_any (is_slow set now) t.copies) one);
          few = few (is_idle t.copies) (is_one_elsewhere exec t.copies) t.copies (is_finished t)
              t.denied (list_any (is_slow set now) t.copies) refl refl one;
        }

-- one more was handed out of it
pub handed_one : (set : TaskSetData) (exec now p : ℕ) → MayBe set p
    → given_of (handed set p exec now) p ≡ given_of set p + 1
handed_one set exec now p m =
    ap given_in (task_changed p (handed_task exec now) (λ t. refl) set.tasks)
    ∙ rw m.there refl

pub handed_other : (set : TaskSetData) (exec now q p : ℕ) → (q == p) ≡ false
    → given_of (handed set q exec now) p ≡ given_of set p
handed_other set exec now q p apart =
    ap given_in (task_other q p (handed_task exec now) apart (λ t. refl) set.tasks)

-- and as much is open
pub handed_open : (set : TaskSetData) (exec now q p : ℕ)
    → is_open (Some (handed set q exec now)) p ≡ true → is_open (Some set) p ≡ true
unfolding KeepsShut
handed_open set exec now q p =
    shuts set.is_zombie set.is_zombie (is_wanted_task (task_at p set.tasks))
    (is_wanted_task (task_at p (handed set q exec now).tasks)) (λ z. z)
    (wanted_with q p (handed_task exec now) (λ t. refl) (λ t h. h) set.tasks)
