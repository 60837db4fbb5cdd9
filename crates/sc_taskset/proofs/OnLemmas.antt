-- Which executors a task is on, after each change of it.
use Rattle.std.proofs.Common.{◌≡◌, ℕ, ◌==◌, Bool, true, false, cond, not, ◌&&◌, ◌||◌, List, [], ◌∷◌, Option, Some, None, refl, ap, ap₂, sym, ◌∙◌, arith, rules, true≢false}
use Rattle.std.specs.List.{filter, find, list_any}
use Rattle.std.specs.Option.{option_map, unwrap_or}
use Rattle.std.proofs.lemmas.Bool.Decides.{nat_tests}
use Rattle.std.proofs.lemmas.List.Folds.{list_any-append}
use Rattle.sc_taskset.specs.declared.tasks.Finish.{Finish}
use Rattle.sc_taskset.specs.declared.tasks.Finish.TheVariants.{Unfinished, OnExecutor, InOlderSet}
use Rattle.sc_taskset.specs.declared.tasks.RunningCopy.{RunningCopy}
use Rattle.sc_taskset.specs.TaskSetData.{TaskData}
use Rattle.sc_taskset.specs.Lookups.{copy_at, is_finish, is_finish_on, is_finished, is_idle, is_nth, without_copy, without_exec}
use Rattle.sc_taskset.specs.Looks.{is_copy_on, is_task_on}
use Rattle.sc_taskset.specs.Offers.{handed_task, is_pending_task, running}
use Rattle.sc_taskset.specs.Reports.{ended_task, lost_task, succeeded_task}

-- ---- attempts

-- what is among fewer is among all
any_fewer : {A : Type 0} (test p : A → Bool) (xs : List A)
    → list_any test (filter p xs) ≡ true → list_any test xs ≡ true
any_fewer test p [] is = is
any_fewer test p (x ∷ xs) is = by (p x) (test x) refl is (any_fewer test p xs)
  where
    by : (b t : Bool) → test x ≡ t
        → list_any test (cond b (x ∷ filter p xs) (filter p xs)) ≡ true
        → (list_any test (filter p xs) ≡ true → list_any test xs ≡ true)
        → (t || list_any test xs) ≡ true
    by b true e i rest = refl
    by true false e i rest = rest (rw e at i)
    by false false e i rest = rest i

-- what is found is among them
found_any : {A : Type 0} (q test : A → Bool) (xs : List A) (x : A) → find q xs ≡ Some x
    → test x ≡ true → list_any test xs ≡ true
found_any q test [] x found is = absurd (search (rules, found))
found_any q test (y ∷ ys) x found is =
    by (q y) found (λ f. found_any q test ys x f is)
  where
    by : (b : Bool) → cond b (Some y) (find q ys) ≡ Some x
        → (find q ys ≡ Some x → list_any test ys ≡ true)
        → (test y || list_any test ys) ≡ true
    by true f rest =
        let same : y ≡ x = search (rules, f) in
        rw (same, is) refl
    by false f rest = or_true (test y) (rest f)
      where
        or_true : (b : Bool) → list_any test ys ≡ true → (b || list_any test ys) ≡ true
        or_true true r = refl
        or_true false r = r

-- none is taken away where none is on the executor
none_without : (exec : ℕ) (copies : List RunningCopy) → list_any (is_copy_on exec) copies ≡ false
    → without_exec exec copies ≡ copies
none_without exec [] none = refl
none_without exec (c ∷ copies) none = by (c.exec == exec) none (none_without exec copies)
  where
    by : (b : Bool) → (b || list_any (is_copy_on exec) copies) ≡ false
        → (list_any (is_copy_on exec) copies ≡ false → without_exec exec copies ≡ copies)
        → cond (not b) (c ∷ without_exec exec copies) (without_exec exec copies) ≡ c ∷ copies
    by true n rest = absurd (true≢false n)
    by false n rest = ap (λ cs. c ∷ cs) (rest n)

-- those on an executor are gone
without_gone : (exec : ℕ) (copies : List RunningCopy)
    → list_any (is_copy_on exec) (without_exec exec copies) ≡ false
without_gone exec [] = refl
without_gone exec (c ∷ copies) = by (c.exec == exec) refl (without_gone exec copies)
  where
    by : (b : Bool) → (c.exec == exec) ≡ b
        → list_any (is_copy_on exec) (without_exec exec copies) ≡ false
        → list_any (is_copy_on exec)
        (cond (not b) (c ∷ without_exec exec copies) (without_exec exec copies)) ≡ false
    by true e rest = rest
    by false e rest = rw e rest

-- those on another one stay
without_elsewhere : (e exec : ℕ) (copies : List RunningCopy) → (e ≡ exec → ⊥)
    → list_any (is_copy_on e) (without_exec exec copies) ≡ list_any (is_copy_on e) copies
without_elsewhere e exec [] ne = refl
without_elsewhere e exec (c ∷ copies) ne =
    by (c.exec == exec) (c.exec == e) refl refl (without_elsewhere e exec copies ne)
  where
    by : (a b : Bool) → (c.exec == exec) ≡ a → (c.exec == e) ≡ b
        → list_any (is_copy_on e) (without_exec exec copies) ≡ list_any (is_copy_on e) copies
        → list_any (is_copy_on e)
        (cond (not a) (c ∷ without_exec exec copies) (without_exec exec copies))
        ≡ (b || list_any (is_copy_on e) copies)
    by true true f g rest = absurd (ne (grind (arith, nat_tests, f, g)))
    by true false f g rest = rest
    by false true f g rest = rw g refl
    by false false f g rest = rw g rest

-- ---- one attempt more, and one less

or_assoc : (a b c : Bool) → (a || (b || c)) ≡ ((a || b) || c)
or_assoc true b c = refl
or_assoc false b c = refl

or_false : (b : Bool) → (b || false) ≡ b
or_false true = refl
or_false false = refl

-- a task that was handed out is on one executor more
pub on_handed : (e exec now : ℕ) (t : TaskData)
    → is_task_on e (handed_task exec now t) ≡ (is_task_on e t || exec == e)
on_handed e exec now t =
    ap (λ b. is_finish_on e t.finish || b)
    (list_any-append (is_copy_on e) t.copies (running t.given exec now ∷ [])
    ∙ ap (λ b. list_any (is_copy_on e) t.copies || b) (or_false (exec == e)))
    ∙ or_assoc (is_finish_on e t.finish) (list_any (is_copy_on e) t.copies) (exec == e)

-- one of which fewer attempts run is on no more
on_fewer : (e : ℕ) (p : RunningCopy → Bool) (t : TaskData)
    → (is_finish_on e t.finish || list_any (is_copy_on e) (filter p t.copies)) ≡ true
    → is_task_on e t ≡ true
on_fewer e p t is = by (is_finish_on e t.finish) is
  where
    by : (b : Bool) → (b || list_any (is_copy_on e) (filter p t.copies)) ≡ true
        → (b || list_any (is_copy_on e) t.copies) ≡ true
    by true i = refl
    by false i = any_fewer (is_copy_on e) p t.copies i

pub on_ended : (e nth : ℕ) (t : TaskData) → is_task_on e (ended_task nth t) ≡ true
    → is_task_on e t ≡ true
on_ended e nth t is = on_fewer e (λ c. not (is_nth nth c)) t is

-- one that succeeded is on no more: its attempt ran where it was finished
pub on_succeeded : (e : ℕ) (nth : Option ℕ) (t : TaskData)
    → is_task_on e (succeeded_task nth t) ≡ true → is_task_on e t ≡ true
on_succeeded e None t is = by (is_finished t) is
  where
    by : (b : Bool)
        → (is_finish_on e (cond b t.finish InOlderSet) || list_any (is_copy_on e) t.copies) ≡ true
        → is_task_on e t ≡ true
    by true i = i
    by false i = or_true (is_finish_on e t.finish) i
      where
        or_true : (b : Bool) → list_any (is_copy_on e) t.copies ≡ true
            → (b || list_any (is_copy_on e) t.copies) ≡ true
        or_true true r = refl
        or_true false r = r
on_succeeded e (Some nth) t is = by (is_finished t) (copy_at nth t.copies) refl is
  where
    left : List RunningCopy
    left = without_copy nth t.copies

    finish : Option RunningCopy → Finish
    finish o = unwrap_or (option_map (λ c. OnExecutor c.exec) o) t.finish

    by : (b : Bool) (o : Option RunningCopy) → copy_at nth t.copies ≡ o
        → (is_finish_on e (cond b t.finish (finish o)) || list_any (is_copy_on e) left) ≡ true
        → is_task_on e t ≡ true
    by true o f i = on_fewer e (λ c. not (is_nth nth c)) t i
    by false None f i = on_fewer e (λ c. not (is_nth nth c)) t i
    by false (Some c) f i = or (is_finish_on e t.finish) (c.exec == e) refl i
      where
        or : (a b : Bool) → (c.exec == e) ≡ b → (b || list_any (is_copy_on e) left) ≡ true
            → (a || list_any (is_copy_on e) t.copies) ≡ true
        or true b g i = refl
        or false true g i = found_any (is_nth nth) (is_copy_on e) t.copies c f g
        or false false g i = any_fewer (is_copy_on e) (λ d. not (is_nth nth d)) t.copies i

-- ---- losses

-- one that isn't on the lost executor stays as it is
pub lost_off : (exec : ℕ) (redoes : Bool) (t : TaskData) → is_task_on exec t ≡ false
    → lost_task exec redoes t ≡ t
lost_off exec redoes t off =
    ap₂ (λ cs f. record t { copies = cs; finish = f })
    (none_without exec t.copies (right (is_finish_on exec t.finish) off))
    (kept redoes (is_finish_on exec t.finish) (left (is_finish_on exec t.finish) off))
  where
    left : (a : Bool) → (a || list_any (is_copy_on exec) t.copies) ≡ false → a ≡ false
    left true o = absurd (true≢false o)
    left false o = refl

    right : (a : Bool) → (a || list_any (is_copy_on exec) t.copies) ≡ false
        → list_any (is_copy_on exec) t.copies ≡ false
    right true o = absurd (true≢false o)
    right false o = o

    kept : (r a : Bool) → a ≡ false → cond (r && a) Unfinished t.finish ≡ t.finish
    kept true true e = absurd (true≢false e)
    kept true false e = refl
    kept false a e = refl

-- lost twice is lost once
pub lost_twice : (exec : ℕ) (redoes : Bool) (t : TaskData)
    → lost_task exec redoes (lost_task exec redoes t) ≡ lost_task exec redoes t
lost_twice exec redoes t =
    ap₂ (λ cs f. record t { copies = cs; finish = f })
    (none_without exec (without_exec exec t.copies) (without_gone exec t.copies))
    (by redoes (is_finish_on exec t.finish) refl)
  where
    by : (r a : Bool) → is_finish_on exec t.finish ≡ a
        → cond (r && is_finish_on exec (cond (r && a) Unfinished t.finish)) Unfinished
        (cond (r && a) Unfinished t.finish)
        ≡ cond (r && a) Unfinished t.finish
    by true true e = refl
    by true false e = rw e refl
    by false a e = refl

-- it is on no more executors
pub lost_fewer : (e exec : ℕ) (redoes : Bool) (t : TaskData)
    → is_task_on e (lost_task exec redoes t) ≡ true → is_task_on e t ≡ true
lost_fewer e exec redoes t is = by (redoes && is_finish_on exec t.finish) is
  where
    by : (b : Bool)
        → (is_finish_on e (cond b Unfinished t.finish)
        || list_any (is_copy_on e) (without_exec exec t.copies)) ≡ true
        → is_task_on e t ≡ true
    by true i = or_true (is_finish_on e t.finish)
        (any_fewer (is_copy_on e) (λ c. not (c.exec == exec)) t.copies i)
      where
        or_true : (b : Bool) → list_any (is_copy_on e) t.copies ≡ true
            → (b || list_any (is_copy_on e) t.copies) ≡ true
        or_true true r = refl
        or_true false r = r
    by false i = on_fewer e (λ c. not (c.exec == exec)) t i

-- and on every other one that it was on
pub lost_elsewhere : (e exec : ℕ) (redoes : Bool) (t : TaskData) → (e ≡ exec → ⊥)
    → is_task_on e (lost_task exec redoes t) ≡ is_task_on e t
lost_elsewhere e exec redoes t ne =
    ap₂ (λ a b. a || b) (finish t.finish redoes) (without_elsewhere e exec t.copies ne)
  where
    finish : (f : Finish) (r : Bool)
        → is_finish_on e (cond (r && is_finish_on exec f) Unfinished f) ≡ is_finish_on e f
    finish Unfinished true = refl
    finish (OnExecutor by) true = or (by == exec) (by == e) refl refl
      where
        or : (a b : Bool) → (by == exec) ≡ a → (by == e) ≡ b
            → is_finish_on e (cond a Unfinished (OnExecutor by)) ≡ b
        or true true f g = absurd (ne (grind (arith, nat_tests, f, g)))
        or true false f g = refl
        or false b f g = g
    finish InOlderSet true = refl
    finish f false = refl

-- what was to be handed out still is
pub lost_pending : (exec : ℕ) (redoes : Bool) (t : TaskData) → is_pending_task t ≡ true
    → is_pending_task (lost_task exec redoes t) ≡ true
lost_pending exec redoes t is = by t.finish t.copies is
  where
    by : (f : Finish) (copies : List RunningCopy)
        → (not (is_finish f) && (is_idle copies && not t.denied)) ≡ true
        → (not (is_finish (cond (redoes && is_finish_on exec f) Unfinished f))
        && (is_idle (without_exec exec copies) && not t.denied)) ≡ true
    by Unfinished [] i = or (redoes && false) i
      where
        or : (b : Bool) → not t.denied ≡ true
            → (not (is_finish (cond b Unfinished Unfinished)) && (true && not t.denied)) ≡ true
        or true j = j
        or false j = j
    by Unfinished (c ∷ copies) i = absurd (true≢false (sym i))
    by (OnExecutor e) copies i = absurd (true≢false (sym i))
    by InOlderSet copies i = absurd (true≢false (sym i))
