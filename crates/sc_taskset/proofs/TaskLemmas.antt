-- What every change of a task keeps.
use Rattle.std.proofs.Common.{◌≡◌, ℕ, ◌+◌, ◌<◌, ◌==◌, Bool, true, false, cond, not, ◌&&◌, ◌||◌, List, [], ◌∷◌, ◌++◌, Option, Some, None, refl, arith, rules}
use Rattle.std.specs.List.{All, filter, list_any}
use Rattle.std.proofs.lemmas.List.Elements.{All-head, All-tail, All-push, All-weaker, All-filter, All-get_or}
use Rattle.std.proofs.lemmas.List.Quantifiers.{all_pairs_push}
use Rattle.std.proofs.lemmas.Bool.Decides.{nat_tests}
use Rattle.sc_taskset.specs.declared.tasks.RunningCopy.{RunningCopy}
use Rattle.sc_taskset.specs.TaskSetData.{TaskData}
use Rattle.sc_taskset.specs.Lookups.{is_nth, is_running, is_idle, is_one_elsewhere, without_exec}
use Rattle.sc_taskset.specs.Offers.{handed_task, running}
use Rattle.sc_taskset.specs.Reports.{ended_task, noted_task, failed_task, held_task, lost_task, succeeded_task}
use Rattle.sc_taskset.specs.Sound.{AreApart, IsPast, IsSoundTask}

-- fewer attempts are apart
apart_filter :
    (p : RunningCopy → Bool) (copies : List RunningCopy) → AreApart copies
    → AreApart (filter p copies)
apart_filter p [] apart = apart
apart_filter p (c ∷ []) apart = by (p c)
  where
    by : (b : Bool) → AreApart (cond b (c ∷ []) [])
    by true = tt
    by false = tt
apart_filter p (c ∷ d ∷ []) apart = by (p c) (p d)
  where
    inner : (b : Bool) → AreApart (cond b (d ∷ []) [])
    inner true = tt
    inner false = tt

    by : (a b : Bool) → AreApart (cond a (c ∷ cond b (d ∷ []) []) (cond b (d ∷ []) []))
    by true true = apart
    by true false = tt
    by false b = inner b
apart_filter p (c ∷ d ∷ e ∷ copies) apart = absurd apart

-- what doesn't run among all doesn't run among fewer
any_filter :
    {A : Type 0} (test p : A → Bool) (xs : List A) → list_any test xs ≡ false
    → list_any test (filter p xs) ≡ false
any_filter test p [] none = none
any_filter test p (x ∷ xs) none =
    by (p x) (any_filter test p xs (grind (arith, nat_tests, none)))
  where
    by : (b : Bool) → list_any test (filter p xs) ≡ false
        → list_any test (cond b (x ∷ filter p xs) (filter p xs)) ≡ false
    by true rest = grind (arith, nat_tests, none, rest)
    by false rest = rest

-- an attempt taken away doesn't run
any_without :
    {A : Type 0} (test : A → Bool) (xs : List A)
    → list_any test (filter (λ x. not (test x)) xs) ≡ false
any_without test [] = refl
any_without test (x ∷ xs) = by (test x) refl (any_without test xs)
  where
    by : (b : Bool) → test x ≡ b → list_any test (filter (λ y. not (test y)) xs) ≡ false
        → list_any test (cond (not b) (x ∷ filter (λ y. not (test y)) xs)
        (filter (λ y. not (test y)) xs)) ≡ false
    by true is rest = rest
    by false is rest = rw is rest

-- what runs was handed out
running_below :
    (nth given : ℕ) (copies : List RunningCopy) → All (λ c. c.nth < given) copies
    → is_running nth copies ≡ true → nth < given
running_below nth given [] all is = absurd (search (rules, is))
running_below nth given (c ∷ copies) all is =
    by (c.nth == nth) refl is
    (λ r. running_below nth given copies (All-tail (λ d. d.nth < given) c copies all) r)
  where
    by : (b : Bool) → (c.nth == nth) ≡ b → (b || is_running nth copies) ≡ true
        → (is_running nth copies ≡ true → nth < given) → nth < given
    by true e i rest =
        let h : c.nth < given = All-head (λ d. d.nth < given) c copies all in
        grind (arith, nat_tests, e, h)
    by false e i rest = rest i

-- a number that runs and one that doesn't are two
running_apart :
    (m nth : ℕ) (copies : List RunningCopy) → is_running m copies ≡ false
    → is_running nth copies ≡ true → (m == nth) ≡ false
running_apart m nth copies none is = by (m == nth) refl
  where
    by : (b : Bool) → (m == nth) ≡ b → b ≡ false
    by true e =
        let same : m ≡ nth = grind (arith, nat_tests, e) in
        absurd (search (rules, rw same at none, is))
    by false e = refl

-- one more attempt, of another number, makes no other run
any_push :
    (m nth exec now : ℕ) (copies : List RunningCopy) → is_running m copies ≡ false
    → (nth == m) ≡ false → is_running m (copies ++ running nth exec now ∷ []) ≡ false
any_push m nth exec now [] none other = rw other
any_push m nth exec now (c ∷ copies) none other =
    by (c.nth == m) none (λ r. any_push m nth exec now copies r other)
  where
    by : (b : Bool) → (b || is_running m copies) ≡ false
        → (is_running m copies ≡ false
        → is_running m (copies ++ running nth exec now ∷ []) ≡ false)
        → (b || is_running m (copies ++ running nth exec now ∷ [])) ≡ false
    by true n rest = absurd (search (rules, n))
    by false n rest = rest n

-- a task with fewer attempts
pub sound_fewer :
    (p : RunningCopy → Bool) (t : TaskData) → IsSoundTask t
    → IsSoundTask (record t { copies = filter p t.copies })
sound_fewer p t s =
    record {
      handed_out = All-filter p (λ c. c.nth < t.given) t.copies s.handed_out;
      apart = apart_filter p t.copies s.apart;
      past = All-weaker (IsPast t) (IsPast (record t { copies = filter p t.copies }))
          (λ nth is. record {
            handed_out = is.handed_out;
            ended = any_filter (is_nth nth) p t.copies is.ended;
          })
          t.failures s.past;
      once = s.once;
    }

-- a task after an attempt ended
pub sound_ended : (nth : ℕ) (t : TaskData) → IsSoundTask t → IsSoundTask (ended_task nth t)
sound_ended nth t s = sound_fewer (λ c. not (is_nth nth c)) t s

-- a task after a failure of an attempt that ran
sound_noted :
    (nth : ℕ) (t : TaskData) → is_running nth t.copies ≡ true → IsSoundTask t
    → IsSoundTask (noted_task nth (ended_task nth t))
sound_noted nth t runs s =
    let e = sound_ended nth t s in
    record {
      handed_out = e.handed_out;
      apart = e.apart;
      past = All-push (IsPast (noted_task nth (ended_task nth t))) t.failures nth
          (All-weaker (IsPast (ended_task nth t)) (IsPast (noted_task nth (ended_task nth t)))
          (λ m is. record { handed_out = is.handed_out; ended = is.ended }) t.failures e.past)
          (record {
            handed_out = running_below nth t.given t.copies s.handed_out runs;
            ended = any_without (is_nth nth) t.copies;
          });
      once = all_pairs_push (λ m n. (m == n) ≡ false) t.failures nth s.once
          (λ k d l. running_apart _ nth t.copies
          (All-get_or (IsPast t) t.failures k d l s.past).ended runs);
    }

-- a task after a failure
pub sound_failed :
    (counts : Bool) (nth : ℕ) (t : TaskData) → IsSoundTask t
    → IsSoundTask (failed_task counts nth t)
sound_failed counts nth t s = by counts (is_running nth t.copies) refl
  where
    by : (a b : Bool) → is_running nth t.copies ≡ b
        → IsSoundTask (cond (a && b) (noted_task nth (ended_task nth t)) (ended_task nth t))
    by true true runs = sound_noted nth t runs s
    by true false runs = sound_ended nth t s
    by false b runs = sound_ended nth t s

-- a task after a success
pub sound_succeeded :
    (nth : Option ℕ) (t : TaskData) → IsSoundTask t → IsSoundTask (succeeded_task nth t)
sound_succeeded None t s =
    record {
      handed_out = s.handed_out;
      apart = s.apart;
      past = All-weaker (IsPast t) (IsPast (succeeded_task None t))
          (λ m is. record { handed_out = is.handed_out; ended = is.ended }) t.failures s.past;
      once = s.once;
    }
sound_succeeded (Some nth) t s =
    let e = sound_ended nth t s in
    record {
      handed_out = e.handed_out;
      apart = e.apart;
      past = All-weaker (IsPast (ended_task nth t)) (IsPast (succeeded_task (Some nth) t))
          (λ m is. record { handed_out = is.handed_out; ended = is.ended }) t.failures e.past;
      once = e.once;
    }

-- a task that was told of a grant
pub sound_held : (denied : Bool) (t : TaskData) → IsSoundTask t → IsSoundTask (held_task denied t)
sound_held denied t s =
    record {
      handed_out = s.handed_out;
      apart = s.apart;
      past = All-weaker (IsPast t) (IsPast (held_task denied t))
          (λ m is. record { handed_out = is.handed_out; ended = is.ended }) t.failures s.past;
      once = s.once;
    }

-- a task after an executor was lost
pub sound_lost :
    (exec : ℕ) (redoes : Bool) (t : TaskData) → IsSoundTask t
    → IsSoundTask (lost_task exec redoes t)
sound_lost exec redoes t s =
    let e = sound_fewer (λ c. not (c.exec == exec)) t s in
    record {
      handed_out = e.handed_out;
      apart = e.apart;
      past = All-weaker (IsPast (record t { copies = without_exec exec t.copies }))
          (IsPast (lost_task exec redoes t))
          (λ m is. record { handed_out = is.handed_out; ended = is.ended }) t.failures e.past;
      once = e.once;
    }

-- an attempt may join: nothing runs, or one attempt does, on another executor
abbrev pub may_join : ℕ → TaskData → Bool
may_join exec t = is_idle t.copies || is_one_elsewhere exec t.copies

-- one more attempt is apart from the one that runs
apart_push :
    (given exec now : ℕ) (copies : List RunningCopy) → All (λ c. c.nth < given) copies
    → (is_idle copies || is_one_elsewhere exec copies) ≡ true
    → AreApart (copies ++ running given exec now ∷ [])
apart_push given exec now [] all joins = tt
apart_push given exec now (c ∷ []) all joins =
    let h : c.nth < given = All-head (λ d. d.nth < given) c [] all in
    (grind (arith, nat_tests, h), grind (arith, nat_tests, joins))
apart_push given exec now (c ∷ d ∷ copies) all joins = absurd (search (rules, joins))

-- a task after one more hand-out
pub sound_handed :
    (exec now : ℕ) (t : TaskData) → may_join exec t ≡ true → IsSoundTask t
    → IsSoundTask (handed_task exec now t)
sound_handed exec now t joins s =
    record {
      handed_out = All-push (λ c. c.nth < t.given + 1) t.copies (running t.given exec now)
          (All-weaker (λ c. c.nth < t.given) (λ c. c.nth < t.given + 1) (λ c h. omega (arith, h))
          t.copies s.handed_out) (omega arith);
      apart = apart_push t.given exec now t.copies s.handed_out joins;
      past = All-weaker (IsPast t) (IsPast (handed_task exec now t))
          (λ m is. record {
            handed_out = omega (arith, is.handed_out);
            ended = any_push m t.given exec now t.copies is.ended
                (let h : m < t.given = is.handed_out in grind (arith, nat_tests, h));
          })
          t.failures s.past;
      once = s.once;
    }
