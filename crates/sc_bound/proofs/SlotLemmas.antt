-- What each change of the stages of a job does to the task set of a number.
use Rattle.std.proofs.Common.{◌≡◌, ◌⊎◌, inl, inr, ℕ, zero, suc, ◌+◌, ◌-◌, ◌<◌, ◌≤◌, Bool, true, false, if◌then◌else◌, List, [], ◌∷◌, ◌++◌, length, map, nat_lt, Option, Some, None, option_map, slice_get, refl, ap, sym, subst, ◌∙◌, arith}
use Rattle.std.proofs.lemmas.Bool.{cases_eq}
use Rattle.std.proofs.lemmas.Bool.Decides.{nat_tests}
use Rattle.std.proofs.lemmas.List.{length-append, length-map}
use Rattle.std.proofs.lemmas.Option.{slice_get-map, slice_get_past}
use Rattle.sc_ids.specs.Changes.{change_at}
use Rattle.sc_ids.specs.declared.attempts.AttemptId.{AttemptId}
use Rattle.sc_ids.proofs.ChangeLemmas.{length_change_at, slice_get_change_other, slice_get_change_same}
use Rattle.sc_taskset.specs.Reports.{after_held, after_loss, as_zombie}
use Rattle.sc_taskset.specs.TaskSetData.{TaskSetData}
use Rattle.sc_dag.specs.DagData.{DagData, StageState, changed_newest, changed_set, place_of_attempt, set_in, stage_at, stage_attempt, with_attempts, with_set, with_state}
use Rattle.sc_dag.specs.Losses.{after_lost}
use Rattle.sc_dag.specs.Offers.{newest_number, number_in}
use Rattle.sc_dag.specs.Outputs.{has_inputs}
use Rattle.sc_dag.specs.Reports.{after_hold, completed, failed_attempt, forgiven, in_own_set, told_held, with_failed, with_result}
use Rattle.sc_dag.specs.Submission.{IsSubmitted, as_waiting, moved_if, new_set, started}
use Rattle.sc_dag.specs.declared.attempts.StageAttempt.{StageAttempt}
use Rattle.sc_dag.proofs.Items.{by_number_at}
use Rattle.sc_bound.specs.Numbered.{set_at, set_numbered}

-- ---- attempts by their places

-- the task set at a place
abbrev set_placed : List StageAttempt → ℕ → Option TaskSetData
set_placed xs i = set_in (slice_get xs i)

abbrev place_in : ℕ → List StageAttempt → ℕ → ℕ
place_in before xs k = if nat_lt k before then length xs else k - before

of_set : (g : TaskSetData → TaskSetData) (o : Option StageAttempt)
    → set_in (option_map (with_set g) o) ≡ option_map g (set_in o)
of_set g None = refl
of_set g (Some x) = refl

-- the one that is changed
placed_here : (xs : List StageAttempt) (i j : ℕ) (g : TaskSetData → TaskSetData) → j ≡ i
    → set_placed (change_at xs i (with_set g)) j ≡ option_map g (set_placed xs j)
placed_here xs i j g e =
    subst (λ (n : ℕ). set_placed (change_at xs i (with_set g)) n ≡ option_map g (set_placed xs n))
    (sym e)
    (ap set_in (slice_get_change_same xs i (with_set g)) ∙ of_set g (slice_get xs i))

-- none past the end
placed_past : (xs : List StageAttempt) (j : ℕ) → length xs ≤ j → set_placed xs j ≡ None
placed_past xs j le = ap set_in (slice_get_past xs j le)

changed_past : (xs : List StageAttempt) (i j : ℕ) (f : StageAttempt → StageAttempt)
    → length xs ≤ j → set_placed (change_at xs i f) j ≡ set_placed xs j
changed_past xs i j f le =
    placed_past (change_at xs i f) j (rw (length_change_at xs i f) le)
    ∙ sym (placed_past xs j le)

-- by its number, where the number of attempts stays
renumbered : (state after : StageState) (k : ℕ) → after.before ≡ state.before
    → length after.attempts ≡ length state.attempts
    → set_numbered (Some after) k
    ≡ set_placed after.attempts (place_in state.before state.attempts k)
renumbered state after k same long =
    rw (same, long) refl

-- ---- one attempt of a stage changed

own_here : (state : StageState) (n : ℕ) (g : TaskSetData → TaskSetData)
    → set_numbered (Some (changed_set n g state)) n
    ≡ option_map g (set_numbered (Some state) n)
own_here state n g =
    renumbered state (changed_set n g state) n refl
    (length_change_at state.attempts (place_of_attempt state n) (with_set g))
    ∙ placed_here state.attempts (place_of_attempt state n) (place_of_attempt state n) g refl

-- the attempts of other numbers stay
other_at : (state : StageState) (i k : ℕ) (f : StageAttempt → StageAttempt)
    → (place_of_attempt state k ≡ i → length state.attempts ≤ place_of_attempt state k)
    → set_numbered (Some (with_attempts state (change_at state.attempts i f))) k
    ≡ set_numbered (Some state) k
other_at state i k f past =
    renumbered state (with_attempts state (change_at state.attempts i f)) k refl
    (length_change_at state.attempts i f)
    ∙ by (cases_eq (place_of_attempt state k) i)
  where
    by : (place_of_attempt state k ≡ i) ⊎ (place_of_attempt state k ≡ i → ⊥)
        → set_placed (change_at state.attempts i f) (place_of_attempt state k)
        ≡ set_placed state.attempts (place_of_attempt state k)
    by (inl e) = changed_past state.attempts i (place_of_attempt state k) f (past e)
    by (inr ne) =
        ap set_in (slice_get_change_other state.attempts i (place_of_attempt state k) f ne)

-- two numbers of one place are one, or past the end
one_place : (before l k n : ℕ) → (k ≡ n → ⊥)
    → (if nat_lt k before then l else k - before) ≡ (if nat_lt n before then l else n - before)
    → l ≤ (if nat_lt k before then l else k - before)
one_place before l k n ne e = by (nat_lt k before) refl (nat_lt n before) refl e
  where
    by : (x : Bool) → nat_lt k before ≡ x → (y : Bool) → nat_lt n before ≡ y
        → (if x then l else k - before) ≡ (if y then l else n - before)
        → l ≤ (if x then l else k - before)
    by true f y g h = omega arith
    by false f true g h = omega (arith, h)
    by false f false g h =
        let a : before ≤ k = grind (arith, nat_tests, f) in
        let b : before ≤ n = grind (arith, nat_tests, g) in
        absurd (ne (omega (arith, a, b, h)))

own_other : (state : StageState) (n k : ℕ) (f : StageAttempt → StageAttempt) → (k ≡ n → ⊥)
    → set_numbered (Some (with_attempts state
    (change_at state.attempts (place_of_attempt state n) f))) k
    ≡ set_numbered (Some state) k
own_other state n k f ne =
    other_at state (place_of_attempt state n) k f
    (one_place state.before (length state.attempts) k n ne)

-- the newest one
newest_place : (before l k : ℕ) → k ≡ before + (l - 1)
    → (if nat_lt k before then l else k - before) ≡ l - 1
newest_place before l k e = by (nat_lt k before) refl
  where
    by : (x : Bool) → nat_lt k before ≡ x → (if x then l else k - before) ≡ l - 1
    by true f = absurd (grind (arith, nat_tests, f, e))
    by false f = omega (arith, e)

other_place : (before l k : ℕ) → (k ≡ before + (l - 1) → ⊥)
    → (if nat_lt k before then l else k - before) ≡ l - 1
    → l ≤ (if nat_lt k before then l else k - before)
other_place before l k ne e = by (nat_lt k before) refl e
  where
    by : (x : Bool) → nat_lt k before ≡ x → (if x then l else k - before) ≡ l - 1
        → l ≤ (if x then l else k - before)
    by true f h = omega arith
    by false f h =
        let a : before ≤ k = grind (arith, nat_tests, f) in
        absurd (ne (omega (arith, a, h)))

newest_here : (state : StageState) (k : ℕ) (g : TaskSetData → TaskSetData)
    → k ≡ state.before + (length state.attempts - 1)
    → set_numbered (Some (changed_newest g state)) k ≡ option_map g (set_numbered (Some state) k)
newest_here state k g e =
    renumbered state (changed_newest g state) k refl
    (length_change_at state.attempts (length state.attempts - 1) (with_set g))
    ∙ placed_here state.attempts (length state.attempts - 1) (place_of_attempt state k) g
    (newest_place state.before (length state.attempts) k e)

newest_other : (state : StageState) (k : ℕ) (g : TaskSetData → TaskSetData)
    → (k ≡ state.before + (length state.attempts - 1) → ⊥)
    → set_numbered (Some (changed_newest g state)) k ≡ set_numbered (Some state) k
newest_other state k g ne =
    other_at state (length state.attempts - 1) k (with_set g)
    (other_place state.before (length state.attempts) k ne)

-- ---- in a job

-- the stage that is changed, and the others
pub stage_here : (d : DagData) (s : ℕ) (f : StageState → StageState) (k : ℕ)
    → set_at (with_state d s f) s k ≡ set_numbered (option_map f (slice_get d.states s)) k
stage_here d s f k = ap (λ o. set_numbered o k) (slice_get_change_same d.states s f)

pub stage_other : (d : DagData) (s r : ℕ) (f : StageState → StageState) (k : ℕ) → (r ≡ s → ⊥)
    → set_at (with_state d s f) r k ≡ set_at d r k
stage_other d s r f k ne = ap (λ o. set_numbered o k) (slice_get_change_other d.states s r f ne)

-- a change of a stage that leaves its task sets
pub stage_same : (d : DagData) (s r : ℕ) (f : StageState → StageState) (k : ℕ)
    → ((state : StageState) → set_numbered (Some (f state)) k ≡ set_numbered (Some state) k)
    → set_at (with_state d s f) r k ≡ set_at d r k
stage_same d s r f k same = by (cases_eq r s)
  where
    one : (o : Option StageState) → set_numbered (option_map f o) k ≡ set_numbered o k
    one None = refl
    one (Some state) = same state

    by : (r ≡ s) ⊎ (r ≡ s → ⊥) → set_at (with_state d s f) r k ≡ set_at d r k
    by (inl e) =
        subst (λ (j : ℕ). set_at (with_state d s f) j k ≡ set_at d j k) (sym e)
        (stage_here d s f k ∙ one (slice_get d.states s))
    by (inr ne) = stage_other d s r f k ne

-- the attempt's own set changed, and no other
pub set_own : (d : DagData) (a : AttemptId) (g : TaskSetData → TaskSetData)
    → set_at (in_own_set d a g) a.stage a.stage_attempt
    ≡ option_map g (set_at d a.stage a.stage_attempt)
set_own d a g =
    stage_here d a.stage (changed_set a.stage_attempt g) a.stage_attempt
    ∙ one (slice_get d.states a.stage)
  where
    one : (o : Option StageState)
        → set_numbered (option_map (changed_set a.stage_attempt g) o) a.stage_attempt
        ≡ option_map g (set_numbered o a.stage_attempt)
    one None = refl
    one (Some state) = own_here state a.stage_attempt g

pub set_beside : (d : DagData) (a : AttemptId) (g : TaskSetData → TaskSetData) (s k : ℕ)
    → (s ≡ a.stage → k ≡ a.stage_attempt → ⊥)
    → set_at (in_own_set d a g) s k ≡ set_at d s k
set_beside d a g s k ne = by (cases_eq s a.stage)
  where
    f : StageState → StageState
    f = changed_set a.stage_attempt g

    one : (k ≡ a.stage_attempt → ⊥) → (o : Option StageState)
        → set_numbered (option_map (changed_set a.stage_attempt g) o) k ≡ set_numbered o k
    one other None = refl
    one other (Some state) = own_other state a.stage_attempt k (with_set g) other

    by : (s ≡ a.stage) ⊎ (s ≡ a.stage → ⊥)
        → set_at (in_own_set d a g) s k ≡ set_at d s k
    by (inl e) =
        subst (λ (j : ℕ). set_at (in_own_set d a g) j k ≡ set_at d j k) (sym e)
        (stage_here d a.stage f k ∙ one (ne e) (slice_get d.states a.stage))
    by (inr other) = stage_other d a.stage s f k other

-- the newest set of a stage changed, and no other
pub set_newest : (d : DagData) (s : ℕ) (g : TaskSetData → TaskSetData) (k : ℕ)
    → k ≡ newest_number d s
    → set_at (with_state d s (changed_newest g)) s k ≡ option_map g (set_at d s k)
set_newest d s g k e = stage_here d s (changed_newest g) k ∙ one (slice_get d.states s) e
  where
    one : (o : Option StageState) → k ≡ number_in o
        → set_numbered (option_map (changed_newest g) o) k ≡ option_map g (set_numbered o k)
    one None f = refl
    one (Some state) f = newest_here state k g f

pub set_older : (d : DagData) (s : ℕ) (g : TaskSetData → TaskSetData) (r k : ℕ)
    → (r ≡ s → k ≡ newest_number d s → ⊥)
    → set_at (with_state d s (changed_newest g)) r k ≡ set_at d r k
set_older d s g r k ne = by (cases_eq r s)
  where
    one : (o : Option StageState) → (k ≡ number_in o → ⊥)
        → set_numbered (option_map (changed_newest g) o) k ≡ set_numbered o k
    one None f = refl
    one (Some state) f = newest_other state k g f

    by : (r ≡ s) ⊎ (r ≡ s → ⊥)
        → set_at (with_state d s (changed_newest g)) r k ≡ set_at d r k
    by (inl e) =
        subst (λ (j : ℕ). set_at (with_state d s (changed_newest g)) j k ≡ set_at d j k) (sym e)
        (stage_here d s (changed_newest g) k ∙ one (slice_get d.states s) (ne e))
    by (inr other) = stage_other d s r (changed_newest g) k other

-- whether a partition is held back is told to the newest set
pub set_held : (d : DagData) (s p : ℕ) (denied : Bool) (k : ℕ) → k ≡ newest_number d s
    → set_at (after_hold d s p denied) s k
    ≡ option_map (λ set. after_held set p denied) (set_at d s k)
set_held d s p denied k e =
    stage_here d s (told_held p denied) k ∙ one (slice_get d.states s) e
  where
    one : (o : Option StageState) → k ≡ number_in o
        → set_numbered (option_map (told_held p denied) o) k
        ≡ option_map (λ set. after_held set p denied) (set_numbered o k)
    one None f = refl
    one (Some state) f = newest_here state k (λ set. after_held set p denied) f

pub set_unheld : (d : DagData) (s p : ℕ) (denied : Bool) (r k : ℕ)
    → (r ≡ s → k ≡ newest_number d s → ⊥)
    → set_at (after_hold d s p denied) r k ≡ set_at d r k
set_unheld d s p denied r k ne = by (cases_eq r s)
  where
    one : (o : Option StageState) → (k ≡ number_in o → ⊥)
        → set_numbered (option_map (told_held p denied) o) k ≡ set_numbered o k
    one None f = refl
    one (Some state) f = newest_other state k (λ set. after_held set p denied) f

    by : (r ≡ s) ⊎ (r ≡ s → ⊥) → set_at (after_hold d s p denied) r k ≡ set_at d r k
    by (inl e) =
        subst (λ (j : ℕ). set_at (after_hold d s p denied) j k ≡ set_at d j k) (sym e)
        (stage_here d s (told_held p denied) k ∙ one (slice_get d.states s) (ne e))
    by (inr other) = stage_other d s r (told_held p denied) k other

-- all sets changed
mapped_at : (state after : StageState) (h : StageAttempt → StageAttempt)
    (g : TaskSetData → TaskSetData) (k : ℕ) → after.before ≡ state.before
    → after.attempts ≡ map h state.attempts
    → ((o : Option StageAttempt) → set_in (option_map h o) ≡ option_map g (set_in o))
    → set_numbered (Some after) k ≡ option_map g (set_numbered (Some state) k)
mapped_at state after h g k same is of =
    renumbered state after k same
    (ap (λ (xs : List StageAttempt). length xs) is ∙ length-map state.attempts h)
    ∙ ap (λ (xs : List StageAttempt).
    set_placed xs (place_in state.before state.attempts k)) is
    ∙ ap set_in (slice_get-map h state.attempts (place_in state.before state.attempts k))
    ∙ of (slice_get state.attempts (place_in state.before state.attempts k))

-- a stage that is complete keeps its sets
pub completed_at : (state : StageState) (k : ℕ)
    → set_numbered (Some (completed state)) k ≡ set_numbered (Some state) k
completed_at state k =
    mapped_at state (completed state) forgiven (λ set. set) k refl refl of
    ∙ itself (set_numbered (Some state) k)
  where
    of : (o : Option StageAttempt)
        → set_in (option_map forgiven o) ≡ option_map (λ set. set) (set_in o)
    of None = refl
    of (Some x) = refl

    itself : (o : Option TaskSetData) → option_map (λ set. set) o ≡ o
    itself None = refl
    itself (Some x) = refl

-- a stage with one more result too
pub result_at : (p : ℕ) (state : StageState) (k : ℕ)
    → set_numbered (Some (with_result p state)) k ≡ set_numbered (Some state) k
result_at p state k = refl

-- an executor that is lost is told to all
pub set_lost : (d : DagData) (exec s k : ℕ)
    → set_at (after_lost d exec) s k ≡ option_map (λ set. after_loss set exec) (set_at d s k)
set_lost d exec s k =
    ap (λ o. set_numbered o k)
    (slice_get-map (λ (state : StageState). with_attempts state
    (map (with_set (λ set. after_loss set exec)) state.attempts)) d.states s)
    ∙ one (slice_get d.states s)
  where
    g : TaskSetData → TaskSetData
    g set = after_loss set exec

    one : (o : Option StageState)
        → set_numbered (option_map (λ (state : StageState). with_attempts state
        (map (with_set (λ set. after_loss set exec)) state.attempts)) o) k
        ≡ option_map (λ set. after_loss set exec) (set_numbered o k)
    one None = refl
    one (Some state) =
        mapped_at state (with_attempts state
        (map (with_set (λ set. after_loss set exec)) state.attempts))
        (with_set (λ set. after_loss set exec)) (λ set. after_loss set exec) k refl refl
        (of_set (λ set. after_loss set exec))

-- ---- a stage attempt that failed

failed_here : (state : StageState) (n : ℕ)
    → set_numbered (Some (with_failed n state)) n
    ≡ option_map as_zombie (set_numbered (Some state) n)
failed_here state n =
    renumbered state (with_failed n state) n refl
    (length_change_at state.attempts (place_of_attempt state n) failed_attempt)
    ∙ ap set_in (slice_get_change_same state.attempts (place_of_attempt state n) failed_attempt)
    ∙ of (slice_get state.attempts (place_of_attempt state n))
  where
    of : (o : Option StageAttempt)
        → set_in (option_map failed_attempt o) ≡ option_map as_zombie (set_in o)
    of None = refl
    of (Some x) = refl

-- it is a zombie then
pub set_failed : (d : DagData) (s n : ℕ)
    → set_at (with_state d s (with_failed n)) s n ≡ option_map as_zombie (set_at d s n)
set_failed d s n = stage_here d s (with_failed n) n ∙ one (slice_get d.states s)
  where
    one : (o : Option StageState)
        → set_numbered (option_map (with_failed n) o) n ≡ option_map as_zombie (set_numbered o n)
    one None = refl
    one (Some state) = failed_here state n

pub set_unfailed : (d : DagData) (s n r k : ℕ) → (r ≡ s → k ≡ n → ⊥)
    → set_at (with_state d s (with_failed n)) r k ≡ set_at d r k
set_unfailed d s n r k ne = by (cases_eq r s)
  where
    one : (k ≡ n → ⊥) → (o : Option StageState)
        → set_numbered (option_map (with_failed n) o) k ≡ set_numbered o k
    one other None = refl
    one other (Some state) = own_other state n k failed_attempt other

    by : (r ≡ s) ⊎ (r ≡ s → ⊥) → set_at (with_state d s (with_failed n)) r k ≡ set_at d r k
    by (inl e) =
        subst (λ (j : ℕ). set_at (with_state d s (with_failed n)) j k ≡ set_at d j k) (sym e)
        (stage_here d s (with_failed n) k ∙ one (ne e) (slice_get d.states s))
    by (inr other) = stage_other d s r (with_failed n) k other

-- ---- a submission

-- a new set stands behind the others
pub record IsNewSet (d : DagData) (s : ℕ) (o : Option TaskSetData) : Type 0 where
  pub results : List Bool
  pub held : List Bool
  pub is : o ≡ Some (new_set d.tracker d.limits (stage_at d s) results held)

-- a set stays, or is given up, or is new
abbrev pub MayStart : DagData → ℕ → Option TaskSetData → Option TaskSetData → Type 0
MayStart d s o x =
    (x ≡ o) ⊎ ((x ≡ option_map as_zombie o) ⊎ ((o ≡ None) × IsNewSet d s x))

append_below : (xs ys : List StageAttempt) (j : ℕ) → j < length xs
    → slice_get (xs ++ ys) j ≡ slice_get xs j
append_below [] ys j lt = absurd (omega (arith, lt))
append_below (x ∷ xs) ys zero lt = refl
append_below (x ∷ xs) ys (suc j) lt = append_below xs ys j (omega (arith, lt))

append_at : (xs : List StageAttempt) (y : StageAttempt)
    → slice_get (xs ++ y ∷ []) (length xs) ≡ Some y
append_at [] y = refl
append_at (x ∷ xs) y = append_at xs y

started_at : (d : DagData) (s : ℕ) (state : StageState) (k : ℕ)
    → MayStart d s (set_numbered (Some state) k)
    (set_numbered (Some (started d.tracker d.limits (stage_at d s) state)) k)
started_at d s state k = rw long (by (nat_lt k state.before))
  where
    xs : List StageAttempt
    xs = change_at state.attempts (length state.attempts - 1) (with_set as_zombie)

    y : StageAttempt
    y = stage_attempt (new_set d.tracker d.limits (stage_at d s) state.results state.held) false

    same_length : length (change_at state.attempts (length state.attempts - 1) (with_set as_zombie))
        ≡ length state.attempts
    same_length =
        length_change_at state.attempts (length state.attempts - 1) (with_set as_zombie)

    long : length (change_at state.attempts (length state.attempts - 1) (with_set as_zombie)
        ++ y ∷ []) ≡ length state.attempts + 1
    long =
        let all = length-append xs (y ∷ []) in
        let one = same_length in
        omega (arith, all, one)

    past : (j : ℕ) → length state.attempts + 1 ≤ j → set_placed (xs ++ y ∷ []) j ≡ None
    past j le = placed_past (xs ++ y ∷ []) j (let l = long in omega (arith, l, le))

    old : (j : ℕ) → j < length state.attempts
        → MayStart d s (set_placed state.attempts j) (set_placed (xs ++ y ∷ []) j)
    old j lt = which (cases_eq j (length state.attempts - 1))
      where
        below : set_placed (xs ++ y ∷ []) j ≡ set_placed xs j
        below =
            ap set_in (append_below xs (y ∷ []) j (let l = same_length in omega (arith, l, lt)))

        which : (j ≡ length state.attempts - 1) ⊎ (j ≡ length state.attempts - 1 → ⊥)
            → MayStart d s (set_placed state.attempts j) (set_placed (xs ++ y ∷ []) j)
        which (inl e) =
            inr (inl (below
            ∙ placed_here state.attempts (length state.attempts - 1) j as_zombie e))
        which (inr ne) =
            inl (below ∙ ap set_in (slice_get_change_other state.attempts
            (length state.attempts - 1) j (with_set as_zombie) ne))

    at : (j : ℕ) → MayStart d s (set_placed state.attempts j) (set_placed (xs ++ y ∷ []) j)
    at j = which (nat_lt j (length state.attempts)) refl (cases_eq j (length state.attempts))
      where
        new : j ≡ length state.attempts
            → MayStart d s (set_placed state.attempts j) (set_placed (xs ++ y ∷ []) j)
        new e =
            inr (inr (
              placed_past state.attempts j (omega (arith, e)),
              record {
                results = state.results;
                held = state.held;
                is = ap (λ (n : ℕ). set_placed (xs ++ y ∷ []) n) (e ∙ sym same_length)
                    ∙ ap set_in (append_at xs y);
              },
            ))

        which : (b : Bool) → nat_lt j (length state.attempts) ≡ b
            → (j ≡ length state.attempts) ⊎ (j ≡ length state.attempts → ⊥)
            → MayStart d s (set_placed state.attempts j) (set_placed (xs ++ y ∷ []) j)
        which true e f = old j (grind (arith, nat_tests, e))
        which false e (inl f) = new f
        which false e (inr f) =
            let above : length state.attempts + 1 ≤ j = grind (arith, nat_tests, e, f) in
            inl (past j above ∙ sym (placed_past state.attempts j (omega (arith, above))))

    by : (b : Bool)
        → MayStart d s (set_placed state.attempts
        (if b then length state.attempts else k - state.before))
        (set_placed (xs ++ y ∷ []) (if b then length state.attempts + 1 else k - state.before))
    by true =
        inl (past (length state.attempts + 1) (omega arith)
        ∙ sym (placed_past state.attempts (length state.attempts) (omega arith)))
    by false = at (k - state.before)

pub set_submitted : (d after : DagData) (submitted : ℕ → Bool) → IsSubmitted d submitted after
    → (s k : ℕ) → MayStart d s (set_at d s k) (set_at after s k)
set_submitted d after submitted (looked, are, is) s k =
    subst (λ (x : DagData). MayStart d s (set_at d s k) (set_at x s k)) (sym is)
    (subst (λ o. MayStart d s (set_at d s k) (set_numbered o k))
    (sym (by_number_at (moved_if d looked) d.states s)) (by (slice_get d.states s)))
  where
    moved : (state : StageState) (a b : Bool)
        → MayStart d s (set_numbered (Some state) k)
        (set_numbered (Some (if a then (if b then started d.tracker d.limits (stage_at d s) state
        else as_waiting state) else state)) k)
    moved state true true = started_at d s state k
    moved state true false = inl refl
    moved state false b = inl refl

    by : (o : Option StageState)
        → MayStart d s (set_numbered o k) (set_numbered (option_map (moved_if d looked s) o) k)
    by None = inl refl
    by (Some state) = moved state (looked s) (has_inputs d s)
