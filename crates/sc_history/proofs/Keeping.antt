-- What calls keep of each task of each attempt.
use Rattle.std.proofs.Common.{◌≡◌, ◌⊎◌, inl, inr, ℕ, ◌+◌, ◌-◌, ◌==◌, ◌<◌, ◌≤◌, ◌||◌, Bool, true, false, if◌then◌else◌, List, [], ◌∷◌, ◌++◌, map, length, nat_lt, Option, Some, None, option_map, slice_get, refl, ap, sym, subst, ◌∙◌, arith, true≢false}
use Rattle.std.proofs.lemmas.Bool.{cases_eq}
use Rattle.std.proofs.lemmas.Bool.Decides.{nat_tests}
use Rattle.std.proofs.lemmas.Option.{slice_get_within}
use Rattle.std.proofs.lemmas.List.Folds.{list_any-append}
use Rattle.sc_base.specs.Lists.{at_or}
use Rattle.sc_ids.specs.Changes.{change_at}
use Rattle.sc_ids.specs.Failures.{is_counted}
use Rattle.sc_ids.specs.declared.attempts.AttemptId.{AttemptId}
use Rattle.sc_ids.specs.declared.failures.FailureCause.{FailureCause}
use Rattle.sc_ids.specs.declared.limits.Limits.{Limits}
use Rattle.sc_ids.proofs.ChangeLemmas.{length_change_at, slice_get_change_other, slice_get_change_same}
use Rattle.sc_taskset.specs.Lookups.{is_task_of, task_at, with_task}
use Rattle.sc_taskset.specs.Offers.{handed_task}
use Rattle.sc_taskset.specs.Reports.{after_failure, after_loss, ended_task, failed_task, held_task, is_counted_in, is_failure, lost_task, noted_task, redoes_lost, succeeded_task}
use Rattle.sc_taskset.specs.TaskSetData.{TaskData, TaskSetData, fresh_task}
use Rattle.sc_taskset.proofs.LawLemmas.{task_changed, task_other}
use Rattle.sc_dag.specs.DagData.{DagData, StageState, changed_set, place_of_attempt, with_attempts, with_set}
use Rattle.sc_dag.specs.Reports.{after_failed, failed_attempt}
use Rattle.sc_dag.specs.declared.attempts.StageAttempt.{StageAttempt}
use Rattle.sc_dag.proofs.Sets.{task_viewed}
use Rattle.sc_dag.proofs.Tests.{both_left, is_in}
use Rattle.sc_core.proofs.ShelfLemmas.{find_mapped}
use Rattle.sc_history.proofs.Growing.{IsCalm, Slot, attempt_among, numbered_slot}
use Rattle.sc_history.proofs.GrowingCalls.{Grows}

-- ---- counted failures

-- the attempts of a task whose failures count
abbrev pub failures_among : Option TaskData → List ℕ
failures_among None = []
failures_among (Some t) = t.failures

abbrev pub failures_of : TaskSetData → ℕ → List ℕ
failures_of set p = failures_among (task_at p set.tasks)

abbrev pub failures_in : Option StageAttempt → ℕ → List ℕ
failures_in None p = []
failures_in (Some x) p = failures_of x.set p

abbrev pub failures_at : DagData → ℕ → ℕ → ℕ → List ℕ
failures_at d s k p = failures_in (attempt_among (slice_get d.states s) k) p

-- as many failures count
pub SameFailures : StageAttempt → StageAttempt → Type 0
SameFailures x y = (p : ℕ) → failures_of y.set p ≡ failures_of x.set p

-- none counts
pub NoFailures : StageAttempt → Type 0
NoFailures x = (p : ℕ) → failures_of x.set p ≡ []

-- a task is held back as the flag of its partition says
abbrev flagged : List Bool → TaskData → TaskData
flagged held t = held_task (at_or held t.partition false) t

-- tasks that were never handed out, by a view, whatever is held back of them
pub fresh_view :
    {B : Type 0} (view : Option TaskData → B) (none : B) → view None ≡ none
    → (held : List Bool) → ((q : ℕ) → view (Some (flagged held (fresh_task q))) ≡ none) → (p : ℕ)
    (partitions : List ℕ)
    → view (task_at p (map (flagged held) (map fresh_task partitions))) ≡ none
fresh_view view none nothing held fresh p [] = nothing
fresh_view view none nothing held fresh p (q ∷ qs) =
    by (q == p) refl (fresh_view view none nothing held fresh p qs)
  where
    by : (b : Bool) → (q == p) ≡ b
        → view (task_at p (map (flagged held) (map fresh_task qs))) ≡ none
        → view (task_at p (map (flagged held) (map fresh_task (q ∷ qs)))) ≡ none
    by true e h = rw e (fresh q)
    by false e h = rw e h

-- nor more where an executor was lost
lost_failures : (set : TaskSetData) (exec p : ℕ)
    → failures_of (after_loss set exec) p ≡ failures_of set p
lost_failures set exec p =
    ap failures_among
    (find_mapped (is_task_of p) (lost_task exec (redoes_lost set)) (λ t. refl) set.tasks)
    ∙ kept (task_at p set.tasks)
  where
    kept : (o : Option TaskData)
        → failures_among (option_map (lost_task exec (redoes_lost set)) o) ≡ failures_among o
    kept None = refl
    kept (Some t) = refl

pub failures_calm : (L : Limits) → IsCalm SameFailures NoFailures L
unfolding SameFailures NoFailures
failures_calm L =
    record {
      same = λ x p. refl;
      chain = λ x y z h k p. k p ∙ h p;
      hands = λ x q exec now p.
          task_viewed failures_among q p (handed_task exec now) (λ t. refl) (λ t. refl) x.set.tasks;
      succeeds = λ x q nth now p.
          task_viewed failures_among q p (succeeded_task nth) (λ t. refl) (λ t. refl) x.set.tasks;
      ends = λ x q nth p.
          task_viewed failures_among q p (ended_task nth) (λ t. refl) (λ t. refl) x.set.tasks;
      holds = λ x q denied p.
          task_viewed failures_among q p (held_task denied) (λ t. refl) (λ t. refl) x.set.tasks;
      loses = λ x exec p. lost_failures x.set exec p;
      stops = λ x p. refl;
      forgives = λ x p. refl;
      begins = λ t stage results held p. fresh_view failures_among [] refl held (λ q. refl) p _;
      stays = λ x y h k p. h p ∙ k p;
    }

pub failures_marked : (x : StageAttempt) → SameFailures x (failed_attempt x)
unfolding SameFailures
failures_marked x p = refl

-- so they stay as they are
pub failures_same : (d after : DagData) (s k p : ℕ) → Grows SameFailures NoFailures d after
    → failures_at after s k p ≡ failures_at d s k p
unfolding SameFailures NoFailures
failures_same d after s k p h =
    by (attempt_among (slice_get d.states s) k) (attempt_among (slice_get after.states s) k)
    (numbered_slot SameFailures NoFailures (slice_get d.states s) (slice_get after.states s) k
    (h s))
  where
    by : (o x : Option StageAttempt) → Slot SameFailures NoFailures o x
        → failures_in x p ≡ failures_in o p
    by None None q = refl
    by None (Some y) q = q p
    by (Some x) None q = absurd q
    by (Some x) (Some y) q = q p

-- ---- one more failure

-- it is of this attempt, and counts
pub record IsNew (a : AttemptId) (cause : FailureCause) (s k p n : ℕ) : Type 0 where
  pub stage : s ≡ a.stage
  pub number : k ≡ a.stage_attempt
  pub partition : p ≡ a.partition
  pub nth : n ≡ a.nth
  pub counted : is_counted cause ≡ true

or_last : (xs : List ℕ) (m n : ℕ) → is_in (xs ++ m ∷ []) n ≡ true
    → (is_in xs n ≡ true) ⊎ (n ≡ m)
or_last xs m n e = by (is_in xs n) refl
  where
    by : (b : Bool) → is_in xs n ≡ b → (is_in xs n ≡ true) ⊎ (n ≡ m)
    by true is = inl is
    by false is =
        let all : (is_in xs n || is_in (m ∷ []) n) ≡ true =
        sym (list_any-append (λ y. y == n) xs (m ∷ [])) ∙ e in
        let last : is_in (m ∷ []) n ≡ true = rw is at all in
        inr (grind (arith, nat_tests, last))

pub set_failed : (set : TaskSetData) (q nth : ℕ) (cause : FailureCause) (p n : ℕ)
    → is_in (failures_of (after_failure set q nth cause) p) n ≡ true
    → (is_in (failures_of set p) n ≡ true)
    ⊎ ((p ≡ q) × (n ≡ nth) × (is_counted cause ≡ true))
set_failed set q nth cause p n e = by (q == p) refl
  where
    f : TaskData → TaskData
    f = failed_task (is_counted_in set cause) nth

    same : (t : TaskData) → (f t).partition ≡ t.partition
    same t = one (is_failure (is_counted_in set cause) nth t)
      where
        one : (b : Bool) → (if b then noted_task nth (ended_task nth t)
            else ended_task nth t).partition ≡ t.partition
        one true = refl
        one false = refl

    noted : (t : TaskData) (b : Bool) → is_failure (is_counted_in set cause) nth t ≡ b
        → is_in (if b then noted_task nth (ended_task nth t) else ended_task nth t).failures n
        ≡ true
        → (is_in t.failures n ≡ true) ⊎ ((n ≡ nth) × (is_counted cause ≡ true))
    noted t false is h = inl h
    noted t true is h = last (or_last t.failures nth n h)
      where
        counted : is_counted cause ≡ true
        counted = both_left (is_counted cause) _ (both_left (is_counted_in set cause) _ is)

        last : (is_in t.failures n ≡ true) ⊎ (n ≡ nth)
            → (is_in t.failures n ≡ true) ⊎ ((n ≡ nth) × (is_counted cause ≡ true))
        last (inl x) = inl x
        last (inr x) = inr (x, counted)

    here : (o : Option TaskData) → is_in (failures_among (option_map f o)) n ≡ true
        → (is_in (failures_among o) n ≡ true) ⊎ ((n ≡ nth) × (is_counted cause ≡ true))
    here None h = absurd (true≢false (sym h))
    here (Some t) h = noted t (is_failure (is_counted_in set cause) nth t) refl h

    placed : (p ≡ q)
        → (is_in (failures_among (task_at q set.tasks)) n ≡ true)
        ⊎ ((n ≡ nth) × (is_counted cause ≡ true))
        → (is_in (failures_of set p) n ≡ true)
        ⊎ ((p ≡ q) × (n ≡ nth) × (is_counted cause ≡ true))
    placed is (inl x) = inl (rw is x)
    placed is (inr x) = inr (is, x.0, x.1)

    by : (b : Bool) → (q == p) ≡ b
        → (is_in (failures_of set p) n ≡ true)
        ⊎ ((p ≡ q) × (n ≡ nth) × (is_counted cause ≡ true))
    by true is =
        let at : p ≡ q = grind (arith, nat_tests, is) in
        placed at (here (task_at q set.tasks)
        (ap (λ o. is_in (failures_among o) n) (sym (task_changed q f same set.tasks))
        ∙ subst (λ (m : ℕ). is_in (failures_among (task_at m (with_task q f set.tasks))) n ≡ true)
        at e))
    by false is =
        inl (ap (λ o. is_in (failures_among o) n) (sym (task_other q p f is same set.tasks)) ∙ e)

-- the attempt of a number, where that of another was changed
abbrev pub changed_at : ℕ → (StageAttempt → StageAttempt) → StageState → StageState
changed_at number f state =
    with_attempts state (change_at state.attempts (place_of_attempt state number) f)

-- it is that one, or stays as it was
abbrev pub IsChanged : StageState → ℕ → ℕ → (StageAttempt → StageAttempt) → Type 0
IsChanged state m k f =
    ((k ≡ m) × (attempt_among (Some (changed_at m f state)) k
    ≡ option_map f (attempt_among (Some state) k)))
    ⊎ (attempt_among (Some (changed_at m f state)) k ≡ attempt_among (Some state) k)

pub changed_among : (state : StageState) (m k : ℕ) (f : StageAttempt → StageAttempt)
    → IsChanged state m k f
changed_among state m k f =
    by (cases_eq (place_of_attempt state k) (place_of_attempt state m))
  where
    xs : List StageAttempt
    xs = state.attempts

    i : ℕ
    i = place_of_attempt state m

    at : attempt_among (Some (changed_at m f state)) k
        ≡ slice_get (change_at xs i f) (place_of_attempt state k)
    at =
        ap (λ (n : ℕ). slice_get (change_at xs i f)
        (if nat_lt k state.before then n else k - state.before))
        (length_change_at xs i f)

    place : (x : StageAttempt) → (n : ℕ) → slice_get xs (place_of_attempt state n) ≡ Some x
        → n ≡ state.before + place_of_attempt state n
    place x n there = one (nat_lt n state.before) refl (slice_get_within xs _ x there)
      where
        one : (b : Bool) → nat_lt n state.before ≡ b
            → (if b then length xs else n - state.before) < length xs
            → n ≡ state.before + (if b then length xs else n - state.before)
        one true e lt = absurd (omega (arith, lt))
        one false e lt =
            let above : state.before ≤ n = grind (arith, nat_tests, e) in omega (arith, above)

    same : (o : Option StageAttempt) → slice_get xs i ≡ o → place_of_attempt state k ≡ i
        → IsChanged state m k f
    same None there e =
        inr (at ∙ subst (λ (j : ℕ). slice_get (change_at xs i f) j ≡ slice_get xs j)
        (sym e) (slice_get_change_same xs i f
        ∙ ap (option_map f) there ∙ sym there))
    same (Some x) there e =
        let one = place x m there in
        let two = place x k (ap (λ (j : ℕ). slice_get xs j) e ∙ there) in
        inl (
          omega (arith, one, two, e),
          at ∙ subst (λ (j : ℕ). slice_get (change_at xs i f) j
              ≡ option_map f (slice_get xs j))
              (sym e) (slice_get_change_same xs i f),
        )

    by : (place_of_attempt state k ≡ i) ⊎ (place_of_attempt state k ≡ i → ⊥)
        → IsChanged state m k f
    by (inl e) = same (slice_get xs i) refl e
    by (inr ne) =
        inr (at ∙ slice_get_change_other xs i (place_of_attempt state k) f ne)

-- a failure counts that did, or the new one
pub failed_in : (d : DagData) (a : AttemptId) (cause : FailureCause) (s k p n : ℕ)
    → is_in (failures_at (after_failed d a cause) s k p) n ≡ true
    → (is_in (failures_at d s k p) n ≡ true) ⊎ IsNew a cause s k p n
failed_in d a cause s k p n e = by (cases_eq s a.stage)
  where
    g : TaskSetData → TaskSetData
    g set = after_failure set a.partition a.nth cause

    f : StageState → StageState
    f = changed_set a.stage_attempt (λ set. after_failure set a.partition a.nth cause)

    set_of : s ≡ a.stage → k ≡ a.stage_attempt → (o : Option StageAttempt)
        → is_in (failures_in (option_map (with_set g) o) p) n ≡ true
        → (is_in (failures_in o p) n ≡ true) ⊎ IsNew a cause s k p n
    set_of at number None h = inl h
    set_of at number (Some x) h = one (set_failed x.set a.partition a.nth cause p n h)
      where
        one : (is_in (failures_of x.set p) n ≡ true)
            ⊎ ((p ≡ a.partition) × (n ≡ a.nth) × (is_counted cause ≡ true))
            → (is_in (failures_of x.set p) n ≡ true) ⊎ IsNew a cause s k p n
        one (inl q) = inl q
        one (inr (partition, nth, counted)) =
            inr (record {
              stage = at;
              number = number;
              partition = partition;
              nth = nth;
              counted = counted;
            })

    state : s ≡ a.stage → (o : Option StageState)
        → is_in (failures_in (attempt_among (option_map f o) k) p) n ≡ true
        → (is_in (failures_in (attempt_among o k) p) n ≡ true) ⊎ IsNew a cause s k p n
    state at None h = inl h
    state at (Some x) h = one (changed_among x a.stage_attempt k (with_set g))
      where
        one : IsChanged x a.stage_attempt k (with_set g)
            → (is_in (failures_in (attempt_among (Some x) k) p) n ≡ true)
            ⊎ IsNew a cause s k p n
        one (inl (number, is)) =
            set_of at number (attempt_among (Some x) k)
            (ap (λ o. is_in (failures_in o p) n) (sym is) ∙ h)
        one (inr is) = inl (ap (λ o. is_in (failures_in o p) n) (sym is) ∙ h)

    by : (s ≡ a.stage) ⊎ (s ≡ a.stage → ⊥)
        → (is_in (failures_at d s k p) n ≡ true) ⊎ IsNew a cause s k p n
    by (inl at) =
        state at (slice_get d.states s)
        (subst (λ o. is_in (failures_in (attempt_among o k) p) n ≡ true)
        (subst (λ (j : ℕ). slice_get (change_at d.states a.stage f) j
        ≡ option_map f (slice_get d.states j)) (sym at)
        (slice_get_change_same d.states a.stage f)) e)
    by (inr ne) =
        inl (subst (λ o. is_in (failures_in (attempt_among o k) p) n ≡ true)
        (slice_get_change_other d.states a.stage s f ne) e)

-- a new attempt has none
pub no_failures : (x : Option StageAttempt) (p : ℕ) → Slot SameFailures NoFailures None x
    → failures_in x p ≡ []
unfolding NoFailures
no_failures None p h = refl
no_failures (Some y) p h = h p
