-- A submission starts stages anew only where outputs were forgotten since they began.
use Rattle.std.proofs.Common.{◌≡◌, ℕ, ◌+◌, ◌-◌, ◌<◌, ◌==◌, ◌&&◌, ◌||◌, not, Bool, true, false, cond, if◌then◌else◌, List, [], ◌∷◌, All, IfSome, filter, find, get_or, length, nat_lt, Option, Some, None, option_map, slice_get, refl, ap, sym, subst, ◌∙◌, arith, rules}
use Rattle.std.specs.List.{AllPairs}
use Rattle.std.proofs.lemmas.Bool.{or_right}
use Rattle.std.proofs.lemmas.Bool.Decides.{nat_tests}
use Rattle.std.proofs.lemmas.List.{length-map}
use Rattle.std.proofs.lemmas.Option.{slice_get-get_or}
use Rattle.sc_base.specs.Lists.{numbers_below}
use Rattle.sc_taskset.specs.Lookups.{are_finished, is_finished, is_task_of, is_there_and, task_at}
use Rattle.sc_taskset.specs.TaskSetData.{TaskData, TaskSetData}
use Rattle.sc_dag.specs.Births.{AreCharged, births_of, is_given_up}
use Rattle.sc_dag.specs.DagData.{DagData, StageState, is_live, is_live_set, newest_at, newest_set, set_in, stage_at}
use Rattle.sc_dag.specs.Outputs.{has_inputs, is_complete, is_done, is_done_by, missing_by, results_in}
use Rattle.sc_dag.specs.Reports.{wants_in}
use Rattle.sc_dag.specs.Sound.{IsSoundDag, attempts_in, attempts_of}
use Rattle.sc_dag.specs.Submission.{AreLookedAt, IsSubmitted, as_waiting, is_asked_for, is_idle_in, is_map, moved_if, new_set, started}
use Rattle.sc_dag.specs.declared.attempts.StageAttempt.{StageAttempt}
use Rattle.sc_dag.proofs.FreshSets.{fresh_wants}
use Rattle.sc_dag.proofs.Looking.{looked_lacks, looked_why}
use Rattle.sc_dag.proofs.Moving.{after_looking, newest_among, newest_started, results_after, state_after}
use Rattle.sc_dag.proofs.SoundSubmissions.{births_started, numbers_within}
use Rattle.sc_dag.proofs.Tests.{all_in, any_below, any_member, both_left, both_right, clash, is_in, not_all, not_true}
use Rattle.std.proofs.lemmas.List.Quantifiers.{all_pairs_push}
use Rattle.sc_core.proofs.CarryLemmas.{born_at}
use Rattle.sc_epochs.specs.Apart.{AreBornApart, OwnWereThere}

-- ---- a stage that lacks outputs

-- a partition that a stage lacks
record Lacks (d : DagData) (s : ℕ) : Type 0 where
  partition : ℕ
  within : partition < (stage_at d s).tasks
  is : is_done d s partition ≡ false

lacking : (d : DagData) (s : ℕ) → is_complete d s ≡ false → Lacks d s
lacking d s e =
    let one = any_member (λ p. not (is_done d s p)) (numbers_below (stage_at d s).tasks)
    (not_all (is_done d s) (numbers_below (stage_at d s).tasks) e) in
    let lt = all_in (λ p. p < 0 + (stage_at d s).tasks) (numbers_below (stage_at d s).tasks) one.0
    (numbers_within 0 (stage_at d s).tasks) one.1 in
    record {
      partition = one.0;
      within = omega (arith, lt);
      is = not_true (is_done d s one.0) one.2;
    }

-- a task that may be there isn't finished
abbrev wants_of : Option TaskData → Bool
wants_of o = is_there_and (λ t. not (is_finished t)) o

-- a task set whose tasks are finished wants none
unwanted : (p : ℕ) (tasks : List TaskData) → are_finished tasks ≡ true
    → wants_of (task_at p tasks) ≡ false
unwanted p [] e = refl
unwanted p (t ∷ tasks) e =
    by (is_task_of p t) (unwanted p tasks (both_right (is_finished t) (are_finished tasks) e))
  where
    by : (b : Bool) → wants_of (task_at p tasks) ≡ false
        → wants_of (cond b (Some t) (find (is_task_of p) tasks)) ≡ false
    by true h = ap not (both_left (is_finished t) (are_finished tasks) e)
    by false h = h

-- one that is given up began before now
given_up_in : (epoch : ℕ) (o : Option StageState) (set : TaskSetData)
    → AreCharged epoch (attempts_in o) → newest_among o ≡ Some set → is_given_up set ≡ true
    → set.born < epoch
given_up_in epoch None set are e given = absurd (search (rules, e))
given_up_in epoch (Some state) set are e given =
    by (slice_get state.attempts (length state.attempts - 1)) are.given_up e
  where
    by : (o : Option StageAttempt)
        → IfSome o (λ a. is_given_up a.set ≡ true → a.set.born < epoch)
        → set_in o ≡ Some set → set.born < epoch
    by None h k = absurd (search (rules, k))
    by (Some a) h k =
        let is : a.set ≡ set = search (rules, k) in
        subst (λ (x : TaskSetData). x.born < epoch) is
        (h (subst (λ x. is_given_up x ≡ true) (sym is) given))

-- so did any that hands out nothing more, where its stage lacks outputs
overdue : (d : DagData) (s : ℕ) (set : TaskSetData) → IsSoundDag d → OwnWereThere d
    → is_complete d s ≡ false → newest_at d s ≡ Some set → set.is_zombie ≡ true
    → set.born < d.tracker.epoch
overdue d s set sound own lacks newest dead = by (are_finished set.tasks) refl
  where
    one : Lacks d s
    one = lacking d s lacks

    done : are_finished set.tasks ≡ true → wants_in (Some set) (lacking d s lacks).partition ≡ false
    done e = unwanted one.partition set.tasks e

    kind : are_finished set.tasks ≡ true → (b : Bool) → is_map (stage_at d s).target ≡ b
        → set.born < d.tracker.epoch
    kind e true k = own s one.partition set k one.within newest (done e) one.is
    kind e false k =
        absurd (clash (sound.covered s one.partition k one.within
        (λ none. search (rules, sym newest ∙ none))
        (ap (λ o. wants_in o one.partition) newest ∙ done e)) one.is)

    by : (b : Bool) → are_finished set.tasks ≡ b → set.born < d.tracker.epoch
    by true e = kind e (is_map (stage_at d s).target) refl
    by false e =
        given_up_in d.tracker.epoch (slice_get d.states s) set (sound.charged s) newest
        (rw (dead, e) refl)

-- ---- births

-- those of a stage whose newest attempt began before an epoch all lie before it
all_before : (births : List ℕ) (epoch : ℕ) → AllPairs (λ a b. a < b) births
    → ((b : ℕ) → slice_get births (length births - 1) ≡ Some b → b < epoch)
    → All (λ b. b < epoch) births
all_before births epoch pairs last = λ i d l. by i d l (nat_lt i (length births - 1)) refl
  where
    newest : (d : ℕ) (i : ℕ) → i < length births
        → get_or births (length births - 1) d < epoch
    newest d i l =
        last (get_or births (length births - 1) d)
        (slice_get-get_or births (length births - 1) d (omega (arith, l)))

    by : (i d : ℕ) → i < length births → (b : Bool) → nat_lt i (length births - 1) ≡ b
        → get_or births i d < epoch
    by i d l true e =
        let lt : i < length births - 1 = grind (arith, nat_tests, e) in
        let pair = pairs i (length births - 1) d lt (omega (arith, l)) in
        let top = newest d i l in omega (arith, pair, top)
    by i d l false e =
        let is : length births - 1 ≡ i = grind (arith, nat_tests, e, l) in
        subst (λ (k : ℕ). get_or births k d < epoch) is (newest d i l)

last_born : (o : Option StageState) (b : ℕ)
    → slice_get (births_of (attempts_in o)) (length (births_of (attempts_in o)) - 1) ≡ Some b
    → (set : TaskSetData) × (newest_among o ≡ Some set) × (set.born ≡ b)
last_born None b e = absurd (search (rules, e))
last_born (Some state) b e =
    by (set_in (slice_get state.attempts (length state.attempts - 1))) refl
    (born_at state.attempts (length state.attempts - 1)
    ∙ ap (λ (n : ℕ). slice_get (births_of state.attempts) (n - 1))
    (sym (length-map state.attempts (λ a. a.set.born)))
    ∙ e)
  where
    by : (x : Option TaskSetData)
        → set_in (slice_get state.attempts (length state.attempts - 1)) ≡ x
        → option_map (λ set. set.born) x ≡ Some b
        → (set : TaskSetData) × (newest_set state ≡ Some set) × (set.born ≡ b)
    by None p q = absurd (search (rules, q))
    by (Some set) p q = (set, p, search (rules, q))

-- ---- submissions

-- a number that passes is left of some
in_filter : (f : ℕ → Bool) (xs : List ℕ) (p : ℕ) → is_in xs p ≡ true → f p ≡ true
    → is_in (filter f xs) p ≡ true
in_filter f [] p e passes = e
in_filter f (x ∷ xs) p e passes =
    by (f x) refl (x == p) refl e (λ h. in_filter f xs p h passes)
  where
    by : (a : Bool) → f x ≡ a → (b : Bool) → (x == p) ≡ b → (b || is_in xs p) ≡ true
        → (is_in xs p ≡ true → is_in (filter f xs) p ≡ true)
        → is_in (cond a (x ∷ filter f xs) (filter f xs)) p ≡ true
    by true pass true same h g = rw same refl
    by true pass false same h g = or_right (x == p) (is_in (filter f xs) p) (g h)
    by false pass false same h g = g h
    by false pass true same h g =
        let is : x ≡ p = grind (arith, nat_tests, same) in
        absurd (clash (subst (λ y. f y ≡ true) (sym is) passes) pass)

-- what a stage lacks is missing
is_missing : (d : DagData) (s p : ℕ) (results : List Bool) → p < (stage_at d s).tasks
    → is_done_by d.tracker (stage_at d s).target results p ≡ false
    → is_in (missing_by d.tracker (stage_at d s) results) p ≡ true
is_missing d s p results lt e =
    in_filter (λ q. not (is_done_by d.tracker (stage_at d s).target results q))
    (numbers_below (stage_at d s).tasks) p
    (any_below (λ q. q == p) (stage_at d s).tasks p lt itself) (ap not e)
  where
    itself : (p == p) ≡ true
    itself = grind (arith, nat_tests)

-- stages start where their newest attempts began before now
pub apart_looking : (d : DagData) (looked : ℕ → Bool)
    → ((s : ℕ) (set : TaskSetData) → looked s ≡ true → newest_at d s ≡ Some set
    → set.born < d.tracker.epoch)
    → AreBornApart d → AreBornApart (after_looking d looked)
apart_looking d looked before a = record { own = own; order = order }
  where
    own : OwnWereThere (after_looking d looked)
    own s p set kind lt newest wants lacks =
        at (slice_get d.states s) refl (sym (ap newest_among (state_after d looked s)) ∙ newest)
      where
        lacked : is_done_by d.tracker (stage_at d s).target
            (results_in (slice_get d.states s)) p ≡ false
        lacked =
            ap (λ rs. is_done_by d.tracker (stage_at d s).target rs p)
            (sym (results_after d looked s)) ∙ lacks

        same : newest_at d s ≡ Some set → set.born < d.tracker.epoch
        same e = a.own s p set kind lt e wants lacked

        moved : (state : StageState) → slice_get d.states s ≡ Some state → (b c : Bool)
            → newest_set (if b then (if c then started d.tracker d.limits (stage_at d s) state
            else as_waiting state) else state) ≡ Some set → set.born < d.tracker.epoch
        moved state e true true n =
            let is : new_set d.tracker d.limits (stage_at d s) state.results state.held ≡ set =
            search (rules, sym (newest_started d.tracker d.limits (stage_at d s) state) ∙ n) in
            absurd (clash
            (is_missing d s p state.results lt
            (ap (λ o. is_done_by d.tracker (stage_at d s).target (results_in o) p) (sym e)
            ∙ lacked))
            (sym (fresh_wants state.held (missing_by d.tracker (stage_at d s) state.results) p)
            ∙ (ap (λ x. wants_in (Some x) p) is ∙ wants)))
        moved state e true false n = same (ap newest_among e ∙ n)
        moved state e false c n = same (ap newest_among e ∙ n)

        at : (o : Option StageState) → slice_get d.states s ≡ o
            → newest_among (option_map (moved_if d looked s) o) ≡ Some set
            → set.born < d.tracker.epoch
        at None e n = absurd (search (rules, n))
        at (Some state) e n = moved state e (looked s) (has_inputs d s) n

    order : (s : ℕ)
        → AllPairs (λ x y. x < y) (births_of (attempts_of (after_looking d looked) s))
    order s =
        rw (state_after d looked s)
        (at (slice_get d.states s) refl)
      where
        was : (state : StageState) → slice_get d.states s ≡ Some state
            → AllPairs (λ x y. x < y) (births_of state.attempts)
        was state e =
            subst (λ o. AllPairs (λ x y. x < y) (births_of (attempts_in o))) e (a.order s)

        last : (state : StageState) → slice_get d.states s ≡ Some state → looked s ≡ true
            → (b : ℕ)
            → slice_get (births_of state.attempts) (length (births_of state.attempts) - 1)
            ≡ Some b → b < d.tracker.epoch
        last state e is b k =
            let l = last_born (Some state) b k in
            subst (λ (n : ℕ). n < d.tracker.epoch) l.2
            (before s l.0 is (ap newest_among e ∙ l.1))

        moved : (state : StageState) → slice_get d.states s ≡ Some state
            → (b : Bool) → looked s ≡ b → (c : Bool)
            → AllPairs (λ x y. x < y) (births_of
            (if b then (if c then started d.tracker d.limits (stage_at d s) state
            else as_waiting state) else state).attempts)
        moved state e true is true =
            subst (λ bs. AllPairs (λ x y. x < y) bs)
            (sym (births_started d.tracker d.limits (stage_at d s) state))
            (all_pairs_push (λ x y. x < y) (births_of state.attempts) d.tracker.epoch
            (was state e)
            (all_before (births_of state.attempts) d.tracker.epoch (was state e)
            (last state e is)))
        moved state e true is false = was state e
        moved state e false is c = was state e

        at : (o : Option StageState) → slice_get d.states s ≡ o
            → AllPairs (λ x y. x < y) (births_of
            (attempts_in (option_map (moved_if d looked s) o)))
        at None e = subst (λ o. AllPairs (λ x y. x < y) (births_of (attempts_in o))) e (a.order s)
        at (Some state) e = moved state e (looked s) refl (has_inputs d s)

-- what is looked at hands out nothing
looked_dead : (d : DagData) (submitted looked : ℕ → Bool)
    → ((s : ℕ) → submitted s ≡ true → is_live_set (newest_at d s) ≡ false)
    → AreLookedAt d submitted looked → (s : ℕ) → looked s ≡ true
    → is_live_set (newest_at d s) ≡ false
looked_dead d submitted looked dead are s is =
    by (submitted s) refl (looked_why d submitted looked s are is)
  where
    idle : (o : Option StageState) → is_idle_in o ≡ true → is_live_set (newest_among o) ≡ false
    idle None e = refl
    idle (Some state) e = not_true (is_live state) (both_right (not state.waits) _ e)

    by : (b : Bool) → submitted s ≡ b
        → (b || (is_idle_in (slice_get d.states s) && is_asked_for d looked s)) ≡ true
        → is_live_set (newest_at d s) ≡ false
    by true e why = dead s e
    by false e why = idle (slice_get d.states s) (both_left _ (is_asked_for d looked s) why)

pub submitted_apart : (d after : DagData) (submitted : ℕ → Bool) → IsSoundDag d
    → ((s : ℕ) → submitted s ≡ true → is_live_set (newest_at d s) ≡ false)
    → IsSubmitted d submitted after → AreBornApart d → AreBornApart after
submitted_apart d after submitted sound dead (looked, are, is) a =
    subst AreBornApart (sym is)
    (apart_looking d looked
    (λ s set l newest. overdue d s set sound a.own (looked_lacks d submitted looked s are l) newest
    (zombie s set newest (looked_dead d submitted looked dead are s l))) a)
  where
    zombie : (s : ℕ) (set : TaskSetData) → newest_at d s ≡ Some set
        → is_live_set (newest_at d s) ≡ false → set.is_zombie ≡ true
    zombie s set e live = by set.is_zombie (sym (ap is_live_set e) ∙ live)
      where
        by : (b : Bool) → not b ≡ false → b ≡ true
        by true h = refl
        by false h = absurd (search (rules, h))
