-- A report adds nothing to an account, but where it frees the partition.
use Rattle.std.proofs.Common.{◌≡◌, ◌⊎◌, inl, inr, ℕ, ◌+◌, ◌-◌, ◌&&◌, not, Bool, true, false, if◌then◌else◌, Option, Some, None, option_map, is_some, slice_get, refl, ap, sym, subst, ◌∙◌, arith, rules, true≢false}
use Rattle.std.proofs.lemmas.Bool.{cases_eq}
use Rattle.std.proofs.lemmas.Bool.Decides.{nat_tests}
use Rattle.sc_ids.specs.declared.attempts.AttemptId.{AttemptId}
use Rattle.sc_ids.specs.declared.blocks.Loc.{Loc}
use Rattle.sc_ids.specs.declared.failures.FailureCause.{FailureCause}
use Rattle.sc_ids.specs.declared.failures.FailureCause.TheVariants as causes
use Rattle.sc_ids.proofs.ChangeLemmas.{length_change_at, slice_get_change_other, slice_get_change_same}
use Rattle.sc_commit.specs.Committers.{committer_at}
use Rattle.sc_commit.specs.Committing.{holds}
use Rattle.sc_commit.specs.declared.committers.Ending.{Ending}
use Rattle.sc_commit.specs.declared.committers.Ending.TheVariants as endings
use Rattle.sc_taskset.specs.Lookups.{is_there_and, task_at}
use Rattle.sc_taskset.specs.Reports.{after_failure as set_after_failure, after_held, after_success, as_zombie, is_counted_in, is_last_failure, reaches_limit}
use Rattle.sc_taskset.specs.TaskSetData.{TaskData, TaskSetData}
use Rattle.sc_taskset.specs.declared.tasks.Verdict.{Verdict}
use Rattle.sc_taskset.specs.declared.tasks.Verdict.TheVariants as verdicts
use Rattle.sc_tracker.specs.Tracking.{is_bogus}
use Rattle.sc_tracker.specs.Trust.{is_newer}
use Rattle.sc_dag.specs.DagData.{DagData, StageState, changed_set, newest_at, with_state}
use Rattle.sc_dag.specs.Losses.{after_seen}
use Rattle.sc_dag.specs.Offers.{newest_number, number_in}
use Rattle.sc_dag.specs.Outputs.{is_complete}
use Rattle.sc_dag.specs.Reports.{FailsStage, after_failed, after_hold, after_map_success, after_result_success, completed_if, ended_in_own, in_own_set, is_finished_short, is_of_newest, is_repeat, set_of, succeeded_in_both, succeeded_in_own, told_held, wants_in, with_failed, with_output, with_result}
use Rattle.sc_dag.specs.Sound.{IsSoundDag, runner_in, runner_of}
use Rattle.sc_dag.specs.Submission.{this_stage}
use Rattle.sc_dag.specs.declared.reports.Success.{Success}
use Rattle.sc_dag.specs.declared.reports.Success.TheVariants as successes
use Rattle.sc_dag.proofs.CalmCalls.{others_go_on}
use Rattle.sc_dag.proofs.SoundCalls.{calls_keep_sound}
use Rattle.sc_dag.proofs.Tests.{not_true}
use Rattle.sc_core.specs.CoreData.{CoreData, with_dag}
use Rattle.sc_core.specs.Tells.{FailsBy, FailsOrAborts, FollowsUp, IsGone, LooksAgain, Misses, MissesIf, TellsFailureIf, after_failure, is_zombie_in, released}
use Rattle.sc_core.specs.declared.answers.Answer.{Answer}
use Rattle.sc_core.proofs.ResultLemmas.{frees}
use Rattle.sc_bound.specs.Numbered.{set_at}
use Rattle.sc_bound.specs.Sets.{is_open}
use Rattle.sc_bound.proofs.AccountLemmas.{Steady, fewer_order, steady_held, steady_order}
use Rattle.sc_bound.proofs.KeepLemmas.{IsOrder, Slot, both_slots, completes_slots, ended_slots, fails_slots, hold_slots, slots_same, submitted_slots, succeeded_slots, won_slots}
use Rattle.sc_bound.proofs.SetLemmas.{Fewer, other_fewer}
use Rattle.sc_bound.proofs.ShutLemmas.{live_lacks, newest_is, newest_shut, own_shut, repeat_shut, still_shut, unwanted_shut, zombie_shut}
use Rattle.sc_bound.proofs.SlotLemmas.{set_failed, set_held, set_own, set_unheld}

-- all sets, in the two relations
abbrev pub FewerAll : ℕ → DagData → DagData → Type 0
FewerAll p d after = (s k : ℕ) → Slot (Fewer p) p (set_at d s k) (set_at after s k)

abbrev pub SteadyAll : ℕ → DagData → DagData → Type 0
SteadyAll p d after = (s k : ℕ) → Slot (Steady p) p (set_at d s k) (set_at after s k)

-- what was shut stays so
pub shut_then : (p : ℕ) (o x : Option TaskSetData) → Slot (Fewer p) p o x → is_open o p ≡ false
    → is_some o ≡ true → is_open x p ≡ false
shut_then p None x h e some = absurd (true≢false (sym some))
shut_then p (Some a) None h e some = refl
shut_then p (Some a) (Some b) h e some =
    still_shut (is_open (Some a) p) (is_open (Some b) p) h.opens_none e

-- a zombie hands out nothing, and stays one
pub dead_then : (p : ℕ) (a : TaskSetData) (x : Option TaskSetData) → a.is_zombie ≡ true
    → Slot (Steady p) p (Some a) x → is_open x p ≡ false
dead_then p a None z h = refl
dead_then p a (Some b) z h = zombie_shut b p (h.dead z)

-- a set is there in which an attempt runs
pub runs_there : (d : DagData) (a : AttemptId) (exec : ℕ) → runner_of d a ≡ Some exec
    → is_some (set_at d a.stage a.stage_attempt) ≡ true
runs_there d a exec runs = by (set_of d a) runs
  where
    by : (o : Option TaskSetData) → runner_in o a ≡ Some exec → is_some o ≡ true
    by None h = absurd (search (rules, h))
    by (Some set) h = refl

-- ---- reports of map tasks

looks_slots : (p : ℕ) (x y : Bool) (d after : DagData) (s : ℕ) → LooksAgain x y d s after
    → FewerAll p d after
looks_slots p true y d after s h = completes_slots (Fewer p) p (fewer_order p) d s after h
looks_slots p false true d after s h =
    submitted_slots (Fewer p) p (fewer_order p) d after (this_stage s) h
looks_slots p false false d after s h =
    subst (λ (x : DagData). FewerAll p d x) (sym h) (slots_same (Fewer p) p (fewer_order p) d)

pub follows_slots : (p : ℕ) (success : Success) (d after : DagData) (s : ℕ)
    → FollowsUp success d s after → FewerAll p d after
follows_slots p successes.Repeated d after s h =
    subst (λ (x : DagData). FewerAll p d x) (sym h) (slots_same (Fewer p) p (fewer_order p) d)
follows_slots p successes.Registered d after s h =
    looks_slots p (is_complete d s) (is_finished_short d s) d after s h
follows_slots p successes.Bogus d after s h =
    looks_slots p (is_complete d s) (is_finished_short d s) d after s h
follows_slots p successes.Finished d after s h =
    looks_slots p (is_complete d s) (is_finished_short d s) d after s h

-- the attempt's own set hands its partition out no more
pub map_shut : (d : DagData) (a : AttemptId) (exec : ℕ) (loc : Loc) (epoch now : ℕ)
    → IsSoundDag d → runner_of d a ≡ Some exec
    → is_open (set_at (after_map_success d a loc epoch now) a.stage a.stage_attempt) a.partition
    ≡ false
map_shut d a exec loc epoch now sound runs =
    by (is_repeat d a) refl (is_bogus d.tracker loc epoch)
  where
    with_it : DagData
    with_it = with_output d a loc

    own_there : (e : DagData) → runner_of e a ≡ Some exec
        → is_some (set_at (succeeded_in_own e a now) a.stage a.stage_attempt) ≡ true
    own_there e r =
        ap is_some (set_own e a (λ set. after_success set a.partition (Some a.nth) now))
        ∙ one (set_at e a.stage a.stage_attempt) (runs_there e a exec r)
      where
        one : (o : Option TaskSetData) → is_some o ≡ true
            → is_some (option_map (λ set. after_success set a.partition (Some a.nth) now) o) ≡ true
        one None h = h
        one (Some set) h = refl

    by : (x : Bool) → is_repeat d a ≡ x → (y : Bool)
        → is_open (set_at (if x then ended_in_own d a
        else if y then succeeded_in_own d a now
        else succeeded_in_both (with_output d a loc) a now) a.stage a.stage_attempt) a.partition
        ≡ false
    by true e y =
        shut_then a.partition (set_at d a.stage a.stage_attempt)
        (set_at (ended_in_own d a) a.stage a.stage_attempt)
        (ended_slots (Fewer a.partition) a.partition (fewer_order a.partition) d a a.stage
        a.stage_attempt) (repeat_shut d a sound e) (runs_there d a exec runs)
    by false e true = own_shut d a exec now runs
    by false e false =
        shut_then a.partition (set_at (succeeded_in_own with_it a now) a.stage a.stage_attempt)
        (set_at (succeeded_in_both with_it a now) a.stage a.stage_attempt)
        (both_slots (Fewer a.partition) a.partition (fewer_order a.partition) with_it a now a.stage
        a.stage_attempt) (own_shut with_it a exec now runs) (own_there with_it runs)

-- ---- reports of result tasks

-- how many attempts a stage had stays so
numbers_with : (d : DagData) (s : ℕ) (f : StageState → StageState) (r : ℕ)
    → ((state : StageState) → number_in (Some (f state)) ≡ number_in (Some state))
    → newest_number (with_state d s f) r ≡ newest_number d r
numbers_with d s f r same = by (cases_eq r s)
  where
    one : (o : Option StageState) → number_in (option_map f o) ≡ number_in o
    one None = refl
    one (Some state) = same state

    by : (r ≡ s) ⊎ (r ≡ s → ⊥) → newest_number (with_state d s f) r ≡ newest_number d r
    by (inl e) =
        subst (λ (j : ℕ). newest_number (with_state d s f) j ≡ newest_number d j) (sym e)
        (ap number_in (slice_get_change_same d.states s f) ∙ one (slice_get d.states s))
    by (inr ne) = ap number_in (slice_get_change_other d.states s r f ne)

pub own_number : (d : DagData) (a : AttemptId) (g : TaskSetData → TaskSetData) (r : ℕ)
    → newest_number (in_own_set d a g) r ≡ newest_number d r
own_number d a g r =
    numbers_with d a.stage (changed_set a.stage_attempt g) r
    (λ state. ap (λ n. state.before + (n - 1)) (length_change_at state.attempts _ _))

pub hold_number : (d : DagData) (s p : ℕ) (denied : Bool) (r : ℕ)
    → newest_number (after_hold d s p denied) r ≡ newest_number d r
hold_number d s p denied r =
    numbers_with d s (told_held p denied) r
    (λ state. ap (λ n. state.before + (n - 1)) (length_change_at state.attempts _ _))

-- a set that is there stays there
pub some_then : (p : ℕ) (o x : Option TaskSetData) → Slot (Fewer p) p o x → is_some o ≡ true
    → is_some x ≡ true
some_then p None x h e = absurd (true≢false (sym e))
some_then p (Some a) None h e = absurd h
some_then p (Some a) (Some b) h e = refl

-- the attempt's own set, and the newest one, hand its partition out no more
module _ (d : DagData) (a : AttemptId) (exec now k : ℕ) (sound : IsSoundDag d)
    (runs : runner_of d a ≡ Some exec)
    (which : (k ≡ a.stage_attempt) ⊎ (k ≡ newest_number d a.stage))
    (there : is_some (set_at d a.stage k) ≡ true) where
  abbrev IsShut : DagData → Type 0
  IsShut x = is_open (set_at x a.stage k) a.partition ≡ false

  abbrev IsThere : DagData → Type 0
  IsThere x = is_some (set_at x a.stage k) ≡ true

  keep : (x y : DagData) → FewerAll a.partition x y → IsShut x → IsThere x → IsShut y
  keep x y h e some =
      shut_then a.partition (set_at x a.stage k) (set_at y a.stage k) (h a.stage k) e some

  stay : (x y : DagData) → FewerAll a.partition x y → IsThere x → IsThere y
  stay x y h some =
      some_then a.partition (set_at x a.stage k) (set_at y a.stage k) (h a.stage k) some

  own_there : IsThere (succeeded_in_own d a now)
  own_there =
      stay d (succeeded_in_own d a now)
      (succeeded_slots (Fewer a.partition) a.partition (fewer_order a.partition) d a now) there

  both_there : IsThere (succeeded_in_both d a now)
  both_there =
      stay (succeeded_in_own d a now) (succeeded_in_both d a now)
      (both_slots (Fewer a.partition) a.partition (fewer_order a.partition) d a now) own_there

  repeated : is_repeat d a ≡ true → IsShut d
  repeated e = by which
    where
      by : (k ≡ a.stage_attempt) ⊎ (k ≡ newest_number d a.stage) → IsShut d
      by (inl own) =
          ap (λ (n : ℕ). is_open (set_at d a.stage n) a.partition) own ∙ repeat_shut d a sound e
      by (inr newest) =
          ap (λ o. is_open o a.partition) (newest_is d a.stage k newest)
          ∙ unwanted_shut (newest_at d a.stage) a.partition
          (not_true (wants_in (newest_at d a.stage) a.partition) e)

  both_shut : IsShut (succeeded_in_both d a now)
  both_shut = by which (is_of_newest d a) refl
    where
      own : k ≡ a.stage_attempt → IsShut (succeeded_in_both d a now)
      own e =
          keep (succeeded_in_own d a now) (succeeded_in_both d a now)
          (both_slots (Fewer a.partition) a.partition (fewer_order a.partition) d a now)
          (ap (λ (n : ℕ). is_open (set_at (succeeded_in_own d a now) a.stage n) a.partition) e
          ∙ own_shut d a exec now runs) own_there

      newest : (b : Bool) → is_of_newest d a ≡ b → k ≡ newest_number d a.stage
          → IsShut (succeeded_in_both d a now)
      newest true e f =
          let is : a.stage_attempt ≡ newest_number d a.stage = grind (arith, nat_tests, e) in
          own (f ∙ sym is)
      newest false e f =
          rw e (newest_shut (succeeded_in_own d a now) a.stage a.partition now k
          (f
          ∙ sym (own_number d a (λ set. after_success set a.partition (Some a.nth) now) a.stage)))

      by : (k ≡ a.stage_attempt) ⊎ (k ≡ newest_number d a.stage) → (b : Bool)
          → is_of_newest d a ≡ b → IsShut (succeeded_in_both d a now)
      by (inl e) b f = own e
      by (inr e) b f = newest b f e

  pub result_shut : IsShut (after_result_success d a now)
  result_shut = by (is_repeat d a) refl
    where
      both : DagData
      both = succeeded_in_both d a now

      by : (x : Bool) → is_repeat d a ≡ x
          → IsShut (if x then ended_in_own d a
          else completed_if (with_state (succeeded_in_both d a now) a.stage
          (with_result a.partition)) a.stage)
      by true e =
          keep d (ended_in_own d a)
          (ended_slots (Fewer a.partition) a.partition (fewer_order a.partition) d a)
          (repeated e) there
      by false e =
          keep both (completed_if (with_state both a.stage (with_result a.partition)) a.stage)
          (won_slots (Fewer a.partition) a.partition (fewer_order a.partition) both a.stage
          a.partition) both_shut both_there

-- ---- grants that are given back

released_by : (c : CoreData) (a : AttemptId) (how : Ending) (Goal : DagData → Type 0)
    → (holds a (committer_at c.committers a.partition) ≡ true
    → Goal (after_hold c.dag a.stage a.partition false))
    → Goal c.dag → Goal (released c a how).dag
released_by c a how Goal held free = by (holds a (committer_at c.committers a.partition)) refl
  where
    by : (b : Bool) → holds a (committer_at c.committers a.partition) ≡ b
        → Goal (if b then after_hold c.dag a.stage a.partition false else c.dag)
    by true e = held e
    by false e = free

pub released_steady : (p : ℕ) (c : CoreData) (a : AttemptId) (how : Ending)
    → SteadyAll p c.dag (released c a how).dag
released_steady p c a how =
    released_by c a how (λ d. SteadyAll p c.dag d)
    (λ e. hold_slots (Steady p) p (steady_order p) c.dag a.stage a.partition false
    (steady_held p a.partition false))
    (slots_same (Steady p) p (steady_order p) c.dag)

pub released_number : (c : CoreData) (a : AttemptId) (how : Ending) (r : ℕ)
    → newest_number (released c a how).dag r ≡ newest_number c.dag r
released_number c a how r =
    released_by c a how (λ d. newest_number d r ≡ newest_number c.dag r)
    (λ e. hold_number c.dag a.stage a.partition false r) refl

-- a set is told of it only where it is the newest one of the stage, and of that partition alone
pub released_fewer : (p : ℕ) (c : CoreData) (a : AttemptId) (how : Ending) (s k : ℕ)
    → (holds a (committer_at c.committers a.partition) ≡ true → s ≡ a.stage
    → k ≡ newest_number c.dag a.stage → p ≡ a.partition → ⊥)
    → Slot (Fewer p) p (set_at c.dag s k) (set_at (released c a how).dag s k)
released_fewer p c a how s k apart =
    released_by c a how (λ d. Slot (Fewer p) p (set_at c.dag s k) (set_at d s k)) held
    (slots_same (Fewer p) p (fewer_order p) c.dag s k)
  where
    held : holds a (committer_at c.committers a.partition) ≡ true
        → Slot (Fewer p) p (set_at c.dag s k)
        (set_at (after_hold c.dag a.stage a.partition false) s k)
    held e = by (cases_eq p a.partition)
      where
        by : (p ≡ a.partition) ⊎ (p ≡ a.partition → ⊥)
            → Slot (Fewer p) p (set_at c.dag s k)
            (set_at (after_hold c.dag a.stage a.partition false) s k)
        by (inl f) =
            subst (λ y. Slot (Fewer p) p (set_at c.dag s k) y)
            (sym (set_unheld c.dag a.stage a.partition false s k (λ x y. apart e x y f)))
            (slots_same (Fewer p) p (fewer_order p) c.dag s k)
        by (inr ne) =
            hold_slots (Fewer p) p (fewer_order p) c.dag a.stage a.partition false
            (λ x. other_fewer x a.partition false p (grind (arith, nat_tests, ne))) s k

-- ---- reports of failures

-- what follows a failure keeps each relation of sets
module _ (R : TaskSetData → TaskSetData → Type 0) (p : ℕ) (order : IsOrder R p) where
  abbrev All-sets : DagData → DagData → Type 0
  All-sets d after = (s k : ℕ) → Slot R p (set_at d s k) (set_at after s k)

  stays_slots : (m after : CoreData) → after ≡ m → All-sets m.dag after.dag
  stays_slots m after is =
      subst (λ (x : CoreData). All-sets m.dag x.dag) (sym is) (slots_same R p order m.dag)

  misses_slots : (m after : CoreData) (a : AttemptId) (answer : Answer)
      → Misses m a answer after → All-sets m.dag after.dag
  misses_slots m after a answer h =
      by (is_of_newest m.dag a && not (is_complete m.dag a.stage)) h
    where
      sent : (verdict : Verdict) (dag : DagData)
          → FailsStage m.dag a.stage a.stage_attempt verdict dag
          → FailsOrAborts m a verdict dag answer after → All-sets m.dag after.dag
      sent verdicts.Again dag fails (told, is) =
          subst (λ (x : CoreData). All-sets m.dag x.dag) (sym is)
          (fails_slots R p order m.dag a.stage a.stage_attempt verdicts.Again dag fails)
      sent verdicts.Limit dag fails (told, is) =
          subst (λ (x : CoreData). All-sets m.dag x.dag) (sym is)
          (fails_slots R p order m.dag a.stage a.stage_attempt verdicts.Limit dag fails)

      by : (b : Bool) → MissesIf b m a answer after → All-sets m.dag after.dag
      by true (verdict, dag, fails, ends) = sent verdict dag fails ends
      by false (told, is) = stays_slots m after is

  caused_slots : (cause : FailureCause) (zombie : Bool) (m after : CoreData) (a : AttemptId)
      (answer : Answer) → FailsBy cause zombie m a answer after → All-sets m.dag after.dag
  caused_slots (causes.Gone exec wanted found) zombie m after a answer h =
      by (is_newer (slice_get m.dag.tracker.trust exec) found) zombie h
    where
      by : (x y : Bool) → IsGone x y m a exec found answer after → All-sets m.dag after.dag
      by true y k = misses_slots (with_dag m (after_seen m.dag exec found)) after a answer k
      by false true (told, is) = stays_slots m after is
      by false false k = misses_slots m after a answer k
  caused_slots (causes.Metadata last) zombie m after a answer h = misses_slots m after a answer h
  caused_slots causes.Planned zombie m after a answer (told, is) = stays_slots m after is
  caused_slots (causes.Raised raise) zombie m after a answer (told, is) = stays_slots m after is
  caused_slots (causes.Device fault) zombie m after a answer (told, is) = stays_slots m after is
  caused_slots causes.Denied zombie m after a answer (told, is) = stays_slots m after is

  pub failing_slots : (b : Bool) (c after : CoreData) (a : AttemptId) (cause : FailureCause)
      (answer : Answer) → TellsFailureIf b c a cause answer after
      → All-sets (after_failure c a cause).dag after.dag
  failing_slots true c after a cause answer (told, is) =
      subst (λ (x : CoreData). All-sets (after_failure c a cause).dag x.dag) (sym is)
      (slots_same R p order (after_failure c a cause).dag)
  failing_slots false c after a cause answer h =
      caused_slots cause (is_zombie_in (set_of c.dag a)) (after_failure c a cause) after a answer h

-- a failure that doesn't count never reaches the limit
pub uncounted_low : (set : TaskSetData) (p nth : ℕ) (cause : FailureCause)
    → is_counted_in set cause ≡ false → reaches_limit set p nth cause ≡ false
uncounted_low set p nth cause e = rw e (by (task_at p set.tasks))
  where
    by : (o : Option TaskData)
        → is_there_and (is_last_failure set.limits.task_failures false nth) o ≡ false
    by None = refl
    by (Some t) = refl

-- ---- an input is missed by an attempt of a set that hands out: it does so no more
module _ (c : CoreData) (a : AttemptId) (cause : FailureCause) (set : TaskSetData)
    (sound : IsSoundDag c.dag) (at : set_at c.dag a.stage a.stage_attempt ≡ Some set)
    (newest : a.stage_attempt ≡ newest_number c.dag a.stage) (live : set.is_zombie ≡ false) where
  failed : DagData
  failed = after_failed c.dag a cause

  abbrev left : CoreData
  left = after_failure c a cause

  left_sound : IsSoundDag (after_failure c a cause).dag
  left_sound =
      (frees calls_keep_sound others_go_on (with_dag c (after_failed c.dag a cause)) a
      endings.Failed).sound ((calls_keep_sound c.dag sound).4 a cause)

  failed_at : set_at (after_failed c.dag a cause) a.stage a.stage_attempt
      ≡ Some (set_after_failure set a.partition a.nth cause)
  failed_at =
      set_own c.dag a (λ x. set_after_failure x a.partition a.nth cause)
      ∙ ap (λ o. option_map (λ x. set_after_failure x a.partition a.nth cause) o) at

  failed_newest : a.stage_attempt ≡ newest_number (after_failed c.dag a cause) a.stage
  failed_newest =
      newest
      ∙ sym (own_number c.dag a (λ x. set_after_failure x a.partition a.nth cause) a.stage)

  -- its set is live still, and the newest one
  record IsLeft (d : DagData) : Type 0 where
    now : TaskSetData
    there : set_at d a.stage a.stage_attempt ≡ Some now
    is_live : now.is_zombie ≡ false
    is_newest : a.stage_attempt ≡ newest_number d a.stage

  is_left : IsLeft (after_failure c a cause).dag
  is_left =
      released_by (with_dag c (after_failed c.dag a cause)) a endings.Failed IsLeft
      (λ e. record {
        now = after_held (set_after_failure set a.partition a.nth cause) a.partition false;
        there = set_held (after_failed c.dag a cause) a.stage a.partition false a.stage_attempt
            failed_newest
            ∙ ap (λ o. option_map (λ x. after_held x a.partition false) o) failed_at;
        is_live = live;
        is_newest = failed_newest
            ∙ sym (hold_number (after_failed c.dag a cause) a.stage a.partition false a.stage);
      })
      (record {
        now = set_after_failure set a.partition a.nth cause;
        there = failed_at;
        is_live = live;
        is_newest = failed_newest;
      })

  miss_shuts : (m after : CoreData) (answer : Answer) → IsSoundDag m.dag → IsLeft m.dag
      → Misses m a answer after
      → is_open (set_at after.dag a.stage a.stage_attempt) a.partition ≡ false
  miss_shuts m after answer m_sound is h = fails (rw fit at h)
    where
      lacks : is_complete m.dag a.stage ≡ false
      lacks =
          live_lacks m.dag a.stage is.now m_sound
          (sym (newest_is m.dag a.stage a.stage_attempt is.is_newest) ∙ is.there) is.is_live

      of : is_of_newest m.dag a ≡ true
      of = let same = is.is_newest in grind (arith, nat_tests, same)

      fit : (is_of_newest m.dag a && not (is_complete m.dag a.stage)) ≡ true
      fit = rw (of, lacks) refl

      given_up : DagData
      given_up = with_state m.dag a.stage (with_failed a.stage_attempt)

      at_it : set_at given_up a.stage a.stage_attempt ≡ Some (as_zombie is.now)
      at_it = set_failed m.dag a.stage a.stage_attempt ∙ ap (λ o. option_map as_zombie o) is.there

      shut : (verdict : Verdict) (dag : DagData)
          → FailsStage m.dag a.stage a.stage_attempt verdict dag
          → is_open (set_at dag a.stage a.stage_attempt) a.partition ≡ false
      shut verdicts.Limit dag (often, e) =
          subst (λ (x : DagData). is_open (set_at x a.stage a.stage_attempt) a.partition ≡ false)
          (sym e) (ap (λ o. is_open o a.partition) at_it)
      shut verdicts.Again dag (often, sent) =
          dead_then a.partition (as_zombie is.now) (set_at dag a.stage a.stage_attempt) refl
          (subst (λ y. Slot (Steady a.partition) a.partition y
          (set_at dag a.stage a.stage_attempt)) at_it
          (submitted_slots (Steady a.partition) a.partition (steady_order a.partition) given_up dag
          (this_stage a.stage) sent a.stage a.stage_attempt))

      ends : (verdict : Verdict) (dag : DagData)
          → FailsStage m.dag a.stage a.stage_attempt verdict dag
          → FailsOrAborts m a verdict dag answer after
          → is_open (set_at after.dag a.stage a.stage_attempt) a.partition ≡ false
      ends verdicts.Again dag f (told, e) =
          subst (λ (x : CoreData).
          is_open (set_at x.dag a.stage a.stage_attempt) a.partition ≡ false) (sym e)
          (shut verdicts.Again dag f)
      ends verdicts.Limit dag f (told, e) =
          subst (λ (x : CoreData).
          is_open (set_at x.dag a.stage a.stage_attempt) a.partition ≡ false) (sym e)
          (shut verdicts.Limit dag f)

      fails : MissesIf true m a answer after
          → is_open (set_at after.dag a.stage a.stage_attempt) a.partition ≡ false
      fails (verdict, dag, f, e) = ends verdict dag f e

  -- the zombie flag that the failure was told with
  pub alive : is_zombie_in (set_of c.dag a) ≡ false
  alive = ap is_zombie_in at ∙ live

  pub gone_shuts : (exec wanted found : ℕ) (after : CoreData) (answer : Answer)
      → cause ≡ causes.Gone exec wanted found
      → FailsBy (causes.Gone exec wanted found) (is_zombie_in (set_of c.dag a))
      (after_failure c a cause) a answer after
      → is_open (set_at after.dag a.stage a.stage_attempt) a.partition ≡ false
  gone_shuts exec wanted found after answer is h =
      by (is_newer (slice_get left.dag.tracker.trust exec) found) (rw alive at h)
    where
      by : (x : Bool) → IsGone x false (after_failure c a cause) a exec found answer after
          → is_open (set_at after.dag a.stage a.stage_attempt) a.partition ≡ false
      by true k =
          miss_shuts (with_dag left (after_seen left.dag exec found)) after answer
          ((calls_keep_sound left.dag left_sound).8 exec found)
          (record {
            now = is_left.now;
            there = is_left.there;
            is_live = is_left.is_live;
            is_newest = is_left.is_newest;
          }) k
      by false k = miss_shuts left after answer left_sound is_left k

  pub metadata_shuts : (last : Loc) (after : CoreData) (answer : Answer)
      → Misses (after_failure c a cause) a answer after
      → is_open (set_at after.dag a.stage a.stage_attempt) a.partition ≡ false
  metadata_shuts last after answer h = miss_shuts left after answer left_sound is_left h
