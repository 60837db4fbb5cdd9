-- Where an attempt runs, and which attempt of its stage it is.
use Rattle.std.proofs.Common.{◌≡◌, ℕ, ◌+◌, ◌-◌, ◌<◌, ◌≤◌, not, nat_lt, Bool, true, false, if◌then◌else◌, length, Option, Some, None, slice_get, refl, ap, sym, subst, ◌∙◌, arith, rules, true≢false}
use Rattle.std.proofs.lemmas.Bool.Decides.{nat_tests}
use Rattle.std.proofs.lemmas.Option.{slice_get_within}
use Rattle.sc_ids.specs.Graphs.{StageData}
use Rattle.sc_ids.specs.declared.attempts.AttemptId.{AttemptId}
use Rattle.sc_taskset.specs.Lookups.{is_finished, is_task_of, is_there_and, task_at}
use Rattle.sc_taskset.specs.TaskSetData.{TaskData, TaskSetData}
use Rattle.sc_dag.specs.DagData.{DagData, StageState, attempt_in, newest_set, place_of_attempt, set_in, stage_at}
use Rattle.sc_dag.specs.Reports.{wants_in}
use Rattle.sc_dag.specs.Sound.{IsSetOf, runner_in, runner_of}
use Rattle.sc_dag.specs.declared.attempts.StageAttempt.{StageAttempt}
use Rattle.std.proofs.Common.{◌≡◌, ℕ, ◌+◌, ◌-◌, ◌<◌, ◌≤◌, not, Bool, true, false, if◌then◌else◌, length, Option, Some, None, slice_get, refl, ap, sym, subst, ◌∙◌, arith, rules, true≢false}
use Rattle.sc_taskset.specs.TaskSetData.{TaskSetData}
use Rattle.sc_dag.specs.DagData.{DagData, StageState, newest_at, newest_set, place_of_attempt, stage_at}
use Rattle.sc_dag.specs.Offers.{newest_number, number_in}
use Rattle.sc_dag.specs.Reports.{is_of_newest, wants_in}
use Rattle.sc_dag.specs.Sound.{IsSetOf, IsSoundDag, runner_of}
use Rattle.sc_dag.proofs.Items.{find_all, find_passes}
use Rattle.sc_dag.proofs.Moving.{newest_among}
use Rattle.sc_dag.proofs.Stuck.{newest_holds}

-- the attempt's set, where it runs on an executor
pub record RunsIn (state : StageState) (a : AttemptId) (exec : ℕ) : Type 0 where
  pub attempt : StageAttempt
  pub there : slice_get state.attempts (place_of_attempt state a.stage_attempt) ≡ Some attempt
  pub runs : runner_in (Some attempt.set) a ≡ Some exec

abbrev set_among : Option StageState → ℕ → Option TaskSetData
set_among None number = None
set_among (Some state) number = set_in (attempt_in state number)

pub runs_in :
    (d : DagData) (a : AttemptId) (exec : ℕ) (state : StageState)
    → slice_get d.states a.stage ≡ Some state → runner_of d a ≡ Some exec → RunsIn state a exec
runs_in d a exec state at runs =
    by (slice_get state.attempts (place_of_attempt state a.stage_attempt)) refl
    (sym (ap (λ o. runner_in (set_among o a.stage_attempt) a) at) ∙ runs)
  where
    by : (o : Option StageAttempt)
        → slice_get state.attempts (place_of_attempt state a.stage_attempt) ≡ o
        → runner_in (set_in o) a ≡ Some exec → RunsIn state a exec
    by None is h = absurd (search (rules, h))
    by (Some x) is h = record { attempt = x; there = is; runs = h }

-- the newest attempt by its number
pub place_newest :
    (state : StageState) (number : ℕ) → number ≡ state.before + (length state.attempts - 1)
    → place_of_attempt state number ≡ length state.attempts - 1
place_newest state number is = by (nat_lt number state.before) refl
  where
    by : (b : Bool) → nat_lt number state.before ≡ b
        → (if b then length state.attempts else number - state.before)
        ≡ length state.attempts - 1
    by true e = absurd (grind (arith, nat_tests, e, is))
    by false e = omega (arith, is)

-- another one that is there
pub place_other :
    (state : StageState) (number : ℕ) (x : StageAttempt)
    → slice_get state.attempts (place_of_attempt state number) ≡ Some x
    → (number ≡ state.before + (length state.attempts - 1) → ⊥)
    → place_of_attempt state number ≡ length state.attempts - 1 → ⊥
place_other state number x there ne e =
    by (nat_lt number state.before) refl e
    (slice_get_within state.attempts (place_of_attempt state number) x there)
  where
    by : (b : Bool) → nat_lt number state.before ≡ b
        → (if b then length state.attempts else number - state.before)
        ≡ length state.attempts - 1
        → (if b then length state.attempts else number - state.before) < length state.attempts
        → ⊥
    by true h same lt = omega (arith, lt)
    by false h same lt =
        let above : state.before ≤ number = grind (arith, nat_tests, h) in
        ne (omega (arith, same, above, lt))

-- a partition that is wanted is one of the stage
pub wanted_within :
    (stage : StageData) (set : TaskSetData) (p : ℕ) → IsSetOf stage set
    → wants_in (Some set) p ≡ true → p < stage.tasks
wanted_within stage set p of wants = by (task_at p set.tasks) refl wants
  where
    by : (o : Option TaskData) → task_at p set.tasks ≡ o
        → is_there_and (λ t. not (is_finished t)) o ≡ true → p < stage.tasks
    by None e w = absurd (true≢false (sym w))
    by (Some t) e w =
        let lt : t.partition < stage.tasks =
        find_all (λ u. u.partition < stage.tasks) (is_task_of p) set.tasks t of.within e in
        let passes : is_task_of p t ≡ true = find_passes (is_task_of p) set.tasks t e in
        let same : t.partition ≡ p = grind (arith, nat_tests, passes) in
        subst (λ n. n < stage.tasks) same lt

-- an attempt that runs, of a partition that its stage's newest set wants
module _ (d : DagData) (a : AttemptId) (exec now : ℕ) (sound : IsSoundDag d)
    (runs : runner_of d a ≡ Some exec)
    (wants : wants_in (newest_at d a.stage) a.partition ≡ true) where
  abbrev stage : StageData
  stage = stage_at d a.stage

  -- the partition is one of the stage
  pub within : a.partition < stage.tasks
  within = by (newest_at d a.stage) refl wants
    where
      by : (o : Option TaskSetData) → newest_at d a.stage ≡ o
          → wants_in o a.partition ≡ true → a.partition < stage.tasks
      by None e w = absurd (true≢false (sym w))
      by (Some set) e w =
          wanted_within stage set a.partition
          (newest_holds (IsSetOf stage) (slice_get d.states a.stage) set
          (λ i x l. (sound.attempts a.stage i x l).set) e) w

  -- its own stage, by its state
  pub wanted_in : (state : StageState) → slice_get d.states a.stage ≡ Some state
      → wants_in (newest_set state) a.partition ≡ true
  wanted_in state at = sym (ap (λ o. wants_in (newest_among o) a.partition) at) ∙ wants

  pub newest_place : (state : StageState) → slice_get d.states a.stage ≡ Some state
      → is_of_newest d a ≡ true
      → place_of_attempt state a.stage_attempt ≡ length state.attempts - 1
  newest_place state at e =
      let is : a.stage_attempt ≡ newest_number d a.stage = grind (arith, nat_tests, e) in
      place_newest state a.stage_attempt (is ∙ ap number_in at)

  pub older_place : (state : StageState) → slice_get d.states a.stage ≡ Some state
      → is_of_newest d a ≡ false
      → place_of_attempt state a.stage_attempt ≡ length state.attempts - 1 → ⊥
  older_place state at e =
      let ne : a.stage_attempt ≡ newest_number d a.stage → ⊥ =
      λ is. grind (arith, nat_tests, e, is) in
      let r = runs_in d a exec state at runs in
      place_other state a.stage_attempt r.attempt r.there
      (λ is. ne (is ∙ sym (ap number_in at)))
