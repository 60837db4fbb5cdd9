-- What holds of every core holds once the success of a result task was told.
use Rattle.std.proofs.Common.{◌≡◌, ◌≢◌, ◌⊎◌, inl, inr, ℕ, ◌-◌, ◌<◌, ◌==◌, All, Bool, true, false, if◌then◌else◌, List, length, Option, Some, None, slice_get, refl, ap, sym, subst, ◌∙◌, arith, rules, true≢false}
use Rattle.std.proofs.lemmas.Bool.Decides.{nat_tests}
use Rattle.sc_ids.specs.Graphs.{StageData}
use Rattle.sc_ids.specs.declared.attempts.AttemptId.{AttemptId}
use Rattle.sc_commit.specs.Committers.{committer_at}
use Rattle.sc_commit.specs.Committing.{holds, is_same}
use Rattle.sc_commit.specs.declared.committers.Ending.{Ending}
use Rattle.sc_commit.specs.declared.committers.Ending.TheVariants as endings
use Rattle.sc_taskset.specs.Lookups.{is_task_of, task_at}
use Rattle.sc_taskset.specs.TaskSetData.{TaskData, TaskSetData}
use Rattle.sc_taskset.proofs.FindLemmas.{found_is}
use Rattle.sc_dag.specs.DagData.{DagData, no_stage, stage_at}
use Rattle.sc_dag.specs.Laws.{CallsKeepSound, OthersGoOn, ResultSuccessesGoOn}
use Rattle.sc_dag.specs.Laws as dag
use Rattle.sc_dag.specs.Outputs.{is_complete}
use Rattle.sc_dag.specs.Reports.{after_hold, after_result_success, ended_in_own, is_repeat, result_success_of, set_of}
use Rattle.sc_dag.specs.Settled.{IsSettled, IsUnderWay}
use Rattle.sc_dag.specs.Sound.{IsSoundDag, runner_among, runner_in, runner_of}
use Rattle.sc_dag.specs.Submission.{is_map}
use Rattle.sc_dag.specs.declared.reports.Success.{Success}
use Rattle.sc_dag.specs.declared.reports.Success.TheVariants as successes
use Rattle.sc_dag.proofs.Tests.{both_left, clash, not_true}
use Rattle.sc_core.specs.CoreData.{CoreData, ended, is_running_job, job_runs, result_stage, taken_off}
use Rattle.sc_core.specs.Posts.{fits}
use Rattle.sc_core.specs.Sound.{GoesOn, IsSoundJob, RunsWell}
use Rattle.sc_core.specs.Tells.{TellsResult, after_result, done_if, released, with_result_of}
use Rattle.sc_core.specs.declared.answers.Answer.{Answer}
use Rattle.sc_core.specs.declared.answers.JobState.TheVariants as jobs
use Rattle.sc_core.specs.declared.events.Outcome.TheVariants as outcomes
use Rattle.sc_core.specs.declared.running.Running.{Running}
use Rattle.sc_core.proofs.TaskCallLemmas.{ended_results, hold_calms, hold_results, result_moves}
use Rattle.sc_core.proofs.LookupLemmas.{set_holds}
use Rattle.sc_core.proofs.MoveLemmas.{Calm, Moves, SameResults, calm_then, still}
use Rattle.sc_core.proofs.ToldLemmas.{goes_same, goes_with, told_sound, under_kept}
use Rattle.sc_core.proofs.CarryLemmas.{Carries, carries_same, carries_then}
use Rattle.sc_core.proofs.CallCarryLemmas.{hold_carries, result_carries}

-- A grant that is freed lets nothing run and stops nothing, and no stage is forgotten.
pub record Frees (d after : DagData) : Type 0 where
  pub calm : Calm d after
  pub carries : Carries d after
  pub results : SameResults d after
  pub sound : IsSoundDag d → IsSoundDag after
  pub goes : IsSoundDag d → IsSettled d → dag.GoesOn d after

pub frees : CallsKeepSound → OthersGoOn → (c : CoreData) (a : AttemptId) (how : Ending)
    → Frees c.dag (released c a how).dag
frees calls others c a how = by (holds a (committer_at c.committers a.partition))
  where
    by : (b : Bool)
        → Frees c.dag (if b then after_hold c.dag a.stage a.partition false else c.dag)
    by true =
        record {
          calm = hold_calms c.dag a.stage a.partition false;
          carries = hold_carries c.dag a.stage a.partition false;
          results = hold_results c.dag a.stage a.partition false;
          sound = λ s. (calls c.dag s).7 a.stage a.partition false;
          goes = λ s t. (others c.dag s t).2 a.stage a.partition false;
        }
    by false =
        record {
          calm = still c.dag;
          carries = carries_same c.dag;
          results = λ s. refl;
          sound = λ s. s;
          goes = λ s t. (t, λ r under lacks. under.1);
        }

-- the stage of an attempt that runs is one of the job
runs_within : (d : DagData) (a : AttemptId) (exec : ℕ) → IsSoundDag d → runner_of d a ≡ Some exec
    → stage_at d a.stage ≢ no_stage
runs_within d a exec sound runs is =
    by (set_of d a) refl runs
  where
    task : (set : TaskSetData) → set_of d a ≡ Some set → (o : Option TaskData)
        → task_at a.partition set.tasks ≡ o → runner_among o a.nth ≡ Some exec → ⊥
    task set e None f h = search (rules, h)
    task set e (Some t) f h =
        let lt : t.partition < (stage_at d a.stage).tasks =
        found_is (λ u. u.partition < (stage_at d a.stage).tasks) (is_task_of a.partition)
        set.tasks t
        (set_holds (λ s. All (λ u. u.partition < (stage_at d a.stage).tasks) s.tasks)
        (slice_get d.states a.stage) a.stage_attempt set
        (λ i x l. (sound.attempts a.stage i x l).set.within) e) f in
        let none : (stage_at d a.stage).tasks ≡ 0 = ap (λ (s : StageData). s.tasks) is in
        omega (arith, lt, none)

    by : (o : Option TaskSetData) → set_of d a ≡ o → runner_in o a ≡ Some exec → ⊥
    by None e h = search (rules, h)
    by (Some set) e h = task set e (task_at a.partition set.tasks) refl h

-- and if it is one of results, it is the result stage
pub runs_results : (c : CoreData) (r : Running) → IsSoundJob c → RunsWell c r
    → is_map (stage_at c.dag r.hand_out.attempt.stage).target ≡ false
    → r.hand_out.attempt.stage ≡ result_stage c.dag
runs_results c r sound well kind = by (s == result_stage c.dag) refl
  where
    s : ℕ
    s = r.hand_out.attempt.stage

    which : (is_map (stage_at c.dag r.hand_out.attempt.stage).target ≡ true)
        ⊎ (stage_at c.dag r.hand_out.attempt.stage ≡ no_stage) → ⊥
    which (inl e) = clash e kind
    which (inr e) =
        runs_within c.dag r.hand_out.attempt r.exec sound.dag well.in_set e

    by : (b : Bool) → (s == result_stage c.dag) ≡ b → s ≡ result_stage c.dag
    by true e = grind (arith, nat_tests, e)
    by false e = absurd (which (sound.maps s (λ is. grind (arith, nat_tests, e, is))))

-- what a success leaves, with a job that is done where it is the last one
wins :
    CallsKeepSound → ResultSuccessesGoOn → OthersGoOn → (c mid : CoreData) (a : AttemptId)
    (exec : ℕ) → IsSoundJob c → job_runs c ≡ true
    → is_map (stage_at c.dag a.stage).target ≡ false → runner_of c.dag a ≡ Some exec
    → a.stage ≡ result_stage c.dag
    → Frees c.dag mid.dag → mid.running ≡ (taken_off c a).running
    → mid.handed ≡ c.handed → mid.job ≡ c.job
    → IsSoundJob (done_if (is_complete (with_result_of mid a).dag a.stage) (with_result_of mid a))
wins calls results others c mid a exec sound job kind runs stage free running handed same =
    by (is_complete next.dag a.stage) refl
  where
    next : CoreData
    next = with_result_of mid a

    mid_kind : is_map (stage_at mid.dag a.stage).target ≡ false
    mid_kind = rw free.calm.stages kind

    mid_runs : runner_of mid.dag a ≡ Some exec
    mid_runs = free.calm.runners a ∙ runs

    moves : Moves (is_same a) None c.dag next.dag
    moves =
        calm_then (is_same a) None c.dag mid.dag next.dag free.calm
        (result_moves mid.dag a mid.now)

    carries : Carries c.dag next.dag
    carries =
        carries_then c.dag mid.dag next.dag free.carries (result_carries mid.dag a mid.now)

    next_sound : IsSoundDag next.dag
    next_sound = (calls mid.dag (free.sound sound.dag)).3 a exec mid.now mid_kind mid_runs

    goes : is_complete next.dag a.stage ≡ false → GoesOn next
    goes lacks =
        goes_with c next moves.stages on.0 (left, on.1 (result_stage c.dag) under left)
      where
        left : is_complete next.dag (result_stage c.dag) ≡ false
        left = subst (λ (s : ℕ). is_complete next.dag s ≡ false) stage lacks

        before : dag.GoesOn c.dag mid.dag
        before = free.goes sound.dag (sound.goes_on job).settled

        on : dag.GoesOn mid.dag next.dag
        on =
            results mid.dag a exec mid.now (free.sound sound.dag) before.0 mid_kind mid_runs

        under : IsUnderWay mid.dag (result_stage c.dag)
        under =
            under_kept c.dag mid.dag (result_stage c.dag) free.calm.stages free.results
            sound.result before (sound.goes_on job).result

    by : (b : Bool) → is_complete next.dag a.stage ≡ b → IsSoundJob (done_if b next)
    by true e =
        told_sound c (ended next jobs.Done) a sound moves carries running handed next_sound
        (λ h. absurd (true≢false (sym h)))
        (λ h. subst (λ (s : ℕ). is_complete next.dag s ≡ true)
        (stage ∙ ap (λ (all : List StageData). length all - 1) (sym moves.stages)) e)
    by false e =
        told_sound c next a sound moves carries running handed next_sound (λ h. goes e)
        (λ h. absurd (clash job (ap is_running_job (sym same ∙ h))))

-- a repeated success of a result task ends its attempt alone
repeats :
    (d : DagData) (a : AttemptId) (now : ℕ) → result_success_of d a ≡ successes.Repeated
    → after_result_success d a now ≡ ended_in_own d a
repeats d a now e = by (is_repeat d a) refl e
  where
    by : (x : Bool) → is_repeat d a ≡ x
        → (if x then successes.Repeated else successes.Finished) ≡ successes.Repeated
        → after_result_success d a now ≡ ended_in_own d a
    by true f h = rw f refl
    by false f h = absurd (search (rules, h))

pub result_keeps :
    CallsKeepSound → ResultSuccessesGoOn → OthersGoOn → (c after : CoreData) (r : Running)
    (answer : Answer) → IsSoundJob c → job_runs c ≡ true → RunsWell c r
    → fits c r outcomes.Result ≡ true
    → TellsResult (taken_off c r.hand_out.attempt) r answer after → IsSoundJob after
result_keeps calls results others c after r answer sound job well fit (says, is) =
    subst IsSoundJob (sym is) (by (result_success_of c.dag a) refl)
  where
    a : AttemptId
    a = r.hand_out.attempt

    told : CoreData
    told = taken_off c r.hand_out.attempt

    kind : is_map (stage_at c.dag r.hand_out.attempt.stage).target ≡ false
    kind = not_true (is_map (stage_at c.dag r.hand_out.attempt.stage).target) (both_left _ _ fit)

    freed : CoreData
    freed = released (taken_off c r.hand_out.attempt) r.hand_out.attempt endings.Succeeded

    won : IsSoundJob (done_if (is_complete (with_result_of freed a).dag a.stage)
        (with_result_of freed a))
    won =
        wins calls results others c freed a r.exec sound job kind well.in_set
        (runs_results c r sound well kind) (frees calls others told a endings.Succeeded)
        refl refl refl

    by : (s : Success) → result_success_of c.dag a ≡ s → IsSoundJob (after_result s told a)
    by successes.Repeated e =
        told_sound c (with_result_of told a) a sound (result_moves c.dag a c.now)
        (result_carries c.dag a c.now) refl refl
        ((calls c.dag sound.dag).3 a r.exec c.now kind well.in_set)
        (λ h. goes_same c (with_result_of told a) sound (sound.goes_on job)
        (result_moves c.dag a c.now).stages same goes)
        (λ h. absurd (clash job (ap is_running_job h)))
      where
        same : SameResults c.dag (after_result_success c.dag a c.now)
        same = subst (λ x. SameResults c.dag x) (sym (repeats c.dag a c.now e))
            (ended_results c.dag a)

        goes : dag.GoesOn c.dag (after_result_success c.dag a c.now)
        goes = results c.dag a r.exec c.now sound.dag (sound.goes_on job).settled kind well.in_set
    by successes.Registered e = won
    by successes.Bogus e = won
    by successes.Finished e = won
