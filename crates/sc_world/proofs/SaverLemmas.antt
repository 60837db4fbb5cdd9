-- Which attempt of a save comes next.
use Rattle.std.proofs.Common.{◌≡◌, ◌≢◌, ◌⊎◌, inl, inr, ℕ, ◌<◌, ◌==◌, ◌&&◌, Bool, true, false, cond, if◌then◌else◌, List, [], ◌∷◌, Option, Some, None, find, option_map, refl, ap, sym, subst, ◌∙◌, arith, rules}
use Rattle.std.proofs.lemmas.Bool.Decides.{nat_tests}
use Rattle.sc_ids.specs.Graphs.{StageData}
use Rattle.sc_ids.specs.declared.attempts.AttemptId.{AttemptId}
use Rattle.sc_taskset.proofs.FindLemmas.{found_is, found_passes}
use Rattle.sc_dag.specs.DagData.{no_stage, stage_at}
use Rattle.sc_dag.specs.Openings.{AreNumbered}
use Rattle.sc_dag.specs.Submission.{is_map}
use Rattle.sc_dag.proofs.Tests.{clash}
use Rattle.sc_core.specs.CoreData.{CoreData, is_of, job_runs, result_stage, running_of}
use Rattle.sc_core.specs.Posts.{is_save}
use Rattle.sc_core.specs.Saving.{is_out_of, may_save, phase_out, saver_phase}
use Rattle.sc_core.specs.Sound.{IsSoundCore, IsSoundJob, SavesWell}
use Rattle.sc_core.specs.declared.running.Phase.TheVariants as phases
use Rattle.sc_core.specs.declared.running.Running.{Running}
use Rattle.sc_core.proofs.LookupLemmas.{same_is}
use Rattle.sc_jobs.specs.JobData.{HasPartition}
use Rattle.sc_net.specs.Tasks.{IsTaskOf, TaskData, is_map_task, stage_of_task}
use Rattle.sc_world.proofs.FitLemmas.{stage_stands, task_stage}

-- where the one of these numbers is out, it is the first of them that is
found_out : (a : AttemptId) (rs : List Running) (r : Running) → find (is_of a) rs ≡ Some r
    → r.is_out ≡ true → find (is_out_of a) rs ≡ Some r
found_out a [] r e out = absurd (search (rules, e))
found_out a (x ∷ xs) r e out = by (is_of a x) refl e (λ f. found_out a xs r f out)
  where
    head : Some x ≡ Some r → x ≡ r
    head h = search (rules, h)

    by : (b : Bool) → is_of a x ≡ b → cond b (Some x) (find (is_of a) xs) ≡ Some r
        → (find (is_of a) xs ≡ Some r → find (is_out_of a) xs ≡ Some r)
        → cond (b && x.is_out) (Some x) (find (is_out_of a) xs) ≡ Some r
    by true k h rest =
        let is = head h in rw (is, out) refl
    by false k h rest = rest h

-- an attempt of a save's result stage that runs and is out may save, as far as it has come
pub saver_there : (c : CoreData) (a : AttemptId) (r : Running) → job_runs c ≡ true
    → is_save c.committers ≡ true → a.stage ≡ result_stage c.dag → running_of c a ≡ Some r
    → r.is_out ≡ true → saver_phase c a ≡ Some r.phase
saver_there c a r runs saving stage found out =
    subst (λ b. (if b then phase_out a c.running else None) ≡ Some r.phase) (sym may)
    (ap (option_map (λ (q : Running). q.phase)) (found_out a c.running r found out))
  where
    same : (m n : ℕ) → m ≡ n → (m == n) ≡ true
    same m n e = grind (arith, nat_tests, e)

    may : may_save c a ≡ true
    may = rw (runs, saving) (same a.stage (result_stage c.dag) stage)

-- a result task is one of the result stage
pub result_of_task : (c : CoreData) (t : TaskData) → IsSoundJob c
    → AreNumbered t.job.graph c.dag.stages → IsTaskOf t.job t.hand_out → is_map_task t ≡ false
    → t.hand_out.attempt.stage ≡ result_stage c.dag
result_of_task c t sound numbered task result =
    by (t.hand_out.attempt.stage == result_stage c.dag) refl
  where
    kind : is_map (stage_at c.dag t.hand_out.attempt.stage).target ≡ false
    kind = task_stage c t numbered task ∙ result

    -- it is there, since it has this task
    there : (o : Option StageData) → stage_of_task t ≡ o
        → HasPartition o t.hand_out.attempt.partition
        → stage_at c.dag t.hand_out.attempt.stage ≡ no_stage → ⊥
    there None e has none = has
    there (Some stage) e has none =
        empty (subst (λ x. HasPartition (Some x) t.hand_out.attempt.partition)
        (sym (stage_stands t.job.graph c.dag.stages t.hand_out.attempt.stage stage numbered e)
        ∙ none) has)
      where
        empty : t.hand_out.attempt.partition < 0 → ⊥
        empty lt = omega (arith, lt)

    of : (is_map (stage_at c.dag t.hand_out.attempt.stage).target ≡ true)
        ⊎ (stage_at c.dag t.hand_out.attempt.stage ≡ no_stage) → ⊥
    of (inl e) = clash e kind
    of (inr none) = there (stage_of_task t) refl task.task none

    by : (b : Bool) → (t.hand_out.attempt.stage == result_stage c.dag) ≡ b
        → t.hand_out.attempt.stage ≡ result_stage c.dag
    by true e = grind (arith, nat_tests, e)
    by false e =
        absurd (of (sound.maps t.hand_out.attempt.stage (λ is. grind (arith, nat_tests, e, is))))

-- so is one of a save that has come past its beginning
pub saver_stage : (c : CoreData) (a : AttemptId) (r : Running) → IsSoundCore c
    → job_runs c ≡ true → running_of c a ≡ Some r → r.phase ≢ phases.Given
    → a.stage ≡ result_stage c.dag
saver_stage c a r sound runs found past =
    subst (λ (b : AttemptId). b.stage ≡ result_stage c.dag)
    (same_is r.hand_out.attempt a (found_passes (is_of a) c.running r found))
    (well.saver past).1
  where
    well : SavesWell c r
    well = found_is (SavesWell c) (is_of a) c.running r (sound.save runs).phases found
