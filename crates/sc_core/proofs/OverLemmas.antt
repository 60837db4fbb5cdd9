-- In a save who asks is over exactly where it doesn't come next.
use Rattle.std.proofs.Common.{◌≡◌, ◌≢◌, ◌↔◌, ℕ, ◌<◌, All, Bool, true, false, if◌then◌else◌, List, length, Option, Some, None, slice_get, refl, ap, sym, subst, ◌∙◌, rules, true≢false}
use Rattle.sc_ids.specs.declared.attempts.AttemptId.{AttemptId}
use Rattle.sc_ids.proofs.ChangeLemmas.{at_or_slice_get}
use Rattle.sc_commit.specs.Committers.{committer_at}
use Rattle.sc_commit.specs.Committing.{answer_to, is_same, permitted, permitted_at}
use Rattle.sc_commit.specs.declared.committers.Committer.{Committer}
use Rattle.sc_commit.specs.declared.committers.Committer.TheVariants.{Holder, Nobody, Winner}
use Rattle.sc_commit.specs.declared.committers.Permission.{Permission}
use Rattle.sc_commit.specs.declared.committers.Permission.TheVariants as permissions
use Rattle.sc_taskset.specs.Lookups.{is_task_of, task_at}
use Rattle.sc_taskset.specs.TaskSetData.{TaskData, TaskSetData}
use Rattle.sc_taskset.proofs.FindLemmas.{found_is, found_passes}
use Rattle.sc_dag.specs.DagData.{DagData, stage_at}
use Rattle.sc_dag.specs.Reports.{set_of}
use Rattle.sc_dag.specs.Sound.{IsSoundDag, runner_among, runner_in, runner_of}
use Rattle.sc_core.specs.CoreData.{CoreData, is_of, job_runs, running_of}
use Rattle.sc_core.specs.Laws.{AsksAreOver}
use Rattle.sc_core.specs.Saving.{AsksBy, AsksIf, is_staged, saver_phase}
use Rattle.sc_core.specs.Sound.{IsSoundCore, RunsWell}
use Rattle.sc_core.specs.declared.answers.Answer.TheVariants as says
use Rattle.sc_core.specs.declared.answers.SideAnswer.TheVariants as sides
use Rattle.sc_core.specs.declared.running.Phase.TheVariants as phases
use Rattle.sc_core.specs.declared.running.Running.{Running}
use Rattle.sc_core.proofs.GrantLemmas.{equal}
use Rattle.sc_core.proofs.LookupLemmas.{same_is, set_holds}
use Rattle.sc_core.proofs.SaveAsideLemmas.{IsSaver, saver_of, staged_is}

-- an attempt that runs is of a partition of its stage
runs_below : (d : DagData) (a : AttemptId) (exec : ℕ) → IsSoundDag d → runner_of d a ≡ Some exec
    → a.partition < (stage_at d a.stage).tasks
runs_below d a exec sound runs = by (set_of d a) refl runs
  where
    task : (set : TaskSetData) → set_of d a ≡ Some set → (o : Option TaskData)
        → task_at a.partition set.tasks ≡ o → runner_among o a.nth ≡ Some exec
        → a.partition < (stage_at d a.stage).tasks
    task set e None f h = absurd (search (rules, h))
    task set e (Some t) f h =
        let lt : t.partition < (stage_at d a.stage).tasks =
        found_is (λ u. u.partition < (stage_at d a.stage).tasks) (is_task_of a.partition)
        set.tasks t
        (set_holds (λ s. All (λ u. u.partition < (stage_at d a.stage).tasks) s.tasks)
        (slice_get d.states a.stage) a.stage_attempt set
        (λ i x l. (sound.attempts a.stage i x l).set.within) e) f in
        subst (λ (p : ℕ). p < (stage_at d a.stage).tasks)
        (equal t.partition a.partition
        (found_passes (is_task_of a.partition) set.tasks t f)) lt

    by : (o : Option TaskSetData) → set_of d a ≡ o → runner_in o a ≡ Some exec
        → a.partition < (stage_at d a.stage).tasks
    by None e h = absurd (search (rules, h))
    by (Some set) e h = task set e (task_at a.partition set.tasks) refl h

-- where there is a place for it, it is granted or denied
asks_there : (ks : List Committer) (a : AttemptId) → a.partition < length ks
    → answer_to ks a true ≢ permissions.Over
asks_there ks a within over =
    there (committer_at ks a.partition)
    (ap (permitted_at a) (sym (at_or_slice_get ks a.partition Nobody within)) ∙ over)
  where
    beside : (first : AttemptId) (b : Bool)
        → (if b then permissions.Granted else permissions.Denied first) ≢ permissions.Over
    beside first true e = search (rules, e)
    beside first false e = search (rules, e)

    there : (k : Committer) → permitted a k ≢ permissions.Over
    there Nobody e = search (rules, e)
    there (Holder first denies) e = beside first (is_same first a) e
    there (Winner first) e = beside first (is_same first a) e

-- there is a place for each attempt of a save that runs
saver_within : (c : CoreData) (a : AttemptId) → IsSoundCore c → IsSaver c a phases.Staged
    → a.partition < length c.committers
saver_within c a sound s = by (running_of c a) refl s.found
  where
    by : (o : Option Running) → running_of c a ≡ o → o ≢ None
        → a.partition < length c.committers
    by None e n = absurd (n refl)
    by (Some r) e n =
        let well : RunsWell c r =
        found_is (RunsWell c) (is_of a) c.running r sound.job.running e in
        let same : r.hand_out.attempt ≡ a =
        same_is r.hand_out.attempt a (found_passes (is_of a) c.running r e) in
        subst (λ (n : ℕ). a.partition < n)
        (ap (λ (t : ℕ). (stage_at c.dag t).tasks) s.stage
        ∙ sym ((sound.save s.runs).places s.saves))
        (runs_below c.dag a r.exec sound.job.dag
        (subst (λ b. runner_of c.dag b ≡ Some r.exec) same well.in_set))

pub over_exactly : AsksAreOver
over_exactly c after a answer sound (said, told, step) =
    by (is_staged (saver_phase c a)) refl step
  where
    is_over : answer ≡ says.Side sides.Over → said ≡ sides.Over
    is_over e = (let same = sym told ∙ e in search (rules, same))

    never : IsSaver c a phases.Staged → (permission : Permission)
        → answer_to c.committers a true ≡ permission → AsksBy permission c a said after
        → said ≢ sides.Over
    never s permissions.Granted e (alone, is) over = search (rules, sym alone ∙ over)
    never s (permissions.Denied other) e (alone, is) over = search (rules, sym alone ∙ over)
    never s permissions.Over e (alone, is) over =
        asks_there c.committers a (saver_within c a sound s) e

    runs : is_staged (saver_phase c a) ≡ true → job_runs c ≡ true
    runs e = on (job_runs c) refl
      where
        on : (b : Bool) → job_runs c ≡ b → b ≡ true
        on true f = refl
        on false f = absurd (true≢false (sym (rw f at e)))

    by : (b : Bool) → is_staged (saver_phase c a) ≡ b → AsksIf b c a said after
        → (answer ≡ says.Side sides.Over) ↔ (b ≡ false)
    by false e (alone, is) = (λ over. refl, λ f. told ∙ ap says.Side alone)
    by true e asks = (
      λ over. absurd (never
          (saver_of c a phases.Staged sound.job (sound.save (runs e))
          (staged_is (saver_phase c a) e)) (answer_to c.committers a true) refl asks
          (is_over over)),
      λ f. absurd (true≢false f),
    )
