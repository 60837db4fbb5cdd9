-- Where a job runs and no stage has a task, an attempt is under way.
use Rattle.std.proofs.Common.{◌≡◌, ◌≢◌, ◌⊎◌, inl, inr, ℕ, ◌==◌, All, Bool, true, false, List, [], ◌∷◌, Option, Some, None, find, option_map, slice_get, refl, ap, sym, subst, ◌∙◌, arith, rules, true≢false}
use Rattle.std.proofs.lemmas.Bool.Decides.{nat_tests}
use Rattle.std.proofs.lemmas.List.Elements.{All-head}
use Rattle.sc_ids.specs.declared.attempts.AttemptId.{AttemptId}
use Rattle.sc_base.specs.Lists.{at_or}
use Rattle.sc_commit.specs.Committers.{committer_at}
use Rattle.sc_commit.specs.Committing.{denies}
use Rattle.sc_commit.specs.declared.committers.Committer.{Committer}
use Rattle.sc_commit.specs.declared.committers.Committer.TheVariants as committers
use Rattle.sc_taskset.specs.Lookups.{copy_at, is_idle, is_task_of}
use Rattle.sc_taskset.specs.TaskSetData.{TaskSetData}
use Rattle.sc_taskset.specs.declared.tasks.RunningCopy.{RunningCopy}
use Rattle.sc_taskset.proofs.FindLemmas.{found_is}
use Rattle.sc_dag.specs.Laws.{HoldsBack, NothingIsStuck}
use Rattle.sc_dag.specs.Offers.{newest_number}
use Rattle.sc_dag.specs.Outputs.{held_in}
use Rattle.sc_dag.specs.DagData.{newest_at}
use Rattle.sc_dag.specs.Sound.{AreHeldBy, runner_among, runner_in, runner_of}
use Rattle.sc_dag.proofs.Tests.{both_right}
use Rattle.sc_core.specs.CoreData.{CoreData, is_of, out_or, result_stage, running_of, shelved_first, under_way}
use Rattle.sc_core.specs.Laws.{WaitsHaveCause}
use Rattle.sc_core.specs.Sound.{IsSoundJob, IsSoundSave, is_denied_in, is_shelved}
use Rattle.sc_core.specs.declared.running.Running as core
use Rattle.sc_core.specs.declared.running.Shelved.{Shelved}
use Rattle.sc_core.proofs.LookupLemmas.{attempt, set_of_newest}

-- an attempt of a task that isn't idle runs
copy_runs : (copies : List RunningCopy) → is_idle copies ≡ false
    → (c : RunningCopy) × (copy_at c.nth copies ≡ Some c)
copy_runs [] e = absurd (true≢false e)
copy_runs (c ∷ copies) e =
    let same : (c.nth == c.nth) ≡ true = grind (arith, nat_tests) in (c, rw same refl)

-- where an attempt runs, one is out
out_there :
    (c : CoreData) (a : AttemptId)
    → All (λ r. r.is_out ≡ false → is_shelved c.shelf r.hand_out.attempt ≡ true) c.running
    → running_of c a ≢ None → under_way c ≢ None
out_there c a all there = by c.running all there
  where
    first : (shelf : List Shelved) (b : AttemptId) → is_shelved shelf b ≡ true
        → shelved_first shelf ≢ None
    first [] b e = absurd (true≢false (sym e))
    first (s ∷ shelf) b e = λ n. search (rules, n)

    some_or : (o : Option core.Running) → shelved_first c.shelf ≢ None
        → out_or o (shelved_first c.shelf) ≢ None
    some_or None some = some
    some_or (Some r) some = λ n. search (rules, n)

    one : (r : core.Running) (running : List core.Running) (b : Bool) → r.is_out ≡ b
        → (r.is_out ≡ false → is_shelved c.shelf r.hand_out.attempt ≡ true)
        → out_or (find (λ r. r.is_out) (r ∷ running)) (shelved_first c.shelf) ≢ None
    one r running true e waits = rw e (λ n. search (rules, n))
    one r running false e waits =
        some_or (find (λ q. q.is_out) (r ∷ running))
        (first c.shelf r.hand_out.attempt (waits e))

    by : (running : List core.Running)
        → All (λ r. r.is_out ≡ false → is_shelved c.shelf r.hand_out.attempt ≡ true) running
        → find (is_of a) running ≢ None
        → out_or (find (λ r. r.is_out) running) (shelved_first c.shelf) ≢ None
    by [] all some = absurd (some refl)
    by (r ∷ running) all some =
        one r running r.is_out refl
        (All-head (λ q. q.is_out ≡ false → is_shelved c.shelf q.hand_out.attempt ≡ true) r running
        all)

-- what is held back runs
held_runs :
    (c : CoreData) (s p : ℕ) → IsSoundJob c → IsSoundSave c → HoldsBack c.dag s p
    → (a : AttemptId) × (running_of c a ≢ None)
held_runs c s p sound save h = by h.held
  where
    exec_in : Option RunningCopy → Option ℕ
    exec_in o = option_map (λ c. c.exec) o

    flag : (set : TaskSetData) (o : Option TaskSetData) → o ≡ Some set
        → AreHeldBy (held_in (slice_get c.dag.states s)) o
        → All (λ t. t.denied ≡ at_or (held_in (slice_get c.dag.states s)) t.partition false)
        set.tasks
    flag set o e held =
        subst (AreHeldBy (held_in (slice_get c.dag.states s))) e held

    -- a live grant has denied an attempt of what is held back
    denied : h.task.denied ≡ true → is_denied_in c s h.task.partition ≡ true
    denied e =
        sym (save.mirrors s h.task.partition)
        ∙ sym (found_is
        (λ t. t.denied ≡ at_or (held_in (slice_get c.dag.states s)) t.partition false)
        (is_task_of p) h.set.tasks h.task
        (flag h.set (newest_at c.dag s) h.newest (sound.dag.held s)) h.is_task)
        ∙ e

    holder : (q : ℕ) (k : Committer) → committer_at c.committers q ≡ k → denies k ≡ true
        → (a : AttemptId) × (running_of c a ≢ None)
    holder q committers.Nobody e d = absurd (true≢false (sym d))
    holder q (committers.Winner w) e d = absurd (true≢false (sym d))
    holder q (committers.Holder a d) e is = (a, (rw e at (save.holders q)).runs)

    by : (is_idle h.task.copies ≡ false) ⊎ (h.task.denied ≡ true)
        → (a : AttemptId) × (running_of c a ≢ None)
    by (inl e) =
        let runs = copy_runs h.task.copies e in
        let a = attempt s (newest_number c.dag s) p runs.0.nth in
        let runner : runner_of c.dag a ≡ Some runs.0.exec =
        ap (λ o. runner_in o a) (set_of_newest c.dag a refl ∙ h.newest)
        ∙ ap (λ o. runner_among o runs.0.nth) h.is_task
        ∙ ap (λ o. exec_in o) runs.1 in
        (a, sound.known a runs.0.exec runner)
    by (inr e) =
        holder h.task.partition (committer_at c.committers h.task.partition) refl
        (both_right (s == result_stage c.dag) _ (denied e))

pub waits_by : NothingIsStuck → WaitsHaveCause
waits_by stuck c exec sound runs none =
    let goes = sound.job.goes_on runs in
    let held =
    stuck c.dag (result_stage c.dag) exec c.now sound.job.dag goes.settled goes.result none in
    let a = held_runs c held.0 held.1 sound.job (sound.save runs) held.2 in
    out_there c a.0 (sound.shelf runs).out a.1
