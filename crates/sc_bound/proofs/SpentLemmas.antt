-- A job is aborted by its budget where an executor would get one task more.
use Rattle.std.proofs.Common.{◌≡◌, ◌⊎◌, inl, inr, ℕ, ◌<◌, ◌≤◌, All, Bool, true, false, Contains, List, [], ◌∷◌, slice_get, refl, ap, sym, subst, ◌∙◌, arith, rules}
use Rattle.std.specs.List.{sum_by}
use Rattle.std.proofs.lemmas.List.Sums.{get_or-le-sum_by}
use Rattle.sc_ids.specs.Graphs.{StageData}
use Rattle.sc_ids.specs.declared.attempts.AttemptId.{AttemptId}
use Rattle.sc_base.specs.Lists.{at_or}
use Rattle.sc_taskset.specs.Lookups.{is_task_of}
use Rattle.sc_taskset.proofs.FindLemmas.{found_is}
use Rattle.sc_dag.specs.DagData.{DagData, no_stage, stage_at}
use Rattle.sc_dag.specs.Offers.{IsOffer}
use Rattle.sc_dag.specs.Sound.{IsSoundDag}
use Rattle.sc_dag.proofs.Stuck.{newest_holds}
use Rattle.sc_core.specs.CoreData.{CoreData, ended, job_runs}
use Rattle.sc_core.specs.Journals.{Replays}
use Rattle.sc_core.specs.Steps.{Steps}
use Rattle.sc_core.specs.declared.answers.Abort.TheVariants as aborts
use Rattle.sc_core.specs.declared.answers.Answer.{Answer}
use Rattle.sc_core.specs.declared.answers.JobState.TheVariants as jobs
use Rattle.sc_core.specs.declared.entries.Entry.{Entry}
use Rattle.sc_core.specs.declared.events.Event.{Event}
use Rattle.sc_core.specs.declared.events.Event.TheVariants.{Post, Release, Side, Take, TellLost}
use Rattle.sc_core.proofs.OfferLemmas.{offered}
use Rattle.sc_core.proofs.TakeCases.{TakesSo, takes_so}
use Rattle.sc_history.proofs.Closing.{ended_stays}
use Rattle.sc_history.proofs.Events.{Comes, losses_come, posts_come, releases_come, sides_come}
use Rattle.sc_history.proofs.JobLemmas.{EndsBy, tells_ends}

-- ---- the step that aborts a job

-- there is a task for an executor, and as many were handed out as may be
pub record Spends (c after : CoreData) : Type 0 where
  pub exec : ℕ
  pub attempt : AttemptId
  pub offer : IsOffer c.dag exec c.now attempt
  pub most : c.dag.limits.hand_outs ≤ c.handed
  pub is : after ≡ ended c (jobs.Aborted aborts.Budget)

-- a job that runs isn't aborted
runs_on : (c after : CoreData) → job_runs c ≡ true → after.job ≡ c.job
    → after.job ≡ jobs.Aborted aborts.Budget → Spends c after
runs_on c after runs same e = absurd (search (rules, runs, same, e))

comes_spends : (c after : CoreData) (event : Event) (answer : Answer) → job_runs c ≡ true
    → Comes c after event answer → after.job ≡ jobs.Aborted aborts.Budget → Spends c after
comes_spends c after event answer runs (inl q) e = runs_on c after runs q.job e
comes_spends c after event answer runs (inr h) e =
    by (tells_ends h.mid after h.one h.outcome answer h.tells)
  where
    by : EndsBy h.mid h.one.hand_out.attempt answer after → Spends c after
    by (inl same) = runs_on c after runs (same ∙ h.job) e
    by (inr (inl done)) = absurd (search (rules, done, e))
    by (inr (inr (inl limit))) = absurd (let j = limit.job in search (rules, j, e))
    by (inr (inr (inr limit))) = absurd (let j = limit.job in search (rules, j, e))

step_spends : (c after : CoreData) (event : Event) (answer : Answer) → job_runs c ≡ true
    → Steps c event answer after → after.job ≡ jobs.Aborted aborts.Budget → Spends c after
step_spends c after (Take exec) answer runs step e = by (takes_so c after exec answer step)
  where
    by : TakesSo c after exec answer → Spends c after
    by (inl t) = runs_on c after runs (ap (λ (x : CoreData). x.job) t.is) e
    by (inr (inl b)) =
        record { exec = exec; attempt = b.attempt; offer = b.offer; most = b.most; is = b.is }
    by (inr (inr same)) = runs_on c after runs (ap (λ (x : CoreData). x.job) same.is) e
step_spends c after (Post a outcome) answer runs step e =
    comes_spends c after (Post a outcome) answer runs (posts_come c after a outcome answer step) e
step_spends c after (Release key) answer runs step e =
    comes_spends c after (Release key) answer runs (releases_come c after key answer step) e
step_spends c after (Side event) answer runs step e =
    comes_spends c after (Side event) answer runs (sides_come c after event answer step) e
step_spends c after (TellLost exec) answer runs step e =
    by (losses_come c after exec answer step).job
  where
    by : (after.job ≡ c.job) ⊎ (after.job ≡ jobs.Aborted aborts.NoExecutor) → Spends c after
    by (inl same) = runs_on c after runs same e
    by (inr none) = absurd (search (rules, none, e))

-- ---- journals

-- once a job has ended nothing changes
ended_along : (c end : CoreData) (entries : List Entry) → job_runs c ≡ false
    → Replays c entries end → end ≡ c
ended_along c end [] over is = is
ended_along c end (entry ∷ entries) over (mid, step, rest) =
    let same = ended_stays c mid entry.event entry.answer over step in
    ended_along mid end entries (ap (λ (x : CoreData). job_runs x) same ∙ over) rest ∙ same

-- by some entries a job that runs comes to where its budget aborts it
pub record IsSpentAt (opening end : CoreData) : Type 0 where
  pub before : CoreData
  pub entries : List Entry
  pub replays : Replays opening entries before
  pub runs : job_runs before ≡ true
  pub spends : Spends before end

pub spent_along : (c end : CoreData) (entries : List Entry) → job_runs c ≡ true
    → Replays c entries end → end.job ≡ jobs.Aborted aborts.Budget → IsSpentAt c end
spent_along c end [] runs is e =
    absurd (let same = ap (λ (x : CoreData). x.job) is in search (rules, runs, same, e))
spent_along c end (entry ∷ entries) runs (mid, step, rest) e =
    by (job_runs mid) refl (λ on. spent_along mid end entries on rest e)
  where
    by : (b : Bool) → job_runs mid ≡ b → (job_runs mid ≡ true → IsSpentAt mid end)
        → IsSpentAt c end
    by true on more =
        let later = more on in
        record {
          before = later.before;
          entries = entry ∷ later.entries;
          replays = (mid, step, later.replays);
          runs = later.runs;
          spends = later.spends;
        }
    by false over more =
        let same = ended_along mid end entries over rest in
        record {
          before = c;
          entries = [];
          replays = refl;
          runs = runs;
          spends = step_spends c end entry.event entry.answer runs
              (subst (λ (x : CoreData). Steps c entry.event entry.answer x) (sym same) step) e;
        }

-- ---- offers

-- a stage of which a task is offered has some
stage_some : (d : DagData) (exec now : ℕ) (a : AttemptId) → IsSoundDag d → IsOffer d exec now a
    → 1 ≤ (stage_at d a.stage).tasks
stage_some d exec now a sound offer =
    let o = offered d exec now a sound offer in
    let within = found_is (λ t. t.partition < (stage_at d a.stage).tasks) (is_task_of a.partition)
    o.set.tasks o.task
    (newest_holds (λ set. All (λ t. t.partition < (stage_at d a.stage).tasks) set.tasks)
    (slice_get d.states a.stage) o.set (λ i x l. (sound.attempts a.stage i x l).set.within)
    o.newest) o.is_task in
    omega (arith, within)

-- so its job has one
pub offer_some : (graph : List StageData) (d : DagData) (exec now : ℕ) (a : AttemptId)
    → IsSoundDag d
    → ((s : ℕ) → (at_or d.stages s no_stage ≡ no_stage)
    ⊎ (Contains graph (at_or d.stages s no_stage) × ((at_or d.stages s no_stage).id ≡ s)))
    → IsOffer d exec now a → 1 ≤ sum_by (λ (stage : StageData). stage.tasks) graph
offer_some graph d exec now a sound only offer = by (only a.stage)
  where
    some : 1 ≤ (stage_at d a.stage).tasks
    some = stage_some d exec now a sound offer

    by : (at_or d.stages a.stage no_stage ≡ no_stage)
        ⊎ (Contains graph (at_or d.stages a.stage no_stage)
        × ((at_or d.stages a.stage no_stage).id ≡ a.stage))
        → 1 ≤ sum_by (λ (stage : StageData). stage.tasks) graph
    by (inl none) =
        let zero = ap (λ (stage : StageData). stage.tasks) none in
        let least = some in
        absurd (omega (arith, zero, least))
    by (inr ((i, l, is), id)) =
        let le = get_or-le-sum_by (λ (stage : StageData). stage.tasks) graph i
        (at_or d.stages a.stage no_stage) l in
        let same = ap (λ (stage : StageData). stage.tasks) is in
        let least = some in
        omega (arith, le, same, least)
