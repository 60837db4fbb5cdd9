-- A job that is aborted for the failures of a partition shows them.
use Rattle.std.proofs.Common.{◌≡◌, ◌≢◌, ◌⊎◌, inl, inr, ℕ, ◌≤◌, true, Bool, List, [], ◌++◌, length, Option, Some, None, refl, ap, sym, subst, ◌∙◌, arith, rules, true≢false, slice_get}
use Rattle.std.specs.List.{AllPairs}
use Rattle.std.proofs.lemmas.List.{length-map}
use Rattle.sc_ids.specs.Graphs.{StageData}
use Rattle.sc_ids.specs.declared.attempts.AttemptId.{AttemptId}
use Rattle.sc_ids.specs.declared.limits.Limits.{Limits}
use Rattle.sc_plan.specs.declared.lines.PlanLine.{PlanLine}
use Rattle.sc_taskset.specs.Lookups.{task_at}
use Rattle.sc_taskset.specs.TaskSetData.{TaskData, TaskSetData}
use Rattle.sc_dag.specs.DagData.{StageState, attempt_in, set_in}
use Rattle.sc_dag.specs.Reports.{set_of}
use Rattle.sc_dag.specs.declared.attempts.StageAttempt.{StageAttempt}
use Rattle.sc_dag.proofs.Tests.{is_in}
use Rattle.sc_core.specs.CoreData.{CoreData, is_running_job, job_runs}
use Rattle.sc_core.specs.Laws.{HasFailedOften}
use Rattle.sc_core.specs.Openings.{IsOpening}
use Rattle.sc_core.specs.Sound.{IsSoundCore}
use Rattle.sc_core.specs.Steps.{Steps}
use Rattle.sc_core.specs.Takes.{Takes}
use Rattle.sc_core.specs.Tells.{limit_of}
use Rattle.sc_core.specs.declared.answers.Abort.TheVariants.{TaskLimit}
use Rattle.sc_core.specs.declared.answers.Abort.TheVariants as aborts
use Rattle.sc_core.specs.declared.answers.Answer.{Answer}
use Rattle.sc_core.specs.declared.answers.JobState.TheVariants as jobs
use Rattle.sc_core.specs.declared.events.Event.{Event}
use Rattle.sc_core.specs.declared.events.Event.TheVariants.{Post, Release, Side, Take, TellLost}
use Rattle.sc_core.proofs.LawLemmas.{steps_keep_sound, task_limits_are_reached}
use Rattle.sc_core.proofs.LookupLemmas.{attempt, set_among}
use Rattle.sc_history.specs.Evidence.{ShowsTaskLimit, TaskLimitsAreShown, is_failure_of, nth_of}
use Rattle.sc_history.specs.Tellings.{Telling, tellings, tellings_in}
use Rattle.sc_history.proofs.BudgetLemmas.{opening_limits, step_limits}
use Rattle.sc_history.proofs.Events.{Comes, IsLoss, losses_come, posts_come, releases_come, sides_come}
use Rattle.sc_history.proofs.Growing.{attempt_among}
use Rattle.sc_history.proofs.JobLemmas.{Aborts, EndsBy, tells_ends}
use Rattle.sc_history.proofs.Journals.{tellings_induct}
use Rattle.sc_history.proofs.Keeping.{NoFailures, SameFailures, failures_among, failures_at, failures_calm, failures_in, failures_of, no_failures}
use Rattle.sc_history.proofs.Picking.{all_picked}
use Rattle.sc_history.proofs.SetLimits.{HaveLimits, limits_begin, limits_kept, limits_of_set}
use Rattle.sc_history.proofs.Starting.{opening_slot}
use Rattle.sc_history.proofs.ToldFailures.{AreTold, event_tells}
use Rattle.sc_core.proofs.TakeCases.{TakesSo, takes_so}

-- what a failed set shows of its failures
reached : (told : List Telling) (end : CoreData) (a : AttemptId) (p : ℕ) (L : Limits)
    → AreTold told end.dag
    → ((set : TaskSetData) → set_of end.dag a ≡ Some set → set.limits ≡ L)
    → HasFailedOften (set_of end.dag a) p
    → ShowsTaskLimit L told a.stage a.stage_attempt p
reached told end a p L are limits often = by (set_of end.dag a) refl often
  where
    Goal : Type 0
    Goal = ShowsTaskLimit L told a.stage a.stage_attempt p

    among : (set : TaskSetData) → set_of end.dag a ≡ Some set
        → failures_at end.dag a.stage a.stage_attempt p ≡ failures_of set p
    among set e = state (slice_get end.dag.states a.stage) e
      where
        attempt : (o : Option StageAttempt) → set_in o ≡ Some set
            → failures_in o p ≡ failures_of set p
        attempt None h = absurd (search (rules, h))
        attempt (Some x) h =
            let same : x.set ≡ set = search (rules, h) in ap (λ s. failures_of s p) same

        state : (o : Option StageState) → set_among o a.stage_attempt ≡ Some set
            → failures_in (attempt_among o a.stage_attempt) p ≡ failures_of set p
        state None h = absurd (search (rules, h))
        state (Some x) h = attempt (attempt_in x a.stage_attempt) h

    task : (set : TaskSetData) → set_of end.dag a ≡ Some set → (o : Option TaskData)
        → task_at p set.tasks ≡ o → HasFailedOften (Some set) p → Goal
    task set e None f h = absurd (rw f at h)
    task set e (Some t) f h =
        let often : (set.limits.task_failures ≤ length t.failures)
        × AllPairs (λ m n. m ≢ n) t.failures = rw f at h in
        let is : failures_at end.dag a.stage a.stage_attempt p ≡ t.failures =
        among set e ∙ ap failures_among f in
        let shown = all_picked (is_failure_of a.stage a.stage_attempt p) nth_of told t.failures
        (λ n has. are a.stage a.stage_attempt p n (ap (λ ns. is_in ns n) is ∙ has)) in
        record {
          failures = shown.picked;
          among = shown.among;
          are = shown.are;
          apart = subst (λ ns. AllPairs (λ m n. m ≢ n) ns) (sym shown.views) often.1;
          many =
              let as_many : length shown.picked ≡ length t.failures =
              sym (length-map shown.picked nth_of) ∙ ap length shown.views in
              let same : set.limits.task_failures ≡ L.task_failures =
              ap (λ (l : Limits). l.task_failures) (limits set e) in
              let enough = often.0 in omega (arith, as_many, same, enough);
        }

    by : (o : Option TaskSetData) → set_of end.dag a ≡ o → HasFailedOften o p → Goal
    by None e h = absurd h
    by (Some set) e h = task set e (task_at p set.tasks) refl h

-- ---- journals

-- a job that was aborted for the failures of a partition has counted them
abbrev pub HasCounted : CoreData → Type 0
HasCounted c = (s k p : ℕ) → c.job ≡ jobs.Aborted (TaskLimit s k p)
    → HasFailedOften (set_of c.dag (attempt s k p 0)) p

not_running : (c : CoreData) (s k p : ℕ) → job_runs c ≡ true
    → c.job ≡ jobs.Aborted (TaskLimit s k p) → ⊥
not_running c s k p runs e = search (rules, runs, e)

takes_count : (c after : CoreData) (exec : ℕ) (answer : Answer) → Takes c exec answer after
    → HasCounted c → HasCounted after
takes_count c after exec answer h counted = by (takes_so c after exec answer h)
  where
    by : TakesSo c after exec answer → HasCounted after
    by (inl t) =
        λ s k p e.
        absurd (not_running c s k p t.asking.runs (ap (λ (x : CoreData). x.job) (sym t.is) ∙ e))
    by (inr (inl b)) =
        λ s k p e. absurd (let j = ap (λ (x : CoreData). x.job) b.is in search (rules, j, e))
    by (inr (inr same)) = subst (λ x. HasCounted x) (sym same.is) counted

comes_count : (c after : CoreData) (event : Event) (answer : Answer) → IsSoundCore c
    → Steps c event answer after → Comes c after event answer → HasCounted c → HasCounted after
comes_count c after event answer sound step (inl q) counted =
    λ s k p e. (let was = sym q.job ∙ e in
    subst (λ d. HasFailedOften (set_of d (attempt s k p 0)) p)
    (sym (q.ended (ap is_running_job was))) (counted s k p was))
comes_count c after event answer sound step (inr h) counted =
    by (tells_ends h.mid after h.one h.outcome answer h.tells)
  where
    a : AttemptId
    a = h.one.hand_out.attempt

    aborted : Aborts (limit_of a) answer after → HasCounted after
    aborted is s k p e =
        let j = is.job in
        let at : s ≡ a.stage = search (rules, j, e) in
        let number : k ≡ a.stage_attempt = search (rules, j, e) in
        let partition : p ≡ a.partition = search (rules, j, e) in
        let law = task_limits_are_reached c after event a.stage a.stage_attempt a.partition sound
        (subst (λ x. Steps c event x after) is.answer_is step) in
        rw (at, number, partition) law

    by : EndsBy h.mid a answer after → HasCounted after
    by (inl is) = λ s k p e. absurd (not_running c s k p h.runs (sym (is ∙ h.job) ∙ e))
    by (inr (inl done)) = λ s k p e. absurd (search (rules, done, e))
    by (inr (inr (inl limit))) = aborted limit
    by (inr (inr (inr limit))) =
        λ s k p e. absurd (let j = limit.job in search (rules, j, e))

losses_count : (c after : CoreData) (exec : ℕ) (answer : Answer) → IsLoss c after exec answer
    → HasCounted after
losses_count c after exec answer is = by is.job
  where
    by : (after.job ≡ c.job) ⊎ (after.job ≡ jobs.Aborted aborts.NoExecutor) → HasCounted after
    by (inl same) = λ s k p e. absurd (not_running c s k p is.runs (sym same ∙ e))
    by (inr none) = λ s k p e. absurd (search (rules, none, e))

steps_counted : (c after : CoreData) (event : Event) (answer : Answer) → IsSoundCore c
    → Steps c event answer after → HasCounted c → HasCounted after
steps_counted c after (Take exec) answer sound step counted =
    takes_count c after exec answer step counted
steps_counted c after (Post a outcome) answer sound step counted =
    comes_count c after (Post a outcome) answer sound step
    (posts_come c after a outcome answer step) counted
steps_counted c after (Release key) answer sound step counted =
    comes_count c after (Release key) answer sound step (releases_come c after key answer step)
    counted
steps_counted c after (Side event) answer sound step counted =
    comes_count c after (Side event) answer sound step (sides_come c after event answer step)
    counted
steps_counted c after (TellLost exec) answer sound step counted =
    losses_count c after exec answer (losses_come c after exec answer step)

-- What holds along a journal.
record IsTelling (L : Limits) (told : List Telling) (c : CoreData) : Type 0 where
  sound : IsSoundCore c
  limits : c.dag.limits ≡ L
  sets : HaveLimits L c.dag
  are : AreTold told c.dag
  counted : HasCounted c

telling_kept : (L : Limits) (told : List Telling) (event : Event) (answer : Answer)
    (c after : CoreData) → IsTelling L told c → Steps c event answer after
    → IsTelling L (told ++ tellings_in c event answer) after
telling_kept L told event answer c after h step =
    record {
      sound = steps_keep_sound c after event answer h.sound step;
      limits = step_limits c after event answer step ∙ h.limits;
      sets = limits_kept L c after event answer h.limits step h.sets;
      are = event_tells told event answer c after h.sound h.are step;
      counted = steps_counted c after event answer h.sound step h.counted;
    }

-- nothing is told where a job begins, and nothing counts
begins_quiet :
    (graph : List StageData) (limits : Limits) (saved : Bool) (plan : List PlanLine)
    (last : Option CoreData) (c : CoreData) → IsOpening graph limits saved plan last c
    → AreTold [] c.dag
begins_quiet graph limits saved plan last c o s k p n h =
    absurd (true≢false (sym h ∙ ap (λ ns. is_in ns n) none))
  where
    none : failures_at c.dag s k p ≡ []
    none = no_failures (attempt_among (slice_get c.dag.states s) k) p
        (opening_slot SameFailures NoFailures graph limits saved plan last c
        (failures_calm limits) o s k)

pub task_limits_are_shown : TaskLimitsAreShown
task_limits_are_shown graph limits saved plan last opening end entries s k p o sound replays e =
    reached (tellings opening entries end replays) end (attempt s k p 0) p limits h.are
    (λ set is. limits_of_set limits end.dag (attempt s k p 0) set h.sets is)
    (h.counted s k p e)
  where
    begins : IsTelling limits [] opening
    begins =
        record {
          sound = sound;
          limits = opening_limits graph limits saved plan last opening o;
          sets = limits_begin graph limits saved plan last opening o;
          are = begins_quiet graph limits saved plan last opening o;
          counted = λ r j q h. absurd (let job = o.job in search (rules, job, h));
        }

    h : IsTelling limits (tellings opening entries end replays) end
    h =
        tellings_induct (λ told c. IsTelling limits told c) (telling_kept limits) [] opening begins
        entries end replays
