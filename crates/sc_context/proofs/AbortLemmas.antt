-- What the history of an aborted job shows.
use Rattle.std.proofs.Common.{◌≡◌, ◌≢◌, ◌∙◌, ◌⊎◌, inl, inr, ap, ℕ, ◌<◌, ◌≤◌, ◌&&◌, nat_lt, Bool, true, false, List, [], ◌∷◌, ◌++◌, Option, Some, None, IfSome, length, refl, sym, subst, arith, true≢false}
use Rattle.std.specs.List.{All, Contains}
use Rattle.std.specs.Option.{option_to_list}
use Rattle.std.proofs.lemmas.Bool.{and_parts, false≢true}
use Rattle.std.proofs.lemmas.Bool.Decides.{nat_tests}
use Rattle.std.proofs.lemmas.List.Elements.{All-append, All-cons, All-contains, All-head, All-nil, All-tail}
use Rattle.sc_ids.specs.Failures.{is_counted}
use Rattle.sc_ids.specs.declared.attempts.AttemptId.{AttemptId}
use Rattle.sc_ids.specs.declared.failures.FailureCause.{FailureCause}
use Rattle.sc_ids.specs.declared.failures.FailureCause.TheVariants as causes
use Rattle.sc_lineage.specs.ScriptData.{WorkData, IsSoundWork}
use Rattle.sc_plan.specs.Attempts.{is_failed}
use Rattle.sc_plan.specs.Orders.{due_count, loss_of, planned_losses, wipes_of}
use Rattle.sc_plan.specs.PlanLines.{place_of}
use Rattle.sc_stagecut.specs.Carrying.{IsCarriedFor}
use Rattle.sc_tracker.specs.Trust.{are_lost}
use Rattle.sc_tracker.specs.TrackerData.{trust_of}
use Rattle.sc_core.specs.CoreData.{CoreData, shelved_of}
use Rattle.sc_core.specs.Journals.{Replays}
use Rattle.sc_core.specs.Losses.{is_due_after}
use Rattle.sc_core.specs.Sound.{IsSoundCore}
use Rattle.sc_core.specs.declared.answers.Abort.{Abort}
use Rattle.sc_core.specs.declared.answers.Abort.TheVariants.{Budget, NoExecutor, StageLimit, TaskLimit}
use Rattle.sc_core.specs.declared.answers.Answer.{Answer}
use Rattle.sc_core.specs.declared.answers.Answer.TheVariants as says
use Rattle.sc_core.specs.declared.answers.JobState.TheVariants as jobs
use Rattle.sc_core.specs.declared.entries.Entry.{Entry}
use Rattle.sc_core.specs.declared.events.Event.{Event}
use Rattle.sc_core.specs.declared.events.Event.TheVariants.{Post, Release, Side, Take, TellLost}
use Rattle.sc_core.specs.declared.events.Outcome.{Outcome}
use Rattle.sc_core.specs.declared.events.Outcome.TheVariants as outcomes
use Rattle.sc_core.specs.declared.journals.JobHistory.{JobHistory}
use Rattle.sc_core.specs.declared.running.Shelved.{Shelved}
use Rattle.sc_bound.specs.Charged.{AreSeenInTime}
use Rattle.sc_bound.specs.Suffice.{StageAttemptsSuffice}
use Rattle.sc_causes.specs.Losses.{PlannedLossesAlone}
use Rattle.sc_causes.specs.Raises.{RaisesLeaveNoValue, Serves}
use Rattle.sc_history.specs.Evidence.{ShowsTaskLimit, counts, is_failure_of, is_of_task}
use Rattle.sc_history.specs.Tellings.{Telling, is_heard, telling, tellings, tellings_in, told_late}
use Rattle.sc_history.proofs.BudgetLemmas.{budgets_are_shown}
use Rattle.sc_history.proofs.LossLemmas.{no_executors_are_shown}
use Rattle.sc_history.proofs.StageLimitLemmas.{stage_limits_are_shown}
use Rattle.sc_history.proofs.ToldLosses.{losses_are_shown}
use Rattle.sc_history.proofs.TaskLimitLemmas.{task_limits_are_shown}
use Rattle.sc_jobs.specs.JobData.{IsGoal, JobData, job_data, saves}
use Rattle.sc_jobs.specs.declared.goals.Goal.{Goal}
use Rattle.sc_jobs.specs.declared.goals.Goal.TheVariants as goals
use Rattle.sc_desk.specs.Begins.{FitsRun}
use Rattle.sc_desk.specs.Files.{faults_of}
use Rattle.sc_desk.specs.Sound.{AreEvident, EndedFor, IsEvident}
use Rattle.sc_context.specs.Aborts.{IsAborted, IsWithinPlan, RaisesOrFaults, ShowsAbort, planned_failures}
use Rattle.sc_context.specs.Histories.{HasCome, IsHistory}
use Rattle.sc_context.specs.Progress.{IsNext, Progress, first_progress}
use Rattle.sc_context.proofs.FailingLemmas.{IsPlanned, few_planned}
use Rattle.sc_context.proofs.HeardLemmas.{HearsOf, OutcomeIsTold, faults_are_told}

-- ---- evidence of what is told

-- what is heard is not ignored
not_ignored : (answer : Answer) → is_heard answer ≡ true → answer ≢ says.Ignored
not_ignored answer h e = absurd (true≢false (sym h ∙ ap is_heard e))

-- a report has its evidence, once so many were told
abbrev HasEvidence : WorkData → JobData → Telling → Type 0
HasEvidence work job t = (told : ℕ) × EndedFor work job told t.attempt t.outcome

abbrev IsHeardFor : WorkData → JobData → Telling → Type 0
IsHeardFor work job t = is_heard t.answer ≡ true → HasEvidence work job t

one : {A : Type 0} (P : A → Type 0) (x : A) → P x → All P (x ∷ [])
one P x h = All-cons P x [] h (All-nil P)

told_event : (work : WorkData) (job : JobData) (c : CoreData) (event : Event) (answer : Answer)
    → IsEvident work job c event answer
    → All (IsHeardFor work job) (tellings_in c event answer)
told_event work job c (Take exec) answer h = All-nil (IsHeardFor work job)
told_event work job c (Post a outcome) answer h =
    one (IsHeardFor work job) (telling a outcome answer) (λ is. (c.told, h (not_ignored answer is)))
told_event work job c (Release key) answer h = by (shelved_of c key) h
  where
    by : (o : Option Shelved)
        → IfSome o (λ s. EndedFor work job c.told s.attempt s.outcome)
        → All (IsHeardFor work job) (told_late o answer)
    by None k = All-nil (IsHeardFor work job)
    by (Some s) k =
        one (IsHeardFor work job) (telling s.attempt s.outcome answer) (λ is. (c.told, k))
told_event work job c (Side event) answer h = All-nil (IsHeardFor work job)
told_event work job c (TellLost exec) answer h = All-nil (IsHeardFor work job)

-- each report that a journal tells and that is heard has its evidence
told_evident : (work : WorkData) (job : JobData) (c : CoreData) (entries : List Entry)
    (end : CoreData) → (is : Replays c entries end) → AreEvident work job c entries end is
    → All (IsHeardFor work job) (tellings c entries end is)
told_evident work job c [] end is h = All-nil (IsHeardFor work job)
told_evident work job c (entry ∷ entries) end (mid, step, rest) h =
    All-append (IsHeardFor work job) (tellings_in c entry.event entry.answer)
    (tellings mid entries end rest)
    (told_event work job c entry.event entry.answer h.0)
    (told_evident work job mid entries end rest h.1)

-- ---- aborts

-- the laws of what aborts jobs
pub record AreCauses : Type 0 where
  pub raises : RaisesLeaveNoValue
  pub losses : PlannedLossesAlone
  pub stages : StageAttemptsSuffice

-- a job that saves is that of the action
pub saves_itself : (work : WorkData) (p : Progress) (goal : Goal) → IsNext work p goal
    → saves work goal ≡ true → saves work (goals.Action p.actions) ≡ true
saves_itself work p (goals.Action number) next e =
    ap (λ n. saves work (goals.Action n)) (sym next.0) ∙ e
saves_itself work p (goals.Bounds sort) next e = absurd (false≢true e)

module _ (known_causes : AreCauses) (work : WorkData) (sound : IsSoundWork work) (p : Progress)
    (goal : Goal) (tried : Option JobHistory) (h : JobHistory)
    (is : IsHistory work p goal tried h) (core : IsSoundCore h.end)
    (fits : FitsRun work h.end) where
  -- every executor was told lost
  all_lost : h.end.job ≡ jobs.Aborted NoExecutor → are_lost h.end.dag.tracker.trust ≡ true
  all_lost e =
      no_executors_are_shown is.graph work.limits (saves work goal) work.plan is.from h.opening
      h.end h.entries.items is.opening is.began is.replays e

  -- the history shows the abort
  pub shows_abort : (abort : Abort) → h.end.job ≡ jobs.Aborted abort
      → ShowsAbort work h is.replays abort
  shows_abort (TaskLimit stage number partition) e =
      task_limits_are_shown is.graph work.limits (saves work goal) work.plan is.from h.opening h.end
      h.entries.items stage number partition is.opening is.began is.replays e
  shows_abort (StageLimit stage) e =
      stage_limits_are_shown is.graph work.limits (saves work goal) work.plan is.from h.opening
      h.end h.entries.items stage is.opening is.began is.replays e
  shows_abort NoExecutor e = λ exec within.
      let lost = known_causes.losses work.plan h.end exec core fits.plan (all_lost e)
      (subst (λ n. exec < n) (sym fits.execs) within) in
      (lost, losses_are_shown h.opening h.end h.entries.items exec is.began is.replays lost.lost)
  shows_abort Budget e =
      budgets_are_shown is.graph work.limits (saves work goal) work.plan is.from h.opening h.end
      h.entries.items is.opening is.replays e

  -- no generation was seen before its wipe was due
  in_time : AreSeenInTime h.end
  in_time =
      subst (λ plan. (exec : ℕ) → (trust_of h.end.dag.tracker exec).seen
      ≤ due_count (wipes_of plan exec) h.end.told) (sym fits.plan) fits.seen

  -- so where a stage is given up the plan loses as much as it takes
  stage_within : (stage : ℕ) → h.end.job ≡ jobs.Aborted (StageLimit stage)
      → work.limits.stage_attempts ≤ planned_losses work.plan
  stage_within stage e =
      by (nat_lt (planned_losses work.plan) work.limits.stage_attempts) refl
    where
      by : (b : Bool) → nat_lt (planned_losses work.plan) work.limits.stage_attempts ≡ b
          → work.limits.stage_attempts ≤ planned_losses work.plan
      by false test = grind (arith, nat_tests, test)
      by true test =
          let few : planned_losses work.plan < work.limits.stage_attempts =
          grind (arith, nat_tests, test) in
          absurd (known_causes.stages is.graph work.limits (saves work goal) work.plan is.from
          h.opening h.end h.entries.items stage is.opening is.began is.replays in_time
          (subst (λ plan. planned_losses plan < work.limits.stage_attempts) (sym fits.plan) few) e)

  -- and where executors are wanting it loses each
  executors_within : h.end.job ≡ jobs.Aborted NoExecutor → (exec : ℕ)
      → exec < work.limits.executors → loss_of work.plan exec ≢ None
  executors_within e exec within none =
      let lost = (shows_abort NoExecutor e exec within).0 in
      absurd (true≢false (sym lost.due ∙ ap (λ o. is_due_after o h.end.told) none))

  -- of a task that failed too often too
  module _ (carried : IsCarriedFor work.script.nodes p.carried) (known : IsGoal work goal) where
    -- the job is for this action
    serves : (g : Goal) → IsNext work p g → Serves work g p.actions
    serves (goals.Action number) next = next.0
    serves (goals.Bounds sort) next = next.0.reached

    abbrev job : JobData
    job = job_data goal is.graph

    abbrev Blames : Type 0
    Blames = RaisesOrFaults work p.actions h

    -- a failure that counts is one of the plan, a raise, or one of a call on the files
    cause_is : (told : ℕ) (a : AttemptId) (cause : FailureCause) → is_counted cause ≡ true
        → EndedFor work job told a (outcomes.Failed cause)
        → OutcomeIsTold (faults_of h.entries.items) (outcomes.Failed cause)
        → (is_failed work.plan (place_of a) ≡ true) ⊎ Blames
    cause_is told a causes.Planned counted failed there = inl failed
    cause_is told a (causes.Raised raise) counted raised there =
        inr (inl ((known_causes.raises work p.carried goal is.graph a.stage a.partition raise
        sound.script carried known is.cut raised.task raised.own).served p.actions
        (serves goal is.next)))
    cause_is told a (causes.Device fault) counted failed there =
        inr (inr (saves_itself work p goal is.next failed.1, (fault, there, failed.0)))
    cause_is told a (causes.Gone exec wanted found) counted failed there =
        absurd (false≢true counted)
    cause_is told a (causes.Metadata last) counted failed there = absurd (false≢true counted)
    cause_is told a causes.Denied counted failed there = absurd (false≢true counted)

    outcome_is : (told : ℕ) (a : AttemptId) (outcome : Outcome) → counts outcome ≡ true
        → EndedFor work job told a outcome
        → OutcomeIsTold (faults_of h.entries.items) outcome
        → (is_failed work.plan (place_of a) ≡ true) ⊎ Blames
    outcome_is told a (outcomes.Map loc) counted ended there = absurd (false≢true counted)
    outcome_is told a outcomes.Result counted ended there = absurd (false≢true counted)
    outcome_is told a (outcomes.Failed cause) counted ended there =
        cause_is told a cause counted ended there

    abbrev all_told : List Telling
    all_told = tellings h.opening h.entries.items h.end is.replays

    failure_is : (stage number partition : ℕ) (t : Telling) → Contains all_told t
        → is_failure_of stage number partition t ≡ true → IsPlanned work.plan t ⊎ Blames
    failure_is stage number partition t among are =
        let fails = and_parts (is_of_task stage number partition t.attempt)
        (counts t.outcome && is_heard t.answer) are in
        let both = and_parts (counts t.outcome) (is_heard t.answer) fails.1 in
        let evident = All-contains (IsHeardFor work job) all_told t
        (told_evident work job h.opening h.entries.items h.end is.replays is.evidence) among
        both.1 in
        let there = All-contains (HearsOf (faults_of h.entries.items)) all_told t
        (faults_are_told h.opening h.entries.items h.end is.replays is.began is.opening.running)
        among both.1 in
        outcome_is evident.0 t.attempt t.outcome both.0 evident.1 there

    -- so the plan has all of some failures, or one isn't its own
    failures_are : (stage number partition : ℕ) (failures : List Telling)
        → All (Contains all_told) failures
        → All (λ t. is_failure_of stage number partition t ≡ true) failures
        → All (IsPlanned work.plan) failures ⊎ Blames
    failures_are stage number partition [] among are = inl (All-nil (IsPlanned work.plan))
    failures_are stage number partition (t ∷ failures) among are =
        by
        (failure_is stage number partition t (All-head (Contains all_told) t failures among)
        (All-head (λ x. is_failure_of stage number partition x ≡ true) t failures are))
        (failures_are stage number partition failures
        (All-tail (Contains all_told) t failures among)
        (All-tail (λ x. is_failure_of stage number partition x ≡ true) t failures are))
      where
        by : IsPlanned work.plan t ⊎ Blames → All (IsPlanned work.plan) failures ⊎ Blames
            → All (IsPlanned work.plan) (t ∷ failures) ⊎ Blames
        by (inr blames) rest = inr blames
        by (inl one) (inr blames) = inr blames
        by (inl one) (inl rest) = inl (All-cons (IsPlanned work.plan) t failures one rest)

    task_within : (stage number partition : ℕ)
        → ShowsTaskLimit work.limits all_told stage number partition
        → (work.limits.task_failures ≤ planned_failures work.plan stage partition) ⊎ Blames
    task_within stage number partition shows =
        by (failures_are stage number partition shows.failures shows.among shows.are)
      where
        by : All (IsPlanned work.plan) shows.failures ⊎ Blames
            → (work.limits.task_failures ≤ planned_failures work.plan stage partition) ⊎ Blames
        by (inr blames) = inr blames
        by (inl planned) =
            let few = few_planned work.plan stage number partition shows.failures shows.are planned
            shows.apart in
            inl (omega (arith, few, shows.many))

    pub within_plan : (abort : Abort) → h.end.job ≡ jobs.Aborted abort
        → IsWithinPlan work p.actions h abort
    within_plan (TaskLimit stage number partition) e =
        task_within stage number partition (shows_abort (TaskLimit stage number partition) e)
    within_plan (StageLimit stage) e = stage_within stage e
    within_plan NoExecutor e = executors_within e
    within_plan Budget e = tt

  -- the job was aborted
  pub is_aborted : (histories given_up before given : List JobHistory) (abort : Abort)
      → HasCome work (first_progress work) before given p → histories ≡ before ++ h ∷ []
      → given_up ≡ given ++ option_to_list tried → p.actions < length work.script.actions
      → IsCarriedFor work.script.nodes p.carried → IsGoal work goal
      → h.end.job ≡ jobs.Aborted abort → IsAborted work p.actions histories given_up abort
  is_aborted histories given_up before given abort come all all_given known_action carried known
      e =
      record {
        known = known_action;
        progress = p;
        goal = goal;
        history = h;
        gone = record {
          before = before;
          all = all;
          given_before = given;
          tried = tried;
          all_given = all_given;
          come = come;
          is = is;
        };
        at = refl;
        aborted = e;
        shows = shows_abort abort e;
        within = within_plan carried known abort e;
      }
