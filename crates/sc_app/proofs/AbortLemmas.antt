-- What an abort shows of a run without a fault plan.
use Rattle.std.proofs.Common.{◌≡◌, ◌∙◌, ◌⊎◌, inl, inr, ℕ, zero, suc, ◌<◌, ◌≤◌, true, List, [], ◌∷◌, ◌++◌, length, subst, sym, ap, refl, arith}
use Rattle.std.specs.Prelude.{Contains}
use Rattle.std.proofs.lemmas.List.Elements.{Contains-push}
use Rattle.sc_base.specs.Lists.{at_or}
use Rattle.sc_base.specs.Outside.{FilesState}
use Rattle.sc_base.specs.declared.refusals.OrMemory.{OrMemory}
use Rattle.sc_base.specs.declared.refusals.OrMemory.TheVariants.{Fault}
use Rattle.sc_core.specs.declared.answers.Abort.{Abort}
use Rattle.sc_core.specs.declared.answers.Abort.TheVariants as aborts
use Rattle.sc_core.specs.declared.journals.JobHistory.{JobHistory}
use Rattle.sc_lineage.specs.Actions.{action_outcome, never}
use Rattle.sc_lineage.specs.ScriptData.{ActionData, WorkData, collect_action}
use Rattle.sc_jobs.specs.JobData.{is_saving}
use Rattle.sc_output.specs.Calls.{IsNotDone}
use Rattle.sc_plan.specs.Orders.{loss_of, planned_losses}
use Rattle.sc_plan.specs.Plans.{PlansHaveOneReading}
use Rattle.sc_script.specs.Parsing.{HaveOneReading}
use Rattle.sc_context.specs.Aborts.{IsWithinPlan, ShowsFault, planned_failures}
use Rattle.sc_context.specs.Files.{HasCounted}
use Rattle.sc_context.specs.Progress.{first_progress}
use Rattle.sc_context.specs.declared.stops.JobFault.{JobFault}
use Rattle.sc_context.specs.declared.stops.JobFault.TheVariants as faults
use Rattle.sc_context.proofs.CountingLemmas.{counts_behind, left_counts}
use Rattle.sc_context.proofs.RoseLemmas.{has_not_done}
use Rattle.sc_print.specs.Printing.{EndsOver}
use Rattle.sc_app.specs.declared.ran.Status.{Status}
use Rattle.sc_app.specs.Ends.{EndsForAbort}
use Rattle.sc_app.specs.Promises.{Ends}
use Rattle.sc_app.specs.Exactly.{HasNoNever, SavesSome, TellsNoFailure}
use Rattle.sc_app.specs.Runs.{RunData, HasReadWork}
use Rattle.sc_app.proofs.ReadingLemmas.{one_work}

-- the action of a number that is known is among the actions
pub action_there : (actions : List ActionData) (k : ℕ) (other : ActionData) → k < length actions
    → Contains actions (at_or actions k other)
action_there [] k other known = absurd (omega (arith, known))
action_there (action ∷ actions) zero other known = (0, omega arith, refl)
action_there (action ∷ actions) (suc k) other known =
    let there = action_there actions k other (omega (arith, known)) in
    (suc there.0, omega (arith, there.1), there.2)

-- an action never has an outcome, or saves, and a job shows a call on its files that failed
abbrev BlamesAction : WorkData → ActionData → JobHistory → Type 0
BlamesAction work action h =
    (action_outcome work action ≡ never) ⊎ ((is_saving action ≡ true) × ShowsFault h)

-- what the files have counted over a run that came to no end
counted_over : (work : WorkData) (before after : FilesState) (history given_up : List JobHistory)
    (k : ℕ) (why : OrMemory JobFault) → EndsOver work before after history given_up k why
    → HasCounted history given_up why before after
counted_over work before after history given_up k why over =
    subst (λ gs. HasCounted history gs why before after) (sym over.all_given)
    (subst (λ hs. HasCounted hs (over.given_front ++ over.given) why before after) (sym over.all)
    (counts_behind over.front over.given_front over.more over.given why before over.mid after
    (left_counts work (first_progress work) over.done.progress over.front over.given_front before
    over.mid over.done.come over.done.left)
    over.counted))

-- where the last job tells of a call that failed, the files have counted one over the run
pub faults_counted : (run : RunData) (history given_up : List JobHistory) (abort : Abort)
    (ends : EndsForAbort run history given_up abort) → ShowsFault ends.aborted.history
    → IsNotDone run.files_before run.files_after
faults_counted run history given_up abort ends (fault, told, rose) =
    has_not_done history given_up why run.files_before run.files_after ends.aborted.history fault
    (counted_over ends.work run.files_before run.files_after history given_up ends.k why
    ends.over) last told
  where
    why : OrMemory JobFault
    why = Fault (faults.Aborted abort)

    last : Contains history ends.aborted.history
    last =
        subst (λ hs. Contains hs ends.aborted.history) (sym ends.aborted.gone.all)
        (Contains-push ends.aborted.gone.before ends.aborted.history)

module _ (law : HaveOneReading) (plans : PlansHaveOneReading) (run : RunData)
    (history given_up : List JobHistory) (work : WorkData)
    (read : HasReadWork run.words run.reads work) (none_planned : work.plan ≡ []) where
  -- the work that was run is this one
  this_work : (other : WorkData) → HasReadWork run.words run.reads other → other ≡ work
  this_work other was = one_work law plans run.words run.reads other work was read

  -- and so it has no plan
  no_line : (other : WorkData) → HasReadWork run.words run.reads other → other.plan ≡ []
  no_line other was = ap (λ (w : WorkData). w.plan) (this_work other was) ∙ none_planned

  no_loss : EndsForAbort run history given_up aborts.NoExecutor → ⊥
  no_loss ends =
      let some : 0 < ends.work.limits.executors =
      (let above = ends.read.sound.limits.executors.above in omega (arith, above)) in
      ends.aborted.within 0 some (ap (λ plan. loss_of plan 0) (no_line ends.work ends.read))

  none_given_up : (stage : ℕ) → EndsForAbort run history given_up (aborts.StageLimit stage) → ⊥
  none_given_up stage ends =
      let few : planned_losses ends.work.plan ≡ 0 =
      ap planned_losses (no_line ends.work ends.read) in
      let above = ends.read.sound.limits.stage_attempts.above in
      let most : ends.work.limits.stage_attempts ≤ planned_losses ends.work.plan =
      ends.aborted.within in
      absurd (omega (arith, few, above, most))

  by_faulting : HasNoNever work → (stage attempt partition : ℕ)
      → EndsForAbort run history given_up (aborts.TaskLimit stage attempt partition)
      → SavesSome work × IsNotDone run.files_before run.files_after
  by_faulting outcomes stage attempt partition ends = by ends.aborted.within
    where
      Goal : Type 0
      Goal = SavesSome work × IsNotDone run.files_before run.files_after

      same : ends.work ≡ work
      same = this_work ends.work ends.read

      action : ActionData
      action = at_or work.script.actions ends.k (collect_action 0)

      there : Contains work.script.actions action
      there =
          action_there work.script.actions ends.k (collect_action 0)
          (subst (λ (w : WorkData). ends.k < length w.script.actions) same ends.aborted.known)

      blamed : BlamesAction work action ends.aborted.history → Goal
      blamed (inl raises) = absurd (outcomes action there raises)
      blamed (inr (saves, shows)) = (
        (action, there, saves),
        faults_counted run history given_up (aborts.TaskLimit stage attempt partition) ends shows,
      )

      by : IsWithinPlan ends.work ends.k ends.aborted.history
          (aborts.TaskLimit stage attempt partition) → Goal
      by (inl most) =
          let few : planned_failures ends.work.plan stage partition ≡ 0 =
          ap (λ plan. planned_failures plan stage partition) (no_line ends.work ends.read) in
          let above = ends.read.sound.limits.task_failures.above in
          absurd (omega (arith, few, above, most))
      by (inr blames) =
          blamed (subst (λ (w : WorkData).
          BlamesAction w (at_or w.script.actions ends.k (collect_action 0)) ends.aborted.history)
          same blames)

pub tells_no_failure : HaveOneReading → PlansHaveOneReading → (run : RunData)
    (history given_up : List JobHistory) (status : Status) → Ends run history given_up status
    → TellsNoFailure run status
tells_no_failure law plans run history given_up status ends = λ work read none_planned. (
  (λ e. no_loss law plans run history given_up work read none_planned
      (subst (λ (s : Status). Ends run history given_up s) e ends)),
  (λ stage e. none_given_up law plans run history given_up work read none_planned stage
      (subst (λ (s : Status). Ends run history given_up s) e ends)),
  (λ outcomes stage attempt partition e. by_faulting law plans run history given_up work read
      none_planned outcomes stage attempt partition
      (subst (λ (s : Status). Ends run history given_up s) e ends)),
)
