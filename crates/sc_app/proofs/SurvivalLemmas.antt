-- A good run survives a plan that leaves room for it.
use Rattle.std.proofs.Common.{◌≡◌, ◌∙◌, ◌⊎◌, inl, inr, ℕ, ◌≤◌, List, None, Some, refl, sym, arith}
use Rattle.std.proofs.lemmas.List.Elements.{All-contains}
use Rattle.std.proofs.lemmas.Option.{get_or_from_slice_get, slice_get_within}
use Rattle.sc_base.specs.Lists.{at_or}
use Rattle.sc_core.specs.declared.answers.Abort.TheVariants as aborts
use Rattle.sc_core.specs.declared.journals.JobHistory.{JobHistory}
use Rattle.sc_lineage.specs.Actions.{HasText}
use Rattle.sc_lineage.specs.Saves.{SavesAreLawful}
use Rattle.sc_lineage.specs.ScriptData.{ActionData, WorkData, collect_action}
use Rattle.sc_lineage.specs.declared.nodes.DriverFault.{DriverFault}
use Rattle.sc_plan.specs.Orders.{planned_losses}
use Rattle.sc_output.specs.Calls.{IsNotDone}
use Rattle.sc_output.specs.NameLaws.{NamesLieWithin}
use Rattle.sc_context.specs.Aborts.{IsWithinPlan}
use Rattle.sc_app.specs.declared.ran.Status.{Status}
use Rattle.sc_app.specs.declared.ran.Status.TheVariants as statuses
use Rattle.sc_app.specs.Ends.{EndsForAbort, EndsForDriver}
use Rattle.sc_app.specs.Good.{IsGood}
use Rattle.sc_app.specs.Promises.{Ends, GoodRunsSurvive}
use Rattle.sc_app.specs.Runs.{RunData, HasReadWork}
use Rattle.sc_app.specs.Survival.{IsSurvivable, Survives}
use Rattle.sc_app.proofs.AbortLemmas.{action_there, faults_counted}
use Rattle.sc_app.proofs.FileLemmas.{HasPlace}
use Rattle.sc_app.proofs.GoodLemmas.{ends_well, has_place}
use Rattle.sc_app.proofs.WithoutTextLemmas.{faults_without, never_without}

module _ (run : RunData) (history given_up : List JobHistory) (good : IsGood run)
    (all : (work : WorkData) → HasReadWork run.words run.reads work → IsSurvivable work) where
  -- no call on the files failed
  none_undone : (work : WorkData) → HasReadWork run.words run.reads work
      → IsNotDone run.files_before run.files_after → ⊥
  none_undone work read (inl rose) = good.no_file_fault rose
  none_undone work read (inr (hidden, clashed)) = by (has_place run work read good)
    where
      by : HasPlace work run.files_before run.files_after → ⊥
      by (inl no_clash) = no_clash clashed
      by (inr room) = let e : None ≡ Some room.0 = sym hidden ∙ room.1 in cc

  no_task : (stage number partition : ℕ)
      → EndsForAbort run history given_up (aborts.TaskLimit stage number partition) → ⊥
  no_task stage number partition ends = by ends.aborted.within
    where
      can : IsSurvivable ends.work
      can = all ends.work ends.read

      action : ActionData
      action = at_or ends.work.script.actions ends.k (collect_action 0)

      has : HasText ends.work action
      has =
          All-contains (HasText ends.work) ends.work.script.actions action can.texts
          (action_there ends.work.script.actions ends.k (collect_action 0) ends.aborted.known)

      by : IsWithinPlan ends.work ends.k ends.aborted.history
          (aborts.TaskLimit stage number partition) → ⊥
      by (inl most) =
          let few = can.failures stage partition in absurd (omega (arith, few, most))
      by (inr (inl raises)) = never_without ends.work action raises has
      by (inr (inr (saves, shows))) =
          none_undone ends.work ends.read
          (faults_counted run history given_up (aborts.TaskLimit stage number partition) ends
          shows)

  no_stage : (stage : ℕ) → EndsForAbort run history given_up (aborts.StageLimit stage) → ⊥
  no_stage stage ends =
      let few = (all ends.work ends.read).losses in
      let most : ends.work.limits.stage_attempts ≤ planned_losses ends.work.plan =
      ends.aborted.within in
      absurd (omega (arith, few, most))

  no_want : EndsForAbort run history given_up aborts.NoExecutor → ⊥
  no_want ends =
      let can = all ends.work ends.read in
      ends.aborted.within can.spared can.among can.not_lost

  no_fault : (k : ℕ) (fault : DriverFault) → EndsForDriver run history given_up k fault → ⊥
  no_fault k fault ends =
      let actions = ends.work.script.actions in
      let action = ends.stops.action in
      faults_without ends.work action fault ends.stops.faults_so
      (All-contains (HasText ends.work) actions action (all ends.work ends.read).texts (
        k,
        slice_get_within actions k action ends.stops.is_action,
        get_or_from_slice_get actions k action action ends.stops.is_action,
      ))

module _ (laws : SavesAreLawful) (names : NamesLieWithin) (run : RunData)
    (history given_up : List JobHistory) where
  survives : (status : Status) → Ends run history given_up status → IsGood run
      → ((work : WorkData) → HasReadWork run.words run.reads work → IsSurvivable work)
      → Survives status
  survives statuses.Done ends good all = inl refl
  survives statuses.OutOfMemory ends good all = inr (inl refl)
  survives (statuses.Aborted aborts.Budget) ends good all = inr (inr refl)
  survives (statuses.Aborted (aborts.TaskLimit stage number partition)) ends good all =
      absurd (no_task run history given_up good all stage number partition ends)
  survives (statuses.Aborted (aborts.StageLimit stage)) ends good all =
      absurd (no_stage run history given_up good all stage ends)
  survives (statuses.Aborted aborts.NoExecutor) ends good all =
      absurd (no_want run history given_up good all ends)
  survives (statuses.DriverFault k fault) ends good all =
      absurd (no_fault run history given_up good all k fault ends)
  survives statuses.Usage ends good all =
      absurd (ends_well laws names run history given_up statuses.Usage ends good)
  survives (statuses.Script fault) ends good all =
      absurd (ends_well laws names run history given_up (statuses.Script fault) ends good)
  survives (statuses.Plan fault) ends good all =
      absurd (ends_well laws names run history given_up (statuses.Plan fault) ends good)
  survives (statuses.Input name missing) ends good all =
      absurd (ends_well laws names run history given_up (statuses.Input name missing) ends good)
  survives (statuses.OutputExists dir) ends good all =
      absurd (ends_well laws names run history given_up (statuses.OutputExists dir) ends good)
  survives (statuses.Device path) ends good all =
      absurd (ends_well laws names run history given_up (statuses.Device path) ends good)
  survives statuses.WriteFault ends good all =
      absurd (ends_well laws names run history given_up statuses.WriteFault ends good)
  survives (statuses.NotText name) ends good all =
      absurd (ends_well laws names run history given_up (statuses.NotText name) ends good)

-- so it ends by nothing that its plan does
pub good_runs_survive : SavesAreLawful → NamesLieWithin → (run : RunData)
    (history given_up : List JobHistory) (status : Status)
    → Ends run history given_up status → GoodRunsSurvive run status
good_runs_survive laws names run history given_up status ends = λ good all.
    survives laws names run history given_up status ends good all
