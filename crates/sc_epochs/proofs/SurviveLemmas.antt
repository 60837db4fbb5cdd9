-- What a job in a world hands out at most, and what aborts none.
use Rattle.std.proofs.Common.{◌≡◌, ◌≢◌, ℕ, ◌<◌, ◌≤◌, List, None, ap, sym, subst, ◌∙◌, arith}
use Rattle.sc_ids.specs.LimitRanges.{AreLimits}
use Rattle.sc_lineage.specs.ScriptData.{WorkData}
use Rattle.sc_plan.specs.Orders.{loss_of, planned_losses}
use Rattle.sc_plan.specs.declared.lines.PlanLine.{PlanLine}
use Rattle.sc_core.specs.Openings.{IsOpening}
use Rattle.sc_core.specs.declared.answers.Abort.TheVariants.{Budget, NoExecutor, StageLimit}
use Rattle.sc_core.specs.declared.answers.JobState.TheVariants as jobs
use Rattle.sc_jobs.specs.JobData.{JobData, saves}
use Rattle.sc_desk.specs.DeskData.{core_of}
use Rattle.sc_world.specs.Laws.{StepsKeepSound, WorldsBegin}
use Rattle.sc_world.specs.Runs.{IsWorld}
use Rattle.sc_world.specs.WorldData.{WorldData, core_in}
use Rattle.sc_bound.specs.Bounds.{hand_out_bound}
use Rattle.sc_bound.specs.Given.{HaveFewSets}
use Rattle.sc_bound.proofs.GivenLemmas.{bounds_are_kept}
use Rattle.sc_bound.proofs.SufficeLemmas.{budgets_suffice, executors_suffice, stage_attempts_suffice}
use Rattle.sc_epochs.specs.Surviving.{BoundsNeedNoMore, FewLossesAbortNone, HandOutsAreBounded, SparedExecutorsGoOn}
use Rattle.sc_epochs.specs.Worlds.{ComesAbout}
use Rattle.sc_epochs.proofs.DeskLaws.{seen_in_time}
use Rattle.sc_epochs.proofs.EntryLemmas.{EntersAll, comes_entered}
use Rattle.sc_epochs.proofs.ReachLemmas.{find_stale_by}
use Rattle.sc_epochs.proofs.StageLemmas.{stages_planned_by}

-- ---- the worlds of a job

module _ (begins : WorldsBegin) (keeps : StepsKeepSound) (work : WorkData) (w : WorldData)
    (comes : ComesAbout work w) where
  is_world : IsWorld work w
  is_world = (find_stale_by begins keeps work w comes).0

  entered : EntersAll comes.desk w.desk
  entered = comes_entered work w comes

  opening : IsOpening comes.desk.job.graph work.limits (saves work comes.desk.job.goal) work.plan
      comes.begun.last (core_of comes.desk)
  opening = comes.begun.opening

  few : HaveFewSets (core_in w).plan (core_in w).dag
  few i d lt =
      let le = stages_planned_by begins keeps work w comes i d lt in
      let plan = ap planned_losses is_world.desk.plan in
      omega (arith, le, plan)

  within : AreLimits work.limits
      → (core_in w).handed ≤ hand_out_bound w.desk.job.graph work.plan work.limits
  within are =
      subst (λ (plan : List PlanLine).
      (core_in w).handed ≤ hand_out_bound w.desk.job.graph plan work.limits) is_world.desk.plan
      (subst (λ (j : JobData).
      (core_in w).handed ≤ hand_out_bound j.graph (core_in w).plan work.limits)
      (sym entered.job)
      (bounds_are_kept comes.desk.job.graph work.limits (saves work comes.desk.job.goal) work.plan
      comes.begun.last (core_of comes.desk) (core_in w) entered.entries are opening
      comes.begun.core entered.replays few))

  spared : AreLimits work.limits
      → hand_out_bound w.desk.job.graph work.plan work.limits ≤ work.limits.hand_outs
      → (core_in w).job ≢ jobs.Aborted Budget
  spared are enough =
      budgets_suffice comes.desk.job.graph work.limits (saves work comes.desk.job.goal) work.plan
      comes.begun.last (core_of comes.desk) (core_in w) entered.entries are opening
      comes.begun.core entered.replays few
      (subst (λ (j : JobData).
      hand_out_bound j.graph (core_in w).plan work.limits ≤ work.limits.hand_outs) entered.job
      (subst (λ (plan : List PlanLine).
      hand_out_bound w.desk.job.graph plan work.limits ≤ work.limits.hand_outs)
      (sym is_world.desk.plan) enough))

  stays : (stage : ℕ) → planned_losses work.plan < work.limits.stage_attempts
      → (core_in w).job ≢ jobs.Aborted (StageLimit stage)
  stays stage below =
      stage_attempts_suffice comes.desk.job.graph work.limits (saves work comes.desk.job.goal)
      work.plan comes.begun.last (core_of comes.desk) (core_in w) entered.entries stage opening
      comes.begun.core entered.replays (seen_in_time work w.desk is_world.desk)
      (subst (λ (plan : List PlanLine). planned_losses plan < work.limits.stage_attempts)
      (sym is_world.desk.plan) below)

  staffed : (exec : ℕ) → exec < work.limits.executors → loss_of work.plan exec ≡ None
      → (core_in w).job ≢ jobs.Aborted NoExecutor
  staffed exec lt none =
      executors_suffice comes.desk.job.graph work.limits (saves work comes.desk.job.goal) work.plan
      comes.begun.last (core_of comes.desk) (core_in w) entered.entries exec opening
      comes.begun.core entered.replays
      (let execs = is_world.desk.execs in omega (arith, lt, execs))
      (ap (λ (plan : List PlanLine). loss_of plan exec) is_world.desk.plan ∙ none)

-- ---- the laws

pub hand_outs_are_bounded : WorldsBegin → StepsKeepSound → HandOutsAreBounded
hand_outs_are_bounded begins keeps work w are comes = within begins keeps work w comes are

pub bounds_need_no_more : WorldsBegin → StepsKeepSound → BoundsNeedNoMore
bounds_need_no_more begins keeps work w are comes = spared begins keeps work w comes are

pub few_losses_abort_none : WorldsBegin → StepsKeepSound → FewLossesAbortNone
few_losses_abort_none begins keeps work w stage comes = stays begins keeps work w comes stage

pub spared_executors_go_on : WorldsBegin → StepsKeepSound → SparedExecutorsGoOn
spared_executors_go_on begins keeps work w exec comes = staffed begins keeps work w comes exec
