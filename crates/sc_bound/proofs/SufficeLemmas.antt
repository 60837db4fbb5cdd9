-- What limits that leave room for a plan never do.
use Rattle.std.proofs.Common.{◌≡◌, ◌+◌, ◌≤◌, Bool, List, Option, ap, subst, ◌∙◌, arith, rules}
use Rattle.std.specs.List.{sum_by}
use Rattle.sc_ids.specs.Graphs.{StageData}
use Rattle.sc_ids.specs.declared.limits.Limits.{Limits}
use Rattle.sc_plan.specs.declared.lines.PlanLine.{PlanLine}
use Rattle.sc_core.specs.CoreData.{CoreData, is_running_job}
use Rattle.sc_core.specs.Journals.{Replays}
use Rattle.sc_core.specs.Openings.{IsOpening}
use Rattle.sc_core.specs.declared.entries.Entry.{Entry}
use Rattle.sc_core.proofs.LawLemmas.{replays_keep_sound}
use Rattle.sc_history.proofs.BudgetLemmas.{limits_stay, opening_limits}
use Rattle.sc_history.proofs.LossLemmas.{no_executors_are_shown}
use Rattle.sc_bound.specs.Bounds.{hand_out_bound}
use Rattle.sc_bound.specs.Given.{HaveFewSets}
use Rattle.sc_bound.specs.Suffice.{BudgetsSuffice, ExecutorsSuffice, StageAttemptsSuffice}
use Rattle.sc_bound.proofs.AbortLemmas.{closes_along, each_planned, often_late}
use Rattle.sc_bound.proofs.EventLemmas.{epochs_are_planned}
use Rattle.sc_bound.proofs.GivenLemmas.{handed_below, only}
use Rattle.sc_bound.proofs.SpentLemmas.{IsSpentAt, offer_some, spent_along}

-- the limits of a job are those of its run
limits_are : (graph : List StageData) (limits : Limits) (saves : Bool) (plan : List PlanLine)
    (last : Option CoreData) (opening end : CoreData) (entries : List Entry)
    → IsOpening graph limits saves plan last opening → Replays opening entries end
    → end.dag.limits ≡ limits
limits_are graph limits saves plan last opening end entries o replays =
    limits_stay opening end entries replays
    ∙ opening_limits graph limits saves plan last opening o

pub stage_attempts_suffice : StageAttemptsSuffice
stage_attempts_suffice graph limits saves plan last opening end entries stage o sound replays seen
    below e =
    let ends = replays_keep_sound opening end entries sound replays in
    let closed = closes_along opening end entries
    (λ s j. absurd (let job = o.job in search (rules, job, j))) replays stage e in
    let late = often_late end stage ends closed in
    let most = epochs_are_planned end ends seen in
    let same = ap (λ (l : Limits). l.stage_attempts)
    (limits_are graph limits saves plan last opening end entries o replays) in
    absurd (omega (arith, late, most, same, below))

pub executors_suffice : ExecutorsSuffice
executors_suffice graph limits saves plan last opening end entries exec o sound replays lt none e =
    each_planned end exec (replays_keep_sound opening end entries sound replays)
    (no_executors_are_shown graph limits saves plan last opening end entries o sound replays e) lt
    none

-- where its budget would abort a job there is a task more to hand out, and room for it
pub budgets_suffice : BudgetsSuffice
budgets_suffice graph limits saves plan last opening end entries are o sound replays few enough e =
    absurd (omega (arith, below, some, most, limit, same, enough))
  where
    spent : IsSpentAt opening end
    spent = spent_along opening end entries (ap is_running_job o.job) replays e

    still_few : HaveFewSets spent.before.plan spent.before.dag
    still_few = subst (λ (x : CoreData). HaveFewSets x.plan x.dag) spent.spends.is few

    below : spent.before.handed + sum_by (λ (stage : StageData). stage.tasks) graph
        ≤ hand_out_bound graph spent.before.plan limits
    below =
        handed_below graph limits saves plan last opening spent.before spent.entries are o sound
        spent.replays still_few spent.runs

    some : 1 ≤ sum_by (λ (stage : StageData). stage.tasks) graph
    some =
        offer_some graph spent.before.dag spent.spends.exec spent.before.now spent.spends.attempt
        (replays_keep_sound opening spent.before spent.entries sound spent.replays).job.dag
        (only graph limits saves plan last opening spent.before spent.entries are o sound
        spent.replays still_few) spent.spends.offer

    most : spent.before.dag.limits.hand_outs ≤ spent.before.handed
    most = spent.spends.most

    limit : spent.before.dag.limits.hand_outs ≡ limits.hand_outs
    limit =
        ap (λ (l : Limits). l.hand_outs)
        (limits_are graph limits saves plan last opening spent.before spent.entries o spent.replays)

    same : hand_out_bound graph end.plan limits ≡ hand_out_bound graph spent.before.plan limits
    same = ap (λ (x : CoreData). hand_out_bound graph x.plan limits) spent.spends.is
