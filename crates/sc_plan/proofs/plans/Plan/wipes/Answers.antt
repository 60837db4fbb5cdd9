use Rattle.std.proofs.Common.{◌≤◌, ◌∙◌, ap, subst, sym}
use Rattle.sc_plan.specs.Lookups.{table_of}
use Rattle.sc_plan.specs.Orders.{wipes_of}
use Rattle.sc_plan.specs.PlanLines.{IsSoundPlan}
use Rattle.sc_plan.specs.Limits.{lines_limit}
use Rattle.sc_plan.specs.declared.lookups.Sought.TheVariants as sought
use Rattle.sc_plan.proofs.CountLemmas.{few_wipes}
use Rattle.sc_plan.proofs.DueLemmas.{all_wipes, count_is}
use Rattle.sc_plan.proofs.plans.Plan.wipes.Goals as goal

pub returns-clause-count : goal.returns-clause-count
returns-clause-count c =
    let sound = subst IsSoundPlan c.self.view_is c.self.invariant.0 in
    let is = c.self.invariant.1.wipes_are ∙ ap (table_of sought.Wipe) c.self.view_is in
    count_is c.args.exec c.all_at.result.now (wipes_of c.args.self.now c.args.exec)
    (c.all_at.ensures ∙ all_wipes c.args.exec c.args.self.now c.self.inside.wipes sound.small is)

pub returns-clause-few : goal.returns-clause-few
returns-clause-few c =
    let sound = subst IsSoundPlan c.self.view_is c.self.invariant.0 in
    let few = few_wipes c.args.self.now c.args.exec sound.few in
    subst (λ n. n ≤ lines_limit) (sym (returns-clause-count c)) few
