use Rattle.std.proofs.Common.{◌≤◌, ◌∙◌, ap, subst, sym}
use Rattle.sc_plan.specs.Lookups.{table_of}
use Rattle.sc_plan.specs.Orders.{evicts_of}
use Rattle.sc_plan.specs.PlanLines.{IsSoundPlan}
use Rattle.sc_plan.specs.Limits.{lines_limit}
use Rattle.sc_plan.specs.declared.lookups.Sought.TheVariants as sought
use Rattle.sc_plan.proofs.CountLemmas.{few_due, few_evicts}
use Rattle.sc_plan.proofs.DueLemmas.{due_evicts_in}
use Rattle.sc_plan.proofs.plans.Plan.due_evicts.Goals as goal

pub returns-clause-count : goal.returns-clause-count
returns-clause-count c =
    let sound = subst IsSoundPlan c.self.view_is c.self.invariant.0 in
    let is = c.self.invariant.1.evicts_are ∙ ap (table_of sought.Evict) c.self.view_is in
    c.due_at.ensures
    ∙ due_evicts_in c.args.exec c.args.told c.args.self.now c.self.inside.evicts sound.small is

pub returns-clause-few : goal.returns-clause-few
returns-clause-few c =
    let sound = subst IsSoundPlan c.self.view_is c.self.invariant.0 in
    let few = few_due (evicts_of c.args.self.now c.args.exec) c.args.told
    (few_evicts c.args.self.now c.args.exec sound.few) in
    subst (λ n. n ≤ lines_limit) (sym (returns-clause-count c)) few
