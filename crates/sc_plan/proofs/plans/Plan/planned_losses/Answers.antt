use Rattle.std.proofs.Common.{◌∙◌, ◌+◌, ap, ap₂, arith, subst}
use Rattle.sc_plan.proofs.CountLemmas.{few_losses, losses_in_tables}
use Rattle.sc_plan.specs.Lookups.{table_of}
use Rattle.sc_plan.specs.PlanLines.{IsSoundPlan}
use Rattle.sc_plan.specs.declared.lookups.Sought.TheVariants as sought
use Rattle.sc_plan.proofs.plans.Plan.planned_losses.Goals as goal

pub returns-clause-count : goal.returns-clause-count
returns-clause-count c =
    let wipes = c.self.invariant.1.wipes_are ∙ ap (table_of sought.Wipe) c.self.view_is in
    let losses = c.self.invariant.1.losses_are ∙ ap (table_of sought.Loss) c.self.view_is in
    ap₂ (λ a b. a + b) c.len.ensures.count c.len-2.ensures.count
    ∙ losses_in_tables c.args.self.now c.self.inside.wipes c.self.inside.losses wipes losses

pub returns-clause-few : goal.returns-clause-few
returns-clause-few c =
    let sound = subst IsSoundPlan c.self.view_is c.self.invariant.0 in
    let few = few_losses c.args.self.now sound.few in
    omega (arith, returns-clause-count c, few)
