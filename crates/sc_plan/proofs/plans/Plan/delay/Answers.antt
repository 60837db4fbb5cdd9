use Rattle.std.proofs.Common.{◌∙◌, ap, subst}
use Rattle.std.specs.Prelude.{filter, ◌==◌}
use Rattle.sc_plan.specs.Attempts.{delay_of}
use Rattle.sc_plan.specs.Lookups.{first_value, table_of}
use Rattle.sc_plan.specs.PlanLines.{IsSoundPlan}
use Rattle.sc_plan.specs.declared.lookups.Sought.TheVariants as sought
use Rattle.sc_plan.proofs.PlaceLemmas.{delay_in_table}
use Rattle.sc_plan.proofs.plans.Plan.delay.Goals as goal

pub returns : goal.returns
returns c =
    let es = c.self.inside.lates in
    let sound = subst IsSoundPlan c.self.view_is c.self.invariant.0 in
    let is = c.self.invariant.1.lates_are ∙ ap (table_of sought.Late) c.self.view_is in
    c.at.ensures
    ∙ ap (λ k. first_value (filter (λ e. e.key == k) es)) c.key_of_place.ensures.key
    ∙ delay_in_table c.of.result c.args.self.now c.key_of_place.ensures.parts sound.small es is
    ∙ ap (delay_of c.args.self.now) c.of.ensures
