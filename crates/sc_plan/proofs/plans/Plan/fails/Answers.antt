use Rattle.std.proofs.Common.{◌∙◌, ap, subst}
use Rattle.std.specs.Prelude.{filter, is_some, ◌==◌}
use Rattle.sc_plan.specs.Attempts.{is_failed}
use Rattle.sc_plan.specs.Lookups.{first_value, table_of}
use Rattle.sc_plan.specs.PlanLines.{IsSoundPlan}
use Rattle.sc_plan.specs.declared.lookups.Sought.TheVariants as sought
use Rattle.sc_plan.proofs.PlaceLemmas.{failed_in_table}
use Rattle.sc_plan.proofs.plans.Plan.fails.Goals as goal

pub returns : goal.returns
returns c =
    let p = c.of.result in
    let es = c.self.inside.fails in
    let sound = subst IsSoundPlan c.self.view_is c.self.invariant.0 in
    let is = c.self.invariant.1.fails_are ∙ ap (table_of sought.Fail) c.self.view_is in
    c.is_some.ensures ∙ ap is_some c.at.ensures
    ∙ ap (λ k. is_some (first_value (filter (λ e. e.key == k) es))) c.key_of_place.ensures.key
    ∙ failed_in_table p c.args.self.now c.key_of_place.ensures.parts sound.small es is
    ∙ ap (is_failed c.args.self.now) c.of.ensures
