use Rattle.std.proofs.Common.{◌∙◌, ap}
use Rattle.std.specs.Prelude.{filter, ◌==◌}
use Rattle.sc_plan.specs.Lookups.{first_value, table_of}
use Rattle.sc_plan.specs.declared.lookups.Sought.TheVariants as sought
use Rattle.sc_plan.proofs.PlaceLemmas.{loss_in_table}
use Rattle.sc_plan.proofs.plans.Plan.told_lost.Goals as goal

pub returns : goal.returns
returns c =
    let es = c.self.inside.losses in
    let is = c.self.invariant.1.losses_are ∙ ap (table_of sought.Loss) c.self.view_is in
    c.at.ensures
    ∙ ap (λ k. first_value (filter (λ e. e.key == k) es)) c.from.ensures
    ∙ loss_in_table c.args.exec c.args.self.now es is
