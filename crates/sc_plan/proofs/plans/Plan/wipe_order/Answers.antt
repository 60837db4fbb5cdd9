use Rattle.std.proofs.Common.{◌<◌, ◌∙◌, ◌-◌, Some, ap, arith, get_or, length, subst, sym}
use Rattle.sc_plan.specs.Lookups.{table_of}
use Rattle.sc_plan.specs.Orders.{wipes_of}
use Rattle.sc_plan.specs.PlanLines.{IsSoundPlan}
use Rattle.sc_plan.specs.declared.lookups.Entry.{Entry}
use Rattle.sc_plan.specs.declared.lookups.Sought.TheVariants as sought
use Rattle.sc_plan.proofs.DueLemmas.{all_wipes, count_is, order_is, read_at}
use Rattle.sc_plan.proofs.plans.Plan.wipe_order.Goals as goal

pub bounds-all_at-number : goal.bounds-all_at-number
bounds-all_at-number c =
    let sound = subst IsSoundPlan c.self.view_is c.self.invariant.0 in
    let is = c.self.invariant.1.wipes_are ∙ ap (table_of sought.Wipe) c.self.view_is in
    let due = c.all_at.ensures
    ∙ all_wipes c.args.exec c.args.self.now c.self.inside.wipes sound.small is in
    let dues = wipes_of c.args.self.now c.args.exec in
    let count = count_is c.args.exec c.all_at.result.now dues due in
    omega (arith, count, c.requires.from_one, c.requires.known_number)

pub returns : goal.returns
returns c =
    let sound = subst IsSoundPlan c.self.view_is c.self.invariant.0 in
    let is = c.self.invariant.1.wipes_are ∙ ap (table_of sought.Wipe) c.self.view_is in
    let es = c.all_at.result.now in
    let due = c.all_at.ensures
    ∙ all_wipes c.args.exec c.args.self.now c.self.inside.wipes sound.small is in
    let count = count_is c.args.exec es (wipes_of c.args.self.now c.args.exec) due in
    let within : c.args.number - 1 < length es =
    omega (arith, count, c.requires.from_one, c.requires.known_number) in
    let d : Entry = record { key = 0; value = 0 } in
    let at = read_at es (c.args.number - 1) d within in
    order_is c.args.exec c.args.number es (wipes_of c.args.self.now c.args.exec)
    (get_or es (c.args.number - 1) d) c.requires.from_one due at
    ∙ ap (λ k. Some (record { exec = c.args.exec; number = c.args.number; kind = k }))
    (sym c.kind_of.ensures)
