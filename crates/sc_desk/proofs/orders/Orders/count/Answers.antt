use Rattle.std.proofs.Common.{◌∙◌, ap, sym, arith}
use Rattle.sc_ids.proofs.ChangeLemmas.{set_changed, change_at_past}
use Rattle.sc_ids.specs.Changes.{change_at}
use Rattle.sc_desk.specs.Orders.{counted}
use Rattle.sc_desk.proofs.orders.Orders.count.Goals as goal

pub returns-then-exec-len : goal.returns-then-exec-len
returns-then-exec-len c =
    let v = c.self.inside.given in
    set_changed v.items c.args.order.exec c.index.result.now c.counted.result
    (counted c.args.order.kind) (omega (arith, v.ok.0, c.if-exec-len.true, c.len.ensures))
    c.index.ensures c.counted.ensures
    ∙ ap (λ xs. change_at xs c.args.order.exec (counted c.args.order.kind)) c.self.view_is

pub returns-else-exec-len : goal.returns-else-exec-len
returns-else-exec-len c =
    let v = c.self.inside.given in
    sym (ap (λ xs. change_at xs c.args.order.exec (counted c.args.order.kind)) (sym c.self.view_is)
    ∙ change_at_past v.items c.args.order.exec (counted c.args.order.kind)
    (omega (arith, v.ok.0, c.if-exec-len.false, c.len.ensures)) ∙ c.self.view_is)
