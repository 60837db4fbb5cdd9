use Rattle.std.proofs.Common.{◌∙◌, arith, subst, sym}
use Rattle.sc_desk.specs.Orders.{IsNextOrder}
use Rattle.sc_desk.proofs.OrderLemmas.{comes_next, none_next}
use Rattle.sc_desk.proofs.orders.Orders.first_due.Goals as goal

pub returns-in-Some : goal.returns-in-Some
returns-in-Some c =
    let v = c.self.inside.given in
    subst (λ given. IsNextOrder c.args.plan.now c.args.told given c.in-Some.order) c.self.view_is
    (comes_next c.args.plan.now c.args.told v.items c.loop-exec.exec c.index.result.now
    c.in-Some.order (omega (arith, v.ok.0, c.loop-exec-test.true, c.len-exec-end.ensures))
    c.index.ensures c.loop-exec.invariant (sym c.order_behind.ensures ∙ c.in-Some.is))

pub loop-exec-preserved : goal.loop-exec-preserved
loop-exec-preserved c =
    let v = c.self.inside.given in
    none_next c.args.plan.now c.args.told v.items c.loop-exec.exec c.index.result.now
    (omega (arith, v.ok.0, c.loop-exec-test.true, c.len-exec-end.ensures)) c.index.ensures
    c.loop-exec.invariant (sym c.order_behind.ensures ∙ c.in_default.is)
