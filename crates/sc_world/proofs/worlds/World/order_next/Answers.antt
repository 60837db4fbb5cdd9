use Rattle.std.proofs.Common.{inr}
use Rattle.sc_world.proofs.CodeTurns.{order_due, order_there, orders_turn}
use Rattle.sc_world.proofs.worlds.World.order_next.Goals as goal

pub carry_out-requires-clause-due : goal.carry_out-requires-clause-due
carry_out-requires-clause-due g c =
    order_due g.W.Naming.work c.args.self.now c.next_order.new.self c.in-Some.order
    c.in-Some.ensures

pub carry_out-requires-clause-there : goal.carry_out-requires-clause-there
carry_out-requires-clause-there g c =
    order_there g.W.Naming.work c.args.self.now c.next_order.new.self c.in-Some.order
    c.is_world.ensures c.in-Some.ensures

pub returns-in-Some-clause-drives : goal.returns-in-Some-clause-drives
returns-in-Some-clause-drives g c =
    orders_turn g.W.Naming.work c.args.self.now c.next_order.new.self c.carry_out.new.self
    c.in-Some.order c.requires.rests c.in-Some.ensures c.has_sound_desk.ensures
    c.carry_out.ensures.on c.carry_out.ensures.desk c.carry_out.ensures.held

pub returns-in-Some-clause-due : goal.returns-in-Some-clause-due
returns-in-Some-clause-due g c =
    inr (inr (
      c.requires.no_loss,
      c.requires.due,
      record {
        order = c.in-Some.order;
        handed = c.next_order.new.self;
        hands = c.in-Some.ensures;
        obeys = c.carry_out.ensures.obeys;
      },
    ))
