use Rattle.sc_desk.specs.DeskData.{desk_data}
use Rattle.sc_desk.proofs.EndLemmas.{ordered_keeps}
use Rattle.sc_desk.proofs.desks.Desk.due_order.Goals as goal

pub invariant_of-self : goal.invariant_of-self
invariant_of-self g c =
    ordered_keeps g.W.Naming.work
    (desk_data c.self.inside.job c.self.inside.carried c.self.inside.journal.0
    c.self.inside.results.items c.self.inside.shelf.items c.self.inside.ordered) c.next.new.self
    c.next.result c.self.invariant c.next.ensures.counted
