use Rattle.sc_exec.proofs.TurnLemmas.{ordered_due}
use Rattle.sc_exec.proofs.job_desks.JobDesk.ask_next.Goals as goal

pub returns-in-Some-clause-asked : goal.returns-in-Some-clause-asked
returns-in-Some-clause-asked g c = (
  ordered_due g.W.Naming.work _ _ _ c.in-Some.order c.orders_are_due.ensures
      c.is_sound.ensures.many c.in-Some.is c.due_order.ensures.ordered,
  c.requires.works,
)
