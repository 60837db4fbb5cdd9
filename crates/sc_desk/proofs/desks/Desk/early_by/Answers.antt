use Rattle.std.proofs.Common.{sym, subst, IfSome}
use Rattle.sc_desk.specs.DeskData.{core_of}
use Rattle.sc_desk.specs.Dues.{IsEarly, IsInTime}
use Rattle.sc_desk.proofs.desks.Desk.early_by.Goals as goal

pub returns-in-Gone-clause-early : goal.returns-in-Gone-clause-early
returns-in-Gone-clause-early g c =
    subst (λ f. IfSome c.unwiped.result
    (λ due. IsEarly g.W.Naming.work (core_of c.args.self.now).told f due)) (sym c.in-Gone.is)
    c.unwiped.ensures.early

pub returns-in-Gone-clause-in_time : goal.returns-in-Gone-clause-in_time
returns-in-Gone-clause-in_time g c none =
    subst (λ f. IsInTime g.W.Naming.work (core_of c.args.self.now).told f) (sym c.in-Gone.is)
    (c.unwiped.ensures.in_time none)
