use Rattle.std.proofs.Common.{All, List, subst, sym}
use Rattle.sc_exec.specs.Workers.{AreInPlace, HasCause}
use Rattle.sc_exec.specs.declared.workers.Worker.{Worker}
use Rattle.sc_rows.proofs.lefts.seen_apart.Goals as goal

pub judge-went-requires-clause-worked : goal.judge-went-requires-clause-worked
judge-went-requires-clause-worked g c =
    subst (λ (ws : List Worker). All (HasCause g.W.Naming.work) ws)
    (sym c.as_slice.ensures.value) c.worked_apart-desk.ensures.worked

pub judge-went-requires-clause-places : goal.judge-went-requires-clause-places
judge-went-requires-clause-places g c =
    subst (λ (ws : List Worker). AreInPlace g.W.Naming.work.limits.executors ws)
    (sym c.as_slice.ensures.value) c.worked_apart-desk.ensures.places
