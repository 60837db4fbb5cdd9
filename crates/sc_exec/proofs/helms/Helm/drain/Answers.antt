use Rattle.std.proofs.Common.{ap, refl}
use Rattle.crossbeam_queue.specs.Passes.{view}
use Rattle.sc_queue.specs.Rule.{popped_of}
use Rattle.sc_exec.specs.Draining.{kept_of}
use Rattle.sc_exec.proofs.DrainLemmas.{drained_none}
use Rattle.sc_exec.proofs.helms.Helm.drain.Goals as goal

pub returns-then-is_idle-clause-drains : goal.returns-then-is_idle-clause-drains
returns-then-is_idle-clause-drains g c =
    let h = c.args.self.now in
    let none = c.is_idle.ensures.held c.if-is_idle.true in
    drained_none g.W.Naming.work (kept_of h.desk.desk h.held (view h.pass))
    (kept_of h.desk.desk h.held (view c.is_idle.new.pass)) refl
    (ap popped_of c.is_idle.ensures.same) none none
