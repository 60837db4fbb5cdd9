use Rattle.std.proofs.Common.{arith}
use Rattle.sc_task.proofs.NextLemmas.{all_read}
use Rattle.sc_task.proofs.assigned.Assigned.ready.Goals as goal

pub new-requires : goal.new-requires
new-requires g c =
    record {
      all = all_read g.W.Naming.work c.self.inside.task c.self.inside.got.items
          c.self.inside.cursor c.args.self c.self.inside.got.len c.self.invariant
          (omega (arith, c.self.inside.got.ok.0)) c.self.view_is c.is_task.ensures
          c.requires.next;
    }
