use denote.Exit.{no}
use denote.Param.Send.{param_send, param_sync, arg_send, arg_sync, shr_sync, shr_slice_sync}
use Rattle.std.proofs.sync.Mutex.TheSendSync as mutex
use Rattle.std.proofs.Common.{subst, sym}
use Rattle.sc_exec.specs.Crews.{IsFreshMember}
use Rattle.sc_exec.proofs.Crossing.{driver_sync, global_sync, member_send, six_sync, stores_sync}
use Rattle.sc_exec.proofs.CrewLemmas.{worked_at}
use Rattle.sc_rows.proofs.apart.employ_apart.Goals as goal

pub for_each_mut-requires-sync-F : goal.for_each_mut-requires-sync-F
for_each_mut-requires-sync-F g c κs within =
    param_sync 2 _ (arg_sync _ no _ (six_sync _ _ _ _ _ _ _
    (shr_sync _ _ _ c.type_bounds.sync-R)
    (shr_sync _ _ _ global_sync)
    (shr_sync _ _ _ (driver_sync _ _ _ g.W.Naming g.J.Opening g.J.Queued g.F.Files
    c.type_bounds.send-W c.type_bounds.send-J c.type_bounds.send-F))
    (shr_slice_sync _ _ _ (stores_sync _ g.W.Naming c.type_bounds.send-W))
    (shr_sync _ _ _ c.type_bounds.sync-G)
    (shr_sync _ _ _ (mutex.the_sync _ c.type_bounds.send-C))))

pub for_each_mut-requires-clause-accepts : goal.for_each_mut-requires-clause-accepts
for_each_mut-requires-clause-accepts g c κs within = λ i p lt at.
    subst (λ m. IsFreshMember g.W.Naming.work.limits.executors m) (sym at)
    (c.requires.fresh i p.now lt)

pub for_each_mut-requires-send-T : goal.for_each_mut-requires-send-T
for_each_mut-requires-send-T g c κs within =
    param_send 1 _ (arg_send _ no _ (member_send _ _ g.J.Queued g.W.Naming
    c.type_bounds.send-W c.type_bounds.send-J))

pub returns : goal.returns
returns g c =
    record {
      worked = record {
        many = c.for_each_mut.auto.s;
        each = λ i d lt. let at = (c.for_each_mut.ensures i d lt).1 in
            worked_at g.W.Naming.work _ _ at.argument.now at.after_call.now at.argument_is
            at.left at.call;
      };
    }
