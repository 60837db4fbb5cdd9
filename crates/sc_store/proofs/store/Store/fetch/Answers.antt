use Rattle.std.proofs.Common.{sym, subst, IfSome}
use Rattle.sc_store.specs.OwnBlocks.{IsOwnBlock}
use Rattle.sc_store.proofs.store.Store.fetch.Goals as goal

pub new-requires : goal.new-requires
new-requires g c =
    let own = IsOwnBlock g.W.Naming.work c.args.id in
    record {
      own = subst own (sym c.in_ok-share-in-Some.ensures)
          (subst (λ o. IfSome o own) (sym c.in-Some.ensures.value)
          (c.self.invariant.outputs c.args.id));
    }
