use Rattle.std.specs.Map.{lookup}
use Rattle.sc_store.specs.BlockData.{same_block}
use Rattle.sc_store.specs.OwnBlocks.{IsOwnBlock}
use Rattle.sc_store.proofs.BlockLemmas.{put_keeps}
use Rattle.sc_store.proofs.store.Store.put.Goals as goal

pub invariant_of-self-2 : goal.invariant_of-self-2
invariant_of-self-2 g c =
    record {
      outputs =
          put_keeps (IsOwnBlock g.W.Naming.work)
          c.into_parts-output.result.0 c.into_parts-output.result.1
          (λ q. lookup (same_block q) _) (λ q. lookup (same_block q) _)
          c.in_ok-insert.ensures.updates.0 c.into_parts-output.ensures.own
          c.self.invariant.outputs;
      cached = c.self.invariant.cached;
    }
