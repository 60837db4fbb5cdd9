use Rattle.std.proofs.Common.{◌≡◌, fold, take}
use Rattle.sc_batch.specs.IntFolds.{put_together}
use Rattle.sc_ops.proofs.int_folds.fold_ints.Given as goal

abbrev pub invariant-loop-item : goal.invariant-loop-item
invariant-loop-item l = l.n ≡ fold (put_together l.kind) l.fn.first (take l.item-index l.items)
