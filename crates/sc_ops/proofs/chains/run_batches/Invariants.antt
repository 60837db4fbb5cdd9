use Rattle.std.proofs.Common.{◌≡◌, drop}
use Rattle.sc_lineage.specs.Streams.{with_rows}
use Rattle.sc_ops.specs.Chains.{chain_stream}
use Rattle.sc_ops.proofs.BatchLemmas.{all_rows}
use Rattle.sc_ops.proofs.ChainLemmas.{chain_gives}
use Rattle.sc_ops.proofs.chains.run_batches.Given as goal

abbrev pub invariant-loop-i : goal.invariant-loop-i
invariant-loop-i l =
    chain_stream l.steps l.input
    ≡ with_rows l.out (chain_gives l.steps (all_rows (drop l.i l.batches.items)) l.input.raise)
