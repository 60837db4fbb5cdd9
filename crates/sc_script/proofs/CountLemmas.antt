-- A node that is there has as many partitions as a definition may have.
use Rattle.std.proofs.Common.{ℕ, ◌<◌, length, sym, subst, arith}
use Rattle.sc_lineage.specs.ScriptData.{ScriptData, IsSoundScript, IsCount, count_step, declared_count, declared_counts, partition_limit}
use Rattle.sc_lineage.proofs.ByNodesLemmas.{fold_laws}
use Rattle.sc_lineage.proofs.PlaceLemmas.{at_or-get_or}

pub counted : (script : ScriptData) (n : ℕ) → IsSoundScript script → n < length script.nodes
    → IsCount (partition_limit script) (declared_count script n)
counted script n sound within =
    let counts = declared_counts script.nodes in
    let P : ℕ → Type 0 = IsCount (partition_limit script) in
    subst P (sym (at_or-get_or counts n 0))
    (sound.counts n 0 (omega (arith, (fold_laws count_step).lengths script.nodes)))
