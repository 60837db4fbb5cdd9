-- When what lies in a store is right: it is the own value of its name, which doesn't raise.
use Rattle.std.specs.Prelude.{◌≡◌, List}
use Rattle.sc_value.specs.Datum.{Datum}
use Rattle.sc_ids.specs.declared.blocks.BlockId.{BlockId}
use Rattle.sc_lineage.specs.Meaning.{local_stream}
use Rattle.sc_lineage.specs.ScriptData.{WorkData}
use Rattle.sc_lineage.specs.Streams.{whole_stream}
use Rattle.sc_combine.specs.Outputs.{IsOutput}
use Rattle.sc_cache.specs.declared.names.CachedId.{CachedId}

-- what a task left under the name of a block is its own value, without a raise, by bucket
abbrev pub IsOwnBlock : WorkData → BlockId → List (List Datum) → Type 0
IsOwnBlock work id output = IsOutput work id.shuffle.node id.shuffle.side id.map output

-- rows under the name of a cached block are those of its partition, without a raise
abbrev pub IsOwnPartition : WorkData → CachedId → List Datum → Type 0
IsOwnPartition work id rows = local_stream work id.node id.partition ≡ whole_stream rows
