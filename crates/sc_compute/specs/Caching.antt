-- Partitions of cache nodes that are kept, and those that a task reads of them.
use Rattle.std.specs.Prelude.{◌≡◌, Bool, true, false}
use Rattle.std.specs.List.{All}
use Rattle.sc_lineage.specs.Meaning.{local_stream}
use Rattle.sc_lineage.specs.NodeData.{NodeData, cache_node}
use Rattle.sc_lineage.specs.ScriptData.{WorkData}
use Rattle.sc_lineage.specs.Streams.{whole_stream}
use Rattle.sc_compute.specs.Stages.{node_at}
use Rattle.sc_compute.specs.declared.caching.CachedPart.{CachedPart}
use Rattle.sc_compute.specs.declared.caching.Caching.{Caching}

-- a node is a cache node
abbrev pub is_cache : NodeData → Bool
is_cache (cache_node parent) = true
is_cache node = false

-- rows are those of a partition, which doesn't raise
abbrev pub IsOwnPart : WorkData → CachedPart → Type 0
IsOwnPart work part = local_stream work part.at.node part.at.partition ≡ whole_stream part.rows

-- the same of a partition of a cache node
pub record IsCachedPart (work : WorkData) (part : CachedPart) : Type 0 where
  pub cache : is_cache (node_at work part.at.node) ≡ true
  pub own : IsOwnPart work part

-- all that is known while a target is computed is right, and so is what was noted
pub record AreOwn (work : WorkData) (caching : Caching) : Type 0 where
  pub known : All (IsOwnPart work) caching.known.now
  pub fresh : All (IsCachedPart work) caching.fresh.items
