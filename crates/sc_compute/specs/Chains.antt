-- Operations row by row that follow one another, with nothing else between two partitions.
use Rattle.std.specs.Prelude.{◌≡◌, Bool, false, List, [], ◌∷◌}
use Rattle.sc_ops.specs.Chains.{chain_stream}
use Rattle.sc_lineage.specs.Dependencies.{PlaceData}
use Rattle.sc_lineage.specs.Meaning.{local_stream}
use Rattle.sc_lineage.specs.ScriptData.{WorkData}
use Rattle.sc_lineage.specs.Views.{place_data_of}
use Rattle.sc_compute.specs.Asking.{IsThere}
use Rattle.sc_compute.specs.Caching.{is_cache}
use Rattle.sc_compute.specs.Keeping.{is_known}
use Rattle.sc_compute.specs.Reading.{direct_reads}
use Rattle.sc_compute.specs.Stages.{node_at}
use Rattle.sc_compute.specs.declared.chains.Chain.{Chain}
use Rattle.sc_compute.specs.declared.kept.KeptStreams.{KeptStreams}
use Rattle.sc_compute.specs.declared.stages.ShuffleInputs.{ShuffleInputs}

-- A path of partitions leads down to one: each but that one reads the next and nothing else, isn't
-- had, and is of no cache node.
abbrev pub PassesDown : WorkData → (PlaceData → Bool) → PlaceData → List PlaceData → PlaceData
    → Type 0
PassesDown work had at [] from = at ≡ from
PassesDown work had at (via ∷ path) from =
    (had at ≡ false) × (is_cache (node_at work at.node) ≡ false)
    × (direct_reads work at.node at.partition ≡ via ∷ []) × PassesDown work had via path from

-- operations lead to a partition: what they give of the one that they begin with is its stream,
-- and nothing is known or noted in between
pub record LeadsTo (work : WorkData) (stages : ShuffleInputs) (kept : KeptStreams) (at : PlaceData)
    (chain : Chain) : Type 0 where
  pub path : List PlaceData
  pub passes : PassesDown work (is_known kept) at path (place_data_of chain.from)
  pub there : IsThere work stages chain.from.node chain.from.partition
  pub gives : local_stream work at.node at.partition ≡ chain_stream chain.steps.items
      (local_stream work chain.from.node chain.from.partition)
