-- The law of the skipped shuffle: rows that already lie as an operation by key asks give the same
-- without a shuffle.
use Rattle.std.specs.Prelude.{ℕ, ◌≡◌, ◌<◌, false, List, length}
use Rattle.std.specs.List.{list_any}
use Rattle.sc_lineage.specs.Actions.{action_outcome, local_results, outcome_of_results}
use Rattle.sc_lineage.specs.Meaning.{local_streams, node_streams}
use Rattle.sc_lineage.specs.ScriptData.{ActionData, WorkData, IsSoundScript, node_of_action}
use Rattle.sc_lineage.specs.Streams.{raises}
use Rattle.sc_lineage.specs.declared.streams.Stream.{Stream}

-- Two meanings of a node agree: they have as many partitions, one raises in some partition exactly
-- where the other does, and where nothing raises they are equal.
pub record Agree (sequential local : List Stream) : Type 0 where
  pub counts : length local ≡ length sequential
  pub raising : list_any raises local ≡ list_any raises sequential
  pub same : list_any raises sequential ≡ false → local ≡ sequential

-- both meanings of each node agree
abbrev pub SkipLaw : Type 0
SkipLaw =
    (work : WorkData) (node : ℕ) → IsSoundScript work.script → node < length work.script.nodes
    → Agree (node_streams work node) (local_streams work node)

-- what is computed for an action, put together, is what the sequential meaning gives
abbrev pub OutcomeLaw : Type 0
OutcomeLaw =
    (work : WorkData) (action : ActionData) → IsSoundScript work.script
    → node_of_action action < length work.script.nodes
    → outcome_of_results action (local_results work action) ≡ action_outcome work action
